-- The records of plan bytes as a list of modules, one after another, with their cores, responses and single-block time. Assumes nothing.
use mathlib.Core.Path.{◌≡◌, refl, ap}
use mathlib.Core.Bool.{true, false, cond}
use mathlib.Core.Logic.{⊎_elim}
use mathlib.Core.List.{List, [], ◌∷◌}
use Prim.Native.Nat.{ℕ, zero, suc, ◌+◌, ◌-◌, ◌*◌, ◌≤◌, ◌<◌}
use native.Mathlib.Nat.{zero-add}
use native.Mathlib.Numerals.{add-one}
use native.Mathlib.Omega.{arith}
use lib.Dec.{ltb}
use lib.ListN.{length, get_or, get_or-eq_default}
use borrow.Author.Tests.{lt-ltb, le-ltb}
use Rattle.records.proofs.Cases.{lt_or_le}
use Rattle.modules.specs.declared.Module.{Module}
use Rattle.modules.specs.Model.{Chain, response, passage}
use Rattle.modules.proofs.Left.{left_some, left_none}
use Rattle.layout.specs.Layout.{module_at, modules_from}
use Rattle.figures.specs.declared.Slowest.{Slowest}
use Rattle.figures.specs.Model.{head_cores, responses, cores_of, slower_of, slowest_from, bottleneck, block_time}
use Rattle.figures.specs.Plan.{cores_before, slowness_at}

pub modules_length : (w : List ℕ) (i n : ℕ) → length (modules_from w i n) ≡ n
unfolding modules_from
modules_length w i zero = refl
modules_length w i (suc n) = ap suc (modules_length w (i + 1) n)

modules_from_lem : (w : List ℕ) (n i j : ℕ) (d : Module) → j < n → get_or (modules_from w i n) j d ≡ module_at w (i + j)
unfolding modules_from
modules_from_lem w zero i j d h = absurd (omega arith)
modules_from_lem w (suc n) i zero d h = let e : i + 0 ≡ i = omega arith in rw e (refl)
modules_from_lem w (suc n) i (suc j) d h = let e : i + suc j ≡ i + 1 + j = omega arith in rw e (modules_from_lem w n (i + 1) j d (omega arith))

pub modules_at : (w : List ℕ) (n j : ℕ) (d : Module) → j < n → get_or (modules_from w 0 n) j d ≡ module_at w j
modules_at w n j d h = rw (zero-add j) at (modules_from_lem w n 0 j d h)

module _ (w : List ℕ) (i n : ℕ) where
  pub modules_step : i < n → modules_from w i (n - i) ≡ module_at w i ∷ modules_from w (i + 1) (n - (i + 1))
  unfolding modules_from
  modules_step h = rw (left_some h)

  pub modules_end : n ≤ i → modules_from w i (n - i) ≡ []
  unfolding modules_from
  modules_end h = rw (left_none h)

  pub head_cores_lem : head_cores (modules_from w i (n - i)) ≡ cond (ltb i n) (module_at w i).cores 0
  head_cores_lem = ⊎_elim
      (λ h. rw (modules_step h) (simp (lt-ltb i n h)))
      (λ h. rw (modules_end h) (simp (le-ltb i n h)))
      (lt_or_le i n)

  pub cores_step : {m : Module} → i < n → m ≡ module_at w i
      → cores_of (modules_from w i (n - i)) ≡ m.copies * m.cores + cores_of (modules_from w (i + 1) (n - (i + 1)))
  unfolding cores_of
  cores_step h e = rw (modules_step h, e)

  pub cores_end : n ≤ i → cores_of (modules_from w i (n - i)) ≡ 0
  unfolding cores_of
  cores_end h = rw (modules_end h)

-- ---- the single-block time

module _ (c : Chain) (w : List ℕ) (i n : ℕ) where
  pub time_step : {m : Module} {q x : ℕ} → i < n → m ≡ module_at w i → q ≡ cond (ltb (i + 1) n) (module_at w (i + 1)).cores 0
      → x ≡ passage c m.first m.last m.copies m.cores q → block_time c (modules_from w i (n - i)) ≡ x + block_time c (modules_from w (i + 1) (n - (i + 1)))
  unfolding block_time
  time_step h e f g = rw (modules_step w i n h, g, e, f, head_cores_lem w (i + 1) n)

  pub time_end : n ≤ i → block_time c (modules_from w i (n - i)) ≡ 0
  unfolding block_time
  time_end h = rw (modules_end w i n h)

-- ---- the cores before a record

pub cores_before_some : (w : List ℕ) (i : ℕ) → 0 < i → cores_before w i ≡ (module_at w (i - 1)).cores
unfolding cores_before
cores_before_some w zero h = absurd (omega arith)
cores_before_some w (suc i) h = let e : suc i - 1 ≡ i = omega arith in rw e

pub cores_before_next : (w : List ℕ) (i : ℕ) → cores_before w (i + 1) ≡ (module_at w i).cores
unfolding cores_before
cores_before_next w i = rw (add-one i)

-- ---- a record with its response

-- from its module, the cores before and after it, and the response between them
pub slowness_made : (c : Chain) (w : List ℕ) (n i : ℕ) {m : Module} {s q r : ℕ} → m ≡ module_at w i → s ≡ cores_before w i
    → q ≡ cond (ltb (i + 1) n) (module_at w (i + 1)).cores 0 → r ≡ response c s m.first m.last m.copies m.cores q
    → record { number = i + 1; response = r; copies = m.copies } ≡ slowness_at c w n i
unfolding slowness_at
slowness_made c w n i e f g h = rw (h, e, f, g, head_cores_lem w (i + 1) n)

-- ---- the bottleneck

pub slowest_start : (c : Chain) (w : List ℕ) (n : ℕ) → 0 < n
    → bottleneck c (modules_from w 0 n) ≡ slowest_from c (cores_before w 1) 2 (slowness_at c w n 0) (modules_from w 1 (n - 1))
unfolding bottleneck slowness_at cores_before modules_from
slowest_start c w zero h = absurd (omega arith)
slowest_start c w (suc n) h = let q : suc n - 1 ≡ n = omega arith in rw q

module _ (c : Chain) (w : List ℕ) (i n : ℕ) (x : Slowest) where
  pub slowest_next : i < n
      → slowest_from c (cores_before w i) (i + 1) x (modules_from w i (n - i))
      ≡ slowest_from c (cores_before w (i + 1)) (i + 1 + 1) (slower_of x (slowness_at c w n i)) (modules_from w (i + 1) (n - (i + 1)))
  unfolding slowest_from slowness_at
  slowest_next h = rw (modules_step w i n h, cores_before_next w i)

  pub slowest_end : n ≤ i → slowest_from c (cores_before w i) (i + 1) x (modules_from w i (n - i)) ≡ x
  unfolding slowest_from
  slowest_end h = rw (modules_end w i n h)

pub slower_keeps : (P : Slowest → Type 0) (x y : Slowest) → P x → P y → P (slower_of x y)
unfolding slower_of
slower_keeps P x y h i =
    elim (ltb (x.response * y.copies) (y.response * x.copies)) as (λ t. P (cond t y x)) [ true ↦ i | false ↦ h ]

-- ---- the responses

responses_length : (c : Chain) (s : ℕ) (ms : List Module) → length (responses c s ms) ≡ length ms
unfolding responses
responses_length c s [] = refl
responses_length c s (m ∷ ms) = ap suc (responses_length c m.cores ms)

module _ (c : Chain) (w : List ℕ) where
  responses_from : (n i j : ℕ) → j < n → get_or (responses c (cores_before w i) (modules_from w i n)) j 0 ≡ (slowness_at c w (i + n) (i + j)).response
  unfolding responses modules_from slowness_at
  responses_from zero i j h = absurd (omega arith)
  responses_from (suc n) i zero h =
      let e : i + 0 ≡ i = omega arith in
      let q : i + suc n - (i + 1) ≡ n = omega arith in
      rw (e, q)
  responses_from (suc n) i (suc j) h =
      let e : i + suc j ≡ i + 1 + j = omega arith in
      let q : i + suc n ≡ i + 1 + n = omega arith in
      rw (e, q) (rw (cores_before_next w i) at (responses_from n (i + 1) j (omega arith)))

  pub response_some : (n i : ℕ) → i < n → get_or (responses c 0 (modules_from w 0 n)) i 0 ≡ (slowness_at c w n i).response
  unfolding cores_before
  response_some n i h = simp zero-add at (responses_from n 0 i h)

  pub response_none : (n i : ℕ) → n ≤ i → get_or (responses c 0 (modules_from w 0 n)) i 0 ≡ 0
  response_none n i h =
      get_or-eq_default (responses c 0 (modules_from w 0 n)) 0 (omega (arith, responses_length c 0 (modules_from w 0 n), modules_length w 0 n))
