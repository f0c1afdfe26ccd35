-- Valid plans: taken apart and put together, bounds on the first module, weaker rules, pruning, and that what weighs less than
-- the cap is on the board. By induction on the plan.
use Prim.Native.Nat.{ℕ, suc, ◌+◌, ◌*◌, ◌≤◌, ◌<◌}
use native.Mathlib.Omega.{arith}
use native.Mathlib.Nat.{le_refl, mul-le-mul, lt_of_mul-lt-mul_left}
use mathlib.Core.Path.{◌≡◌, refl, sym}
use mathlib.Core.Bool.{Bool, ◌&&◌}
use mathlib.Core.List.{List, [], ◌∷◌}
use lib.Dec.{T, leb, leb→le, le→leb, eqb, eqb→eq}
use Rattle.modules.specs.declared.Module.{Module}
use Rattle.figures.specs.Model.{head_cores, cores_of}
use Rattle.search.specs.Plan.{Rule, Problem, module_after, of, valid, tight, weight, cap, Priced}
use Rattle.search.proofs.Tests.{and_l, and_r, and_i, eq→eqb}

-- ---- valid plans

module _ (k : ℕ) (fits : Rule) where
  module _ (s t : ℕ) (x : Module) (ms : List Module) where
    -- the first module starts with the task t + 1
    abbrev starts : Bool
    starts = eqb x.first (t + 1)

    -- it fits
    abbrev fitting : Bool
    fitting = of fits s t x (head_cores ms)

    -- the rest is valid after it
    abbrev rest : Bool
    rest = valid k fits x.cores x.last ms

    pub valid_first : T (valid k fits s t (x ∷ ms)) → x.first ≡ t + 1
    valid_first v = eqb→eq x.first (t + 1) (and_l starts fitting (and_l (starts && fitting) rest v))

    pub valid_head : T (valid k fits s t (x ∷ ms)) → T (of fits s t x (head_cores ms))
    valid_head v = and_r starts fitting (and_l (starts && fitting) rest v)

    pub valid_tail : T (valid k fits s t (x ∷ ms)) → T (valid k fits x.cores x.last ms)
    valid_tail v = and_r (starts && fitting) rest v

    pub valid_cons : x.first ≡ t + 1 → T (of fits s t x (head_cores ms)) → T (valid k fits x.cores x.last ms)
        → T (valid k fits s t (x ∷ ms))
    valid_cons e u v = and_i (starts && fitting) rest (and_i starts fitting (eq→eqb x.first (t + 1) e) u) v

    -- so it is the module after t of its last task, copies and cores
    pub valid_module : T (valid k fits s t (x ∷ ms)) → module_after t x.last x.copies x.cores ≡ x
    valid_module v =
        let e = sym (valid_first v) in
        λ i. record { first = e i; last = x.last; copies = x.copies; cores = x.cores }

  -- a module that fits has a task, no task past the last, a copy, and a core
  pub record Fair : Type 0 where
    pub fair : (s t l r p q : ℕ) → T (fits s t l r p q) → (t < l) × (l ≤ k) × (1 ≤ r) × (1 ≤ p)

  module _ (F : Fair) where
    pub fair_at : (s t : ℕ) (x : Module) (ms : List Module) → T (valid k fits s t (x ∷ ms))
        → (t < x.last) × (x.last ≤ k) × (1 ≤ x.copies) × (1 ≤ x.cores)
    fair_at s t x ms v = F.fair s t x.last x.copies x.cores (head_cores ms) (valid_head s t x ms v)

    -- the cores of a plan are at least those of a copy of its first module, and at least that module's copies
    pub head_le : (s t : ℕ) (ms : List Module) → T (valid k fits s t ms) → head_cores ms ≤ cores_of ms
    unfolding cores_of
    head_le s t [] v = le_refl 0
    head_le s t (x ∷ ms) v = omega (arith, mul-le-mul (fair_at s t x ms v).2 (le_refl x.cores))

    pub copies_le : (s t : ℕ) (x : Module) (ms : List Module) → T (valid k fits s t (x ∷ ms)) → x.copies ≤ x.copies * x.cores
    copies_le s t x ms v = omega (arith, mul-le-mul (le_refl x.copies) (fair_at s t x ms v).3)

-- ---- a weaker rule keeps what is valid

pub valid_map : (k : ℕ) (f g : Rule) → ((s t l r p q : ℕ) → T (f s t l r p q) → T (g s t l r p q))
    → (s t : ℕ) (ms : List Module) → T (valid k f s t ms) → T (valid k g s t ms)
valid_map k f g h s t [] v = v
valid_map k f g h s t (x ∷ ms) v =
    valid_cons k g s t x ms (valid_first k f s t x ms v)
    (h s t x.last x.copies x.cores (head_cores ms) (valid_head k f s t x ms v))
    (valid_map k f g h x.cores x.last ms (valid_tail k f s t x ms v))

-- it may use that the first task has no module before it and the last one none after it
pub valid_place : (k : ℕ) (f g : Rule) → Fair k f
    → ((s t l r p q : ℕ) → (t ≡ 0 → s ≡ 0) → (l ≡ k → q ≡ 0) → T (f s t l r p q) → T (g s t l r p q))
    → (s t : ℕ) (ms : List Module) → (t ≡ 0 → s ≡ 0) → T (valid k f s t ms) → T (valid k g s t ms)
valid_place k f g F h s t [] e v = v
valid_place k f g F h s t (x ∷ ms) e v =
    let d = valid_tail k f s t x ms v in
    valid_cons k g s t x ms (valid_first k f s t x ms v)
    (h s t x.last x.copies x.cores (head_cores ms) e (none_after ms d) (valid_head k f s t x ms v))
    (valid_place k f g F h x.cores x.last ms (λ z. absurd (omega (arith, (fair_at k f F s t x ms v).0))) d)
  where
    none_after : (ns : List Module) → T (valid k f x.cores x.last ns) → x.last ≡ k → head_cores ns ≡ 0
    none_after [] w z = refl
    none_after (y ∷ ns) w z = absurd (omega (arith, fair_at k f F x.cores x.last y ns w))

-- ---- pruning: a module must have room beside one copy of the module before and one of the module after

module _ (P : ℕ) (fits : Rule) where
  pub tight_fits : (s t l r p q : ℕ) → T (tight P fits s t l r p q) → T (fits s t l r p q)
  tight_fits s t l r p q u = and_l (fits s t l r p q) (leb (s + r * p + q) P) u

  pub tight_room : (s t l r p q : ℕ) → T (tight P fits s t l r p q) → s + r * p + q ≤ P
  tight_room s t l r p q u = leb→le (s + r * p + q) P (and_r (fits s t l r p q) (leb (s + r * p + q) P) u)

  pub tight_i : (s t l r p q : ℕ) → T (fits s t l r p q) → s + r * p + q ≤ P → T (tight P fits s t l r p q)
  tight_i s t l r p q u h = and_i (fits s t l r p q) (leb (s + r * p + q) P) u (le→leb (s + r * p + q) P h)

  pub tight_fair : (k : ℕ) → Fair k fits → Fair k (tight P fits)
  tight_fair k F = record { fair = λ s t l r p q u. F.fair s t l r p q (tight_fits s t l r p q u) }

  -- a plan that fits the board loses nothing
  pub valid_tight : (k : ℕ) → Fair k fits → (s t : ℕ) (ms : List Module) → T (valid k fits s t ms) → s + cores_of ms ≤ P
      → T (valid k (tight P fits) s t ms)
  unfolding cores_of
  valid_tight k F s t [] v h = v
  valid_tight k F s t (x ∷ ms) v h =
      let d = valid_tail k fits s t x ms v in
      valid_cons k (tight P fits) s t x ms (valid_first k fits s t x ms v)
      (tight_i s t x.last x.copies x.cores (head_cores ms) (valid_head k fits s t x ms v)
      (omega (arith, head_le k fits F x.cores x.last ms d)))
      (valid_tight k F x.cores x.last ms d (omega (arith, mul-le-mul (fair_at k fits F s t x ms v).2 (le_refl x.cores))))

-- ---- weight

module _ (X : Problem) (A : Priced X) where
  -- the cores of a plan are paid for
  pub cores_weigh : (s t : ℕ) (ms : List Module) → X.unit * cores_of ms ≤ weight X s t ms
  unfolding cores_of
  cores_weigh s t [] = omega arith
  cores_weigh s t (x ∷ ms) =
      omega (arith, A.covers s t x.last x.copies x.cores (head_cores ms), cores_weigh x.cores x.last ms)

  -- what weighs less than the cap has at most the cores of the board
  pub on_board : (s t : ℕ) (ms : List Module) → weight X s t ms < cap X → cores_of ms ≤ X.board
  unfolding cap
  on_board s t ms h =
      let d : cores_of ms < suc X.board = lt_of_mul-lt-mul_left X.unit (omega (arith, cores_weigh s t ms)) in
      omega arith
