-- Step 1: the start is one module after another, each up to its last task; it covers the chain in single copies, each of 1 to
-- P + 1 cores. By induction along the tasks. Assumes nothing.
use mathlib.Core.Path.{◌≡◌, refl, sym, ◌∙◌}
use mathlib.Core.Bool.{true, false, cond}
use mathlib.Core.List.{List, [], ◌∷◌}
use mathlib.Core.Logic.{⊎_elim}
use Prim.Native.Nat.{ℕ, zero, suc, ◌+◌, ◌-◌, ◌/◌, ◌^◌, min, ◌≤◌, ◌<◌}
use native.Mathlib.Omega.{arith}
use lib.Count.{trailing_of_zero}
use lib.Dec.{leb}
use mir.Syntax.{w16}
use Rattle.std.specs.Int.{bit_at, trailing_zeros}
use Rattle.std.proofs.lemmas.Nat.{shr_le}
use Rattle.std.proofs.lemmas.Nat.Bits.{bit_at-trailing_zeros, bit_at-zero}
use Rattle.greedy.proofs.Bits.{bit_shifted}
use borrow.Author.Tests.{le-leb, lt-leb}
use Rattle.records.proofs.Cases.{lt_or_le, true_or_false}
use Rattle.modules.specs.declared.Module.{Module}
use Rattle.modules.specs.Model.{Chain}
use Rattle.modules.specs.Rules.{memory_fits, fewest_from, fewest_cores}
use Rattle.figures.specs.Rules.{covers}
use Rattle.figures.proofs.Covering.{covers_cons, covers_nil}
use Rattle.greedy.specs.Greedy.{bit, least, start_from, start}
use Rattle.greedy.specs.Assignment.{last_of, Single}

-- ---- the last task of a module

bit_clear : (x i : ℕ) → bit_at x i ≡ 0 → bit x i ≡ false
unfolding bit
bit_clear x i e = rw e

bit_there : (x i : ℕ) → bit_at x i ≡ 1 → bit x i ≡ true
unfolding bit
bit_there x i e = rw e

-- by the first bit that ends one
last_first : (g n t m : ℕ) → 1 ≤ t → ((i : ℕ) → i < m → bit g (t - 1 + i) ≡ false) → (m < n → bit g (t - 1 + m) ≡ true) → last_of g t n ≡ t + min m n
unfolding last_of
last_first g zero t m h none there = omega arith
last_first g (suc n) t zero h none there =
    let e : t - 1 + 0 ≡ t - 1 = omega arith in
    let b = rw e at (there (omega arith)) in
    rw b (omega arith)
last_first g (suc n) t (suc m) h none there =
    let e : t - 1 + 0 ≡ t - 1 = omega arith in
    let b = rw e at (none 0 (omega arith)) in
    let next : (i : ℕ) → t + 1 - 1 + i ≡ t - 1 + suc i = λ i. omega arith in
    rw b (omega (arith, last_first g n (t + 1) m (omega arith) (λ i l. rw (next i) (none (suc i) (omega arith))) (λ l. rw (next m) (there (omega arith)))))

-- which is the lowest of the bits that are left
pub last_trailing : (g t k : ℕ) → 1 ≤ t → t ≤ k → k ≤ 16 → g < 65536 → last_of g t (k - t) ≡ t + min (trailing_zeros w16 (g / 2 ^ (t - 1))) (k - t)
last_trailing g t k h l few small = ⊎_elim some none (lt_or_le 0 (g / 2 ^ (t - 1)))
  where
    some : 0 < g / 2 ^ (t - 1) → last_of g t (k - t) ≡ t + min (trailing_zeros w16 (g / 2 ^ (t - 1))) (k - t)
    some p =
        let x = g / 2 ^ (t - 1) in
        let lowest = bit_at-trailing_zeros w16 x p (omega (arith, shr_le g (t - 1))) in
        last_first g (k - t) t (trailing_zeros w16 x) h
        (λ i m. sym (bit_shifted g (t - 1) i) ∙ bit_clear x i (lowest.2 i m))
        (λ m. sym (bit_shifted g (t - 1) (trailing_zeros w16 x)) ∙ bit_there x (trailing_zeros w16 x) lowest.1)

    none : g / 2 ^ (t - 1) ≤ 0 → last_of g t (k - t) ≡ t + min (trailing_zeros w16 (g / 2 ^ (t - 1))) (k - t)
    none p =
        let x = g / 2 ^ (t - 1) in
        let e : x ≡ 0 = omega arith in
        let all : trailing_zeros w16 x ≡ 16 = rw e (trailing_of_zero 16) in
        last_first g (k - t) t (trailing_zeros w16 x) h
        (λ i m. sym (bit_shifted g (t - 1) i) ∙ bit_clear x i (rw e (bit_at-zero i)))
        (λ m. absurd (omega arith))

-- ---- the modules from task `first` on, of k tasks; none where `first` is past the last task

unfoldable pub start_at : Chain → ℕ → ℕ → ℕ → List Module
start_at c g k first = cond (leb first k) (start_from c g first first (k - first)) []

module _ (c : Chain) (g : ℕ) where
  start_some : (k first : ℕ) → first ≤ k → start_at c g k first ≡ start_from c g first first (k - first)
  unfolding start_at
  start_some k first h = simp (le-leb first k h)

  pub start_none : (k first : ℕ) → k < first → start_at c g k first ≡ []
  unfolding start_at
  start_none k first h = simp (lt-leb first k h)

  start_from_lem : (n first t : ℕ) → start_from c g first t n ≡ least c first (last_of g t n) ∷ start_at c g (t + n) (last_of g t n + 1)
  unfolding start_from last_of
  start_from_lem zero first t = rw (start_none (t + 0) (t + 1) (omega arith))
  start_from_lem (suc n) first t = ⊎_elim
      (λ (b : bit g (t - 1) ≡ true).
      let e : t + suc n - (t + 1) ≡ n = omega arith in
      rw (b, start_some (t + suc n) (t + 1) (omega arith), e))
      (λ (b : bit g (t - 1) ≡ false).
      let e : t + suc n ≡ t + 1 + n = omega arith in
      rw (b, e) (start_from_lem n first (t + 1)))
      (true_or_false (bit g (t - 1)))

  pub start_next : (k first : ℕ) → first ≤ k
      → start_at c g k first ≡ least c first (last_of g first (k - first)) ∷ start_at c g k (last_of g first (k - first) + 1)
  start_next k first h =
      let e : first + (k - first) ≡ k = omega arith in
      start_some k first h ∙ rw e at (start_from_lem (k - first) first first)

  pub start_all : 1 ≤ c.tasks → start c g ≡ start_at c g c.tasks 1
  unfolding start
  start_all h = sym (start_some c.tasks 1 h)

-- ---- the fewest cores

module _ (c : Chain) (first last : ℕ) where
  fewest_from_lem : (n p : ℕ) → (p + 1 ≤ fewest_from c first last p n) × (fewest_from c first last p n ≤ p + n + 1)
  unfolding fewest_from
  fewest_from_lem zero p = omega arith
  fewest_from_lem (suc n) p = ⊎_elim
      (λ (t : memory_fits c first last (p + 1) ≡ true). rw t (omega arith))
      (λ (t : memory_fits c first last (p + 1) ≡ false). rw t (omega (arith, fewest_from_lem n (p + 1))))
      (true_or_false (memory_fits c first last (p + 1)))

  pub fewest_range : (1 ≤ fewest_cores c first last) × (fewest_cores c first last ≤ c.board + 1)
  unfolding fewest_cores
  fewest_range = omega (arith, fewest_from_lem c.board 0)

-- ---- the whole start

module _ (c : Chain) (g : ℕ) where
  covers_from : (n first t : ℕ) → first ≤ t → covers (t + n) first (start_from c g first t n) ≡ true
  unfolding start_from
  covers_from zero first t h =
      covers_cons (t + 0) first (least c first t) [] refl h (omega arith) (omega arith) (fewest_range c first t).0 (covers_nil (t + 0) (t + 1) (omega arith))
  covers_from (suc n) first t h =
      let e : t + suc n ≡ t + 1 + n = omega arith in
      ⊎_elim
      (λ (b : bit g (t - 1) ≡ true).
      rw b (covers_cons (t + suc n) first (least c first t) (start_from c g (t + 1) (t + 1) n) refl h (omega arith) (omega arith) (fewest_range c first t).0
      (rw e (covers_from n (t + 1) (t + 1) (omega arith)))))
      (λ (b : bit g (t - 1) ≡ false). rw (b, e) (covers_from n first (t + 1) (omega arith)))
      (true_or_false (bit g (t - 1)))

  single_from : (n first t : ℕ) → Single (start_from c g first t n)
  unfolding start_from
  single_from zero first t = (refl, tt)
  single_from (suc n) first t = ⊎_elim
      (λ (b : bit g (t - 1) ≡ true). rw b (refl, single_from n (t + 1) (t + 1)))
      (λ (b : bit g (t - 1) ≡ false). rw b (single_from n first (t + 1)))
      (true_or_false (bit g (t - 1)))

  pub start_covered : 1 ≤ c.tasks → covers c.tasks 1 (start c g) ≡ true
  unfolding start
  start_covered h = let e : 1 + (c.tasks - 1) ≡ c.tasks = omega arith in rw e at (covers_from (c.tasks - 1) 1 1 (omega arith))

  pub start_single : Single (start c g)
  unfolding start
  start_single = single_from (c.tasks - 1) 1 1
