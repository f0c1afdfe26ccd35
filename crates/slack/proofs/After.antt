-- One cell of the slack, made over the last task of its first module from the last task down: what is greatest after l - 1 is the
-- greater of what is greatest after l and what ends at l. By the laws of the greatest over a range.
use Prim.Native.Nat.{ℕ, suc, ◌+◌, ◌-◌, ◌≤◌, ◌<◌}
use native.Mathlib.Omega.{arith}
use native.Mathlib.Nat.{le_trans, eq-or-lt_of_le}
use mathlib.Core.Path.{◌≡◌, sym, subst, ◌∙◌}
use mathlib.Core.Bool.{Bool, true, false, ◌&&◌}
use mathlib.Core.Logic.{inl, inr}
use lib.Dec.{T, ltb, ltb→lt, lt→ltb, nltb→le, not_T}
use Rattle.search.specs.Least.{pick}
use Rattle.search.proofs.Tests.{passed, failed, test, and_l, and_r, and_i}
use Rattle.search.proofs.Least.{pick_yes, pick_no}
use Rattle.slack.specs.Greatest.{larger, greatest}
use Rattle.slack.specs.Fill.{ends_at, cell_by, cell_after}
use Rattle.slack.proofs.Greatest.{below_eq, below_pick, pick_below, larger_ge, larger_below, greatest_ge, greatest_at, greatest_ext, greatest_none}

-- ---- the greatest after a place

-- it is the greater of the greatest after the next place and what stands there
greatest_after : (k l : ℕ) (f : ℕ → ℕ) → l < k
    → greatest (suc k) (λ i. pick (ltb l i) (f i) 0) ≡ larger (greatest (suc k) (λ i. pick (ltb (l + 1) i) (f i) 0)) (f (l + 1))
greatest_after k l f h =
    let g : (j i : ℕ) → ℕ = λ j i. pick (ltb j i) (f i) 0 in
    let a = greatest (suc k) (g (l + 1)) in
    let w = larger_ge a (f (l + 1)) in
    below_eq (greatest (suc k) (g l)) (larger a (f (l + 1)))
    (λ x u.
    let (i, d, v) = greatest_at (suc k) (g l) x u in
    let (t, y) = below_pick (ltb l i) x (f i) v in
    let z : l + 1 ≤ i = omega (arith, ltb→lt l i t) in
    elim (eq-or-lt_of_le z) [
      | inl e ↦ le_trans (subst (λ n. x < f n) (sym e) y) w.1
      | inr c ↦ le_trans (pick_below (ltb (l + 1) i) x (f i) (lt→ltb (l + 1) i c) y) (le_trans (greatest_ge (suc k) (g (l + 1)) i d) w.0)
    ])
    (λ x u. elim (larger_below a (f (l + 1)) x u) [
      | inl y ↦
          let (i, d, v) = greatest_at (suc k) (g (l + 1)) x y in
          let (t, z) = below_pick (ltb (l + 1) i) x (f i) v in
          le_trans (pick_below (ltb l i) x (f i) (lt→ltb l i (omega (arith, ltb→lt (l + 1) i t))) z) (greatest_ge (suc k) (g l) i d)
      | inr y ↦
          le_trans (pick_below (ltb l (l + 1)) x (f (l + 1)) (lt→ltb l (l + 1) (omega arith)) y)
          (greatest_ge (suc k) (g l) (l + 1) (omega arith))
    ])

module _ (fits : (t l q : ℕ) → Bool) (replicable : (t l : ℕ) → Bool) (body : (t l q : ℕ) → ℕ) (O B : (l q b : ℕ) → ℕ) (t q b : ℕ) where
  -- ---- a first module up to l

  -- it has no task
  pub ends_before : (l : ℕ) → l ≤ t → ends_at fits replicable body O B t q b l ≡ 0
  unfolding ends_at
  ends_before l h = pick_no (ltb t l && fits t l q) _ 0
      (not_T (ltb t l && fits t l q) (λ u. absurd (omega (arith, ltb→lt t l (and_l (ltb t l) (fits t l q) u)))))

  -- it does not fit
  pub ends_not : (l : ℕ) → fits t l q ≡ false → ends_at fits replicable body O B t q b l ≡ 0
  unfolding ends_at
  ends_not l e = pick_no (ltb t l && fits t l q) _ 0
      (not_T (ltb t l && fits t l q) (λ u. subst (λ a. T a) e (and_r (ltb t l) (fits t l q) u)))

  -- it fits
  ends_fits : (l : ℕ) → t < l → fits t l q ≡ true
      → ends_at fits replicable body O B t q b l ≡ pick (replicable t l) (B l q b) (O l q b) - body t l q
  unfolding ends_at
  ends_fits l h e = pick_yes (ltb t l && fits t l q) _ 0 (and_i (ltb t l) (fits t l q) (lt→ltb t l h) (subst (λ a. T a) (sym e) tt))

  -- and may have copies
  pub ends_any : (l : ℕ) → t < l → fits t l q ≡ true → replicable t l ≡ true
      → ends_at fits replicable body O B t q b l ≡ B l q b - body t l q
  unfolding pick
  ends_any l h e d = ends_fits l h e ∙ rw d

  -- or may not
  pub ends_one : (l : ℕ) → t < l → fits t l q ≡ true → replicable t l ≡ false
      → ends_at fits replicable body O B t q b l ≡ O l q b - body t l q
  unfolding pick
  ends_one l h e d = ends_fits l h e ∙ rw d

  -- ---- the greatest over those that end after l

  -- after the last task there is none
  pub after_none : (k l : ℕ) → k ≤ l → cell_after fits replicable body O B k l t q b ≡ 0
  unfolding cell_after
  after_none k l h = greatest_none (suc k) _ (λ i u. pick_no (ltb l i) _ 0 (not_T (ltb l i) (λ v. absurd (omega (arith, ltb→lt l i v)))))

  -- one task more
  pub after_more : (k l : ℕ) → l < k
      → cell_after fits replicable body O B k l t q b
      ≡ larger (cell_after fits replicable body O B k (l + 1) t q b) (ends_at fits replicable body O B t q b (l + 1))
  unfolding cell_after
  after_more k l h = greatest_after k l (ends_at fits replicable body O B t q b) h

  -- no module of the cell ends before the task t + 1
  pub after_all : (k l : ℕ) → l ≤ t → cell_after fits replicable body O B k l t q b ≡ cell_by fits replicable body O B k t q b
  unfolding cell_after cell_by
  after_all k l h = greatest_ext (suc k) _ (ends_at fits replicable body O B t q b) (λ i u. elim (test (ltb l i)) [
    | passed v ↦ pick_yes (ltb l i) _ 0 v
    | failed v ↦ pick_no (ltb l i) _ 0 v ∙ sym (ends_before i (omega (arith, nltb→le l i v)))
  ])
