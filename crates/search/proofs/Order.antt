-- Module order is strict, and how two plans compare: nothing is better than what beats it. By cases on the first place where two
-- plans differ.
use Prim.Native.Nat.{ℕ}
use native.Mathlib.Omega.{arith}
use mathlib.Core.Logic.{inl, inr}
use mathlib.Core.List.{List, [], ◌∷◌}
use Rattle.modules.specs.declared.Module.{Module}
use Rattle.figures.specs.Plan.{ModuleBefore, Before}
use Rattle.search.specs.Fraction.{Frac, AtMost}
use Rattle.search.specs.Order.{Beats}
use Rattle.search.specs.Answer.{Better}

-- ---- module order is strict

module_before_asym : (x y : Module) → ModuleBefore x y → ModuleBefore y x → ⊥
unfolding ModuleBefore
module_before_asym x y (inl a) (inl b) = omega arith
module_before_asym x y (inl a) (inr b) = omega (arith, b.0)
module_before_asym x y (inr a) (inl b) = omega (arith, a.0)
module_before_asym x y (inr (e, inl a)) (inr (d, inl b)) = omega arith
module_before_asym x y (inr (e, inl a)) (inr (d, inr b)) = omega (arith, b.0)
module_before_asym x y (inr (e, inr a)) (inr (d, inl b)) = omega (arith, a.0)
module_before_asym x y (inr (e, inr a)) (inr (d, inr b)) = omega (arith, a.1, b.1)

pub before_asym : (xs ys : List Module) → Before xs ys → Before ys xs → ⊥
unfolding Before
before_asym [] [] p q = p
before_asym [] (y ∷ ys) p q = q
before_asym (x ∷ xs) [] p q = p
before_asym (x ∷ xs) (y ∷ ys) (inl a) (inl b) = module_before_asym x y a b
before_asym (x ∷ xs) (y ∷ ys) (inl a) (inr (e, b)) = module_before_asym x x (rw e at a) (rw e at a)
before_asym (x ∷ xs) (y ∷ ys) (inr (e, a)) (inl b) = module_before_asym y y (rw e at b) (rw e at b)
before_asym (x ∷ xs) (y ∷ ys) (inr (e, a)) (inr (d, b)) = before_asym xs ys a b

-- ---- how two plans compare

module _ (f : List Module → Frac) (g : List Module → ℕ) (a b : List Module) where
  -- nothing is better than what beats it
  pub beats_top : Beats f g a b → Better f g b a → ⊥
  unfolding Beats
  beats_top (inl x) (inl y) = omega arith
  beats_top (inl x) (inr (y, z)) = omega arith
  beats_top (inr (x, u)) (inl y) = omega arith
  beats_top (inr (x, inl u)) (inr (y, z)) = omega arith
  beats_top (inr (x, inr (u, v))) (inr (y, z)) = omega arith

  -- what beats a plan that comes before it is better
  pub beats_ahead : Beats f g a b → Before b a → Better f g a b
  unfolding Beats
  beats_ahead (inl x) h = inl x
  beats_ahead (inr (x, inl u)) h = inr (x, u)
  beats_ahead (inr (x, inr (u, inl e))) h = absurd (before_asym b b (rw e at h) (rw e at h))
  beats_ahead (inr (x, inr (u, inr v))) h = absurd (before_asym a b v h)

-- what beats a plan has no greater bottleneck
pub beats_at_most : (f : List Module → Frac) (g : List Module → ℕ) (a b : List Module) → Beats f g a b → AtMost (f a) (f b)
unfolding Beats
beats_at_most f g a b (inl x) = omega arith
beats_at_most f g a b (inr (x, h)) = omega arith
