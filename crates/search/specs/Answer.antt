-- The planner's answer: the plan of the least feasible threshold. Assumes nothing.
use Rattle.std.specs.Prelude.{ℕ, suc, ◌<◌, Bool, cond, ◌⊎◌, List, T, ltb}
use Rattle.std.proofs.Math.Option.{Option, none, some}
use Rattle.modules.specs.declared.Module.{Module}
use Rattle.search.specs.Find.{find}
use Rattle.search.specs.Plan.{Problem, cap}
use Rattle.search.specs.Fraction.{Frac, Below, Same}
use Rattle.search.specs.Bottleneck.{plan_bottleneck, Keeps}
use Rattle.search.specs.Best.{plan_weight, light, plan}

module _ (X : Problem) where
  -- some plan is within n, as a test
  abbrev pub feasible : ℕ → Bool
  feasible n = ltb (light X n) (cap X)

  -- the first feasible threshold up to U
  unfoldable pub first_feasible : ℕ → ℕ
  first_feasible U = find (suc U) 0 feasible

  -- the plan of the first feasible threshold up to U, where there is one
  unfoldable pub answer : ℕ → Option (List Module)
  answer U = cond (feasible U) (some (plan X (first_feasible U))) none

-- a has a lower bottleneck f than b, or the same and a lower measure g
abbrev pub Better : (List Module → Frac) → (List Module → ℕ) → List Module → List Module → Type 0
Better f g a b = Below (f a) (f b) ⊎ (Same (f a) (f b) × (g a < g b))

-- among plans that keep the rules, the test c decides by the bottleneck and then by the weight
pub record Decides (X : Problem) (c : List Module → List Module → Bool) : Type 0 where
  pub sound : (a b : List Module) → Keeps X a → Keeps X b → T (c a b) → Better (plan_bottleneck X) (plan_weight X) a b
  pub complete : (a b : List Module) → Keeps X a → Keeps X b → Better (plan_bottleneck X) (plan_weight X) a b → T (c a b)
