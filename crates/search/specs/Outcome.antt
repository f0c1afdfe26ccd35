-- What an answer says of a problem: no plan keeps the rules, or the best plan and the least bottleneck; and how the answers to
-- two problems compare. Assumes nothing.
use Rattle.std.specs.Prelude.{ℕ, ◌≡◌, List}
use Rattle.std.proofs.Math.Option.{Option, none, some}
use Rattle.modules.specs.declared.Module.{Module}
use Rattle.search.specs.Plan.{Problem}
use Rattle.search.specs.Fraction.{Frac, AtMost, plus}
use Rattle.search.specs.Bottleneck.{Keeps, plan_bottleneck}
use Rattle.search.specs.Order.{Beats}

-- no plan keeps the rules
abbrev pub NoPlan : Problem → Type 0
NoPlan X = (ms : List Module) → Keeps X ms → ⊥

-- a comes before all its rivals (document 01, demand 3): it keeps the rules, and each plan that does is a or comes after it, by the
-- bottleneck, then by the measure g, then in module order
pub record Best (X : Problem) (g : List Module → ℕ) (a : List Module) : Type 0 where
  pub keeps : Keeps X a
  pub beats : (b : List Module) → Keeps X b → Beats (plan_bottleneck X) g a b

-- what an answer says: there is no plan, or it is the best one
pub data Searched (X : Problem) (g : List Module → ℕ) (o : Option (List Module)) : Type 0 where
  without_plan : o ≡ none → NoPlan X → Searched X g o
  with_best : (a : List Module) → o ≡ some a → Best X g a → Searched X g o

-- ---- bottlenecks

-- z is the least bottleneck of the plans that keep the rules
pub record Least (X : Problem) (z : Frac) : Type 0 where
  pub by : List Module
  pub keeps : Keeps X by
  pub is : plan_bottleneck X by ≡ z
  pub low : (b : List Module) → Keeps X b → AtMost z (plan_bottleneck X b)

-- the bottleneck of an answer
unfoldable pub bottleneck_of : Problem → Option (List Module) → Option Frac
bottleneck_of X none = none
bottleneck_of X (some ms) = some (plan_bottleneck X ms)

-- what an answer's bottleneck says: there is no plan, or it is the least
pub data Outcome (X : Problem) (o : Option Frac) : Type 0 where
  nothing : o ≡ none → NoPlan X → Outcome X o
  found : (z : Frac) → o ≡ some z → Least X z → Outcome X o

-- both have no plan, or their least bottlenecks differ by at most m
unfoldable pub Differ : ℕ → Option Frac → Option Frac → Type 0
Differ m none none = Unit {0}
Differ m none (some y) = ⊥
Differ m (some x) none = ⊥
Differ m (some x) (some y) = AtMost x (plus y m) × AtMost y (plus x m)

-- where the part has no plan the whole has none, and the least bottleneck of the part is no greater
unfoldable pub NoMore : (part whole : Option Frac) → Type 0
NoMore o none = Unit {0}
NoMore none (some y) = ⊥
NoMore (some x) (some y) = AtMost x y
