-- "Bottleneck at most z" as a claim about every single module: the threshold's argument, with z's denominator as the grain.
use Prim.Native.Nat.{ℕ}
use native.Mathlib.Nat.{le_refl}
use mathlib.Core.Path.{◌≡◌, refl}
use mathlib.Core.List.{List, [], ◌∷◌}
use lib.Dec.{T}
use Rattle.modules.specs.declared.Module.{Module}
use Rattle.search.specs.Plan.{Problem, valid}
use Rattle.search.specs.Fraction.{Frac, AtMost}
use Rattle.search.specs.Bottleneck.{rules, bottleneck, plan_bottleneck}
use Rattle.search.specs.Gauge.{gauge, below}
use Rattle.search.proofs.Plan.{Fair}
use Rattle.search.proofs.Bottleneck.{within_fair, within_rules, bottleneck_in, bottleneck_out}

module _ (X : Problem) (z : Frac) where
  -- the grain is no part of a bottleneck
  gauge_same : (s t : ℕ) (ms : List Module) → bottleneck (gauge X z) s t ms ≡ bottleneck X s t ms
  unfolding bottleneck
  gauge_same s t [] = refl
  gauge_same s t (x ∷ ms) = rw (gauge_same x.cores x.last ms)

  -- a plan's modules are below z just if its bottleneck is at most z
  pub below_in : (s t : ℕ) (ms : List Module) → T (valid X.tasks (below X z) s t ms) → AtMost (bottleneck X s t ms) z
  below_in s t ms v = rw (gauge_same s t ms) at (bottleneck_in (gauge X z) z.num s t ms v)

  pub below_out : (s t : ℕ) (ms : List Module) → T (valid X.tasks (rules X) s t ms) → AtMost (bottleneck X s t ms) z
      → T (valid X.tasks (below X z) s t ms)
  below_out s t ms v h = bottleneck_out (gauge X z) z.num s t ms v (rw (gauge_same s t ms) h)

  -- they keep the rules
  pub below_rules : (s t : ℕ) (ms : List Module) → T (valid X.tasks (below X z) s t ms) → T (valid X.tasks (rules X) s t ms)
  below_rules s t ms v = within_rules (gauge X z) z.num s t ms v

  pub below_fair : Fair X.tasks (below X z)
  below_fair = within_fair (gauge X z) z.num

-- a whole plan is below its own bottleneck
pub below_own : (X : Problem) (ms : List Module) → T (valid X.tasks (rules X) 0 0 ms)
    → T (valid X.tasks (below X (plan_bottleneck X ms)) 0 0 ms)
below_own X ms v = below_out X (plan_bottleneck X ms) 0 0 ms v (le_refl _)
