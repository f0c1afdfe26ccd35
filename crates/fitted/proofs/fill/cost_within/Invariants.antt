-- `cost_within` is the `cost_within` of specs. The loop's invariant: the test of the records from j on is the test of all.
use mathlib.Core.Path.{◌≡◌}
use lib.ListN.{drop}
use Rattle.fitted.specs.Fill.{cost_keys, value_by, keys_within, cost_within}
use Rattle.fitted.proofs.fill.cost_within.Given as goal

abbrev pub invariant-loop-j : goal.invariant-loop-j
invariant-loop-j l =
    cost_within l.cost l.p ≡ keys_within (value_by l.cost.law) (drop l.j (cost_keys l.cost.kind l.cost.task l.p))
