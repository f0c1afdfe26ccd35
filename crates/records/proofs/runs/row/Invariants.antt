-- `row` is `first_fault` of one run of keys, a = 1, 2, .. p. The loop's invariant: what is left finds what the whole run does.
use Rattle.records.specs.Costs.{key}
use Rattle.records.proofs.Along.{Running}
use Rattle.records.proofs.runs.row.Given as goal

abbrev pub invariant-loop-a : goal.invariant-loop-a
invariant-loop-a l = Running l.costs l.before l.p (λ a. key l.kind l.task a 0) l.a
