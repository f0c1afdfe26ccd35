-- `line` is `first_fault` of one run of keys, b = 1, 2, .. p. The loop's invariant: what is left finds what the whole run does.
use Rattle.records.specs.Costs.{key}
use Rattle.records.proofs.Along.{Running}
use Rattle.records.proofs.runs.line.Given as goal

abbrev pub invariant-loop-b : goal.invariant-loop-b
invariant-loop-b l = Running l.costs l.before l.p (λ b. key 5 l.task l.a b) l.b
