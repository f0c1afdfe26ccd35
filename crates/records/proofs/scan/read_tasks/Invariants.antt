-- `read_tasks` is `first_fault` of the keys of kind 2. The loop's invariant: what is left finds what the whole run does.
use Rattle.records.specs.Costs.{key}
use Rattle.records.proofs.Along.{Running}
use Rattle.records.proofs.scan.read_tasks.Given as goal

abbrev pub invariant-loop-n : goal.invariant-loop-n
invariant-loop-n l = Running l.costs 0 l.k (λ t. key 2 t 0 0) l.n
