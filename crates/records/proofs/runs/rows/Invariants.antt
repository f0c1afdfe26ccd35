-- `rows` is `first_fault` of runs one after another, a row for each task. The loop's invariant: what is left finds what the whole does, and
-- its records are there.
use Rattle.records.specs.Runs.{row_keys}
use Rattle.records.proofs.Along.{Joining}
use Rattle.records.proofs.runs.rows.Given as goal

abbrev pub invariant-loop-t : goal.invariant-loop-t
invariant-loop-t l = Joining l.costs l.before l.tasks l.p (row_keys l.kind l.p) l.done l.t
