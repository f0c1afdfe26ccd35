-- `square` is `first_fault` of runs one after another, a line for each a. The loop's invariant: what is left finds what the whole does, and
-- its records are there.
use Rattle.records.specs.Runs.{line_keys}
use Rattle.records.proofs.Along.{Joining}
use Rattle.records.proofs.runs.square.Given as goal

abbrev pub invariant-loop-a : goal.invariant-loop-a
invariant-loop-a l = Joining l.costs l.before l.p l.p (line_keys l.p l.task) l.done l.a
