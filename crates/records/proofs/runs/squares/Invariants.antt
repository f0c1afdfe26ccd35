-- `squares` is `first_fault` of runs one after another, a square for each task. The loop's invariant: what is left finds what the whole does, and
-- its records are there.
use Prim.Native.Nat.{◌*◌}
use Rattle.records.specs.Runs.{square_keys}
use Rattle.records.proofs.Along.{Joining}
use Rattle.records.proofs.runs.squares.Given as goal

abbrev pub invariant-loop-t : goal.invariant-loop-t
invariant-loop-t l = Joining l.costs l.before l.tasks (l.p * l.p) (square_keys l.p) l.done l.t
