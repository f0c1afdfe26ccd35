-- `last_fixed` passes tasks that may have copies from l on downwards: every module up to l from after them may have copies.
use Rattle.threshold.specs.Docks.{chain}
use Rattle.threshold.proofs.Laying.{Free}
use Rattle.threshold.proofs.dock.Dock.last_fixed.Given as goal

abbrev pub invariant-loop-t : goal.invariant-loop-t
invariant-loop-t l = Free (chain l.self) l.t l.l
