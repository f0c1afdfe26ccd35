-- `lay` lays the words task by task: those of the tasks before t + 1 stand, and those behind the tables stay.
use Rattle.threshold.specs.Docks.{chain}
use Rattle.threshold.specs.Words.{KeptBeyond, LaidTo}
use Rattle.threshold.proofs.dock.Dock.lay.Given as goal

abbrev pub invariant-loop-t : goal.invariant-loop-t
invariant-loop-t l = LaidTo (chain l.self) l.work l.t × KeptBeyond l.initial.work l.work
