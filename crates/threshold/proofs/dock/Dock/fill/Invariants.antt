-- `fill` goes from the last task to the first: the table is right by modules that end after the loop's task.
use Rattle.threshold.specs.Docks.{chain}
use Rattle.threshold.specs.Words.{KeptBeyond, Laid, FilledAfter}
use Rattle.threshold.proofs.dock.Dock.fill.Given as goal

abbrev pub invariant-loop-l : goal.invariant-loop-l
invariant-loop-l l = Laid (chain l.self) l.work × FilledAfter (chain l.self) l.n l.work l.l × KeptBeyond l.initial.work l.work
