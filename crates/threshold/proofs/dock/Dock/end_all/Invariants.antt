-- `end_all` ends one task: the modules of fewer cores than the loop's are pushed, and no others.
use Rattle.threshold.specs.Docks.{chain}
use Rattle.threshold.proofs.Ending.{Ended}
use Rattle.threshold.proofs.dock.Dock.end_all.Given as goal

abbrev pub invariant-loop-q : goal.invariant-loop-q
invariant-loop-q l = Ended (chain l.self) l.n l.initial.work l.work l.l l.q
