-- `lay_cores` lays the words of one task core by core: those of the tasks before and of fewer cores stay, and those behind the tables.
use Rattle.threshold.specs.Docks.{chain}
use Rattle.threshold.specs.Words.{KeptBeyond}
use Rattle.threshold.proofs.Laying.{LaidUpto}
use Rattle.threshold.proofs.dock.Dock.lay_cores.Given as goal

abbrev pub invariant-loop-q : goal.invariant-loop-q
invariant-loop-q l = LaidUpto (chain l.self) l.work l.t l.q × KeptBeyond l.initial.work l.work
