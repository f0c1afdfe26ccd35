-- `jump` keeps a bracket at every try: its loop only counts them.
use Rattle.threshold.specs.Docks.{chain}
use Rattle.threshold.specs.Words.{KeptBeyond, Laid}
use Rattle.threshold.specs.Threshold.{Bracket}
use Rattle.threshold.proofs.dock.Dock.jump.Given as goal

abbrev pub invariant-loop : goal.invariant-loop
invariant-loop l = Laid (chain l.self) l.work × Bracket (chain l.self) l.h.lo l.h.hi × KeptBeyond l.initial.work l.work
