-- `halve` keeps a bracket narrower than 2 to the tries that are left: at the end it has no width, and decides.
use Prim.Native.Nat.{◌+◌, ◌<◌}
use Rattle.threshold.specs.Docks.{chain}
use Rattle.threshold.specs.Words.{KeptBeyond, Laid}
use Rattle.threshold.specs.Threshold.{Bracket, power}
use Rattle.threshold.proofs.dock.Dock.halve.Given as goal

abbrev pub invariant-loop-left : goal.invariant-loop-left
invariant-loop-left l = Laid (chain l.self) l.work × Bracket (chain l.self) l.h.lo l.h.hi × (l.h.hi < l.h.lo + power l._left) × KeptBeyond l.initial.work l.work
