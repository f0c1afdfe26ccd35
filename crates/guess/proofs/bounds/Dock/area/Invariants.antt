-- `area` starts from a number of 32 bits and only takes less.
use Prim.Native.Nat.{◌<◌}
use Rattle.guess.proofs.bounds.Dock.area.Given as goal

abbrev pub invariant-loop-q : goal.invariant-loop-q
invariant-loop-q l = l.least < 4294967296
