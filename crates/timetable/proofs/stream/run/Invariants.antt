-- `run` writes the ends one by one before what was lent: the times that it keeps are those of the blocks passed.
use mathlib.Core.Path.{◌≡◌}
use mathlib.Core.List.{◌++◌}
use Prim.Native.Nat.{◌+◌, ◌-◌}
use lib.ListN.{drop, length}
use Rattle.layout.specs.Layout.{most_modules}
use Rattle.timetable.specs.Loops.{stages_in}
use Rattle.timetable.specs.Timetable.{ends}
use Rattle.timetable.proofs.Turns.{Kept}
use Rattle.timetable.proofs.stream.run.Given as goal

abbrev pub invariant-loop-end : goal.invariant-loop-end
invariant-loop-end l =
    let ss = stages_in l.bodies l.sends 0 l.count in
    (length l.through ≡ most_modules + 1) × Kept ss l.end-index (most_modules + 1 - l.count) l.through × (l.end-items ≡ ends ss 1 l.end-index ++ drop l.end-index l.initial.end-items)
