-- `pass` is the `pass` of specs of the definitions: what is passed and what is left make the whole row, and no time outgrows 64 bits.
use mathlib.Core.Path.{◌≡◌}
use mathlib.Core.List.{◌++◌}
use Prim.Native.Nat.{◌+◌, ◌*◌, ◌-◌, ◌≤◌}
use lib.ListN.{take, drop, length}
use Rattle.timetable.specs.Loops.{stages_in, most_body, most_send, most_time}
use Rattle.timetable.specs.Timetable.{pass, last_of}
use Rattle.timetable.proofs.stream.pass.Given as goal

abbrev pub invariant-loop-i : goal.invariant-loop-i
invariant-loop-i l =
    (length l.through ≡ length l.initial.through) × (l.ready ≤ most_time + l.i * (most_body + most_send)) × (drop l.i l.through ≡ drop l.i l.initial.through)
    × (take l.i l.through ++ pass l.ready (stages_in l.bodies l.sends l.i (l.count - l.i)) (drop l.i l.through) ≡ pass l.initial.ready (stages_in l.bodies l.sends 0 l.count) l.initial.through)
    × (last_of l.ready (pass l.ready (stages_in l.bodies l.sends l.i (l.count - l.i)) (drop l.i l.through)) ≡ last_of l.initial.ready (pass l.initial.ready (stages_in l.bodies l.sends 0 l.count) l.initial.through))
