-- `next_cores` stays within the room: each core count that is kept is in the loop's range.
use Prim.Native.Nat.{◌≤◌}
use Rattle.std.specs.Prelude.{IfSome}
use Rattle.sketch.proofs.onward.Table.next_cores.Given as goal

abbrev pub invariant-loop-i : goal.invariant-loop-i
invariant-loop-i l = IfSome l.best (λ next. next ≤ l.room)
