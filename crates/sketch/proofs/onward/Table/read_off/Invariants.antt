-- `read_off` ends, since each module ends later than the one before, and stays within its room, of which each module takes its cores.
use Prim.Native.Nat.{◌-◌, ◌≤◌}
use Rattle.sketch.proofs.onward.Table.read_off.Given as goal

abbrev pub invariant-loop-t : goal.invariant-loop-t
invariant-loop-t l = (l.q ≤ l.self.board.cores) × (l.room ≤ l.self.board.cores) × (l.t ≤ l.self.board.tasks) × (l.i ≤ l.t)

abbrev pub decreases-loop-t : goal.decreases-loop-t
decreases-loop-t l = l.self.board.tasks - l.t
