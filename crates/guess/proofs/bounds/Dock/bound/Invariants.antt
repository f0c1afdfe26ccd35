-- `bound` adds up at most 32 bits for each task.
use Prim.Native.Nat.{◌+◌, ◌*◌, ◌≤◌}
use Rattle.guess.proofs.bounds.Dock.bound.Given as goal

abbrev pub invariant-loop-t : goal.invariant-loop-t
invariant-loop-t l = (l.t ≤ l.self.board.tasks + 1) × (l.sum ≤ 4294967296 * l.t)
