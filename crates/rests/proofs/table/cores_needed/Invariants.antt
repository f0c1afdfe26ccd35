-- `cores_needed` finds the first number of cores: the word of no fewer is above what is received.
use Prim.Native.Nat.{ℕ, ◌≤◌, ◌<◌}
use lib.ListN.{get_or}
use Rattle.sketch.specs.Slacks.{slack_at}
use Rattle.rests.proofs.table.cores_needed.Given as goal

abbrev pub invariant-loop-b : goal.invariant-loop-b
invariant-loop-b l = (j : ℕ) → l.q ≤ j → j < l.b → get_or l.work (slack_at l.t l.q j) 0 ≤ l.e
