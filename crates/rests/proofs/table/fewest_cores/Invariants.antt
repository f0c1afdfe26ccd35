-- `fewest_cores` finds the fewest: no fewer leave a slack.
use Prim.Native.Nat.{ℕ, ◌<◌}
use Rattle.sketch.specs.Slacks.{Slacked}
use Rattle.rests.proofs.table.fewest_cores.Given as goal

abbrev pub invariant-loop-b : goal.invariant-loop-b
invariant-loop-b l = (j : ℕ) → j < l.b → Slacked l.work j → ⊥
