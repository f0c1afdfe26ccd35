-- `first_cores` finds the first cores: none that are passed may come, 0 cores never do, and where the copies have more cores than the board
-- there is no room for them.
use mathlib.Core.Path.{◌≡◌}
use mathlib.Core.Bool.{false}
use Prim.Native.Nat.{ℕ, ◌<◌}
use Rattle.walk.specs.Tables.{chain_in}
use Rattle.walk.specs.Walk.{may_come}
use Rattle.walk.proofs.turn.Turn.first_cores.Given as goal

abbrev pub invariant-loop-p : goal.invariant-loop-p
invariant-loop-p l =
    (j : ℕ) → j < l.p → may_come (chain_in l.self.tables) l.self.tables.n l.self.passed l.l l.r j ≡ false
