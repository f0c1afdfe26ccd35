-- `first_copies` finds the first copies with their first cores: none that are passed may come, and 0 copies never do.
use mathlib.Core.Path.{◌≡◌}
use mathlib.Core.Bool.{false}
use Prim.Native.Nat.{ℕ, ◌≤◌, ◌<◌}
use Rattle.walk.specs.Tables.{chain_in}
use Rattle.walk.specs.Walk.{may_come}
use Rattle.walk.proofs.turn.Turn.first_copies.Given as goal

abbrev pub invariant-loop-r : goal.invariant-loop-r
invariant-loop-r l =
    (i : ℕ) → i < l.r → (p : ℕ) → p ≤ l.self.tables.board.cores → may_come (chain_in l.self.tables) l.self.tables.n l.self.passed l.l i p ≡ false
