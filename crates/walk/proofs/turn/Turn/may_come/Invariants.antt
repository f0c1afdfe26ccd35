-- `may_come` is the walk's choice: without room, past the word of the reach, without a slack at the start, or with more cores than the fewest
-- nothing goes on, no q that is passed does, and with more cores than are left none is.
use mathlib.Core.Path.{◌≡◌}
use mathlib.Core.Bool.{false}
use Prim.Native.Nat.{ℕ, ◌<◌}
use Rattle.walk.specs.Tables.{chain_in}
use Rattle.walk.proofs.Coming.{goes}
use Rattle.walk.proofs.turn.Turn.may_come.Given as goal

abbrev pub invariant-loop-q : goal.invariant-loop-q
invariant-loop-q l =
    (j : ℕ) → j < l.q → goes (chain_in l.self.tables) l.self.tables.n l.self.passed l.room l.l l.r l.p j ≡ false
