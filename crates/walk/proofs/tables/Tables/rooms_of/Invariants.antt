-- `rooms_of` holds the room for each number of cores that it has passed.
use mathlib.Core.Path.{◌≡◌}
use mathlib.Core.List.{List}
use Prim.Native.Nat.{ℕ, ◌<◌}
use lib.ListN.{length, get_or}
use Rattle.modules.specs.Model.{Chain}
use Rattle.walk.specs.Tables.{chain_in}
use Rattle.walk.specs.declared.rooms.Passed.{Passed}
use Rattle.walk.specs.Walk.{room_of}
use Rattle.walk.proofs.tables.Tables.rooms_of.Given as goal

-- the list holds the room for each number of cores below q
abbrev pub Held : Chain → ℕ → Passed → List ℕ → ℕ → Type 0
Held c n m w q = (j : ℕ) → j < q → get_or w j 0 ≡ room_of c n m j

abbrev pub invariant-loop-q : goal.invariant-loop-q
invariant-loop-q l =
    (length l.rooms ≡ 33) × Held (chain_in l.self) l.self.n l.m l.rooms l.q
