-- `rooms_of` holds the room for each number of cores that it has passed.
use mathlib.Core.Path.{◌≡◌, ◌∙◌}
use mathlib.Core.List.{List}
use mathlib.Core.Logic.{⊎_elim}
use Prim.Native.Nat.{ℕ, ◌+◌, ◌<◌}
use native.Mathlib.Omega.{arith}
use lib.ListN.{length, set, length-set}
use lib.Seq.{get_or-set_same, get_or-set_other}
use Rattle.records.proofs.Cases.{lt_or_le}
use Rattle.modules.specs.Model.{Chain}
use Rattle.walk.specs.Tables.{chain_in}
use Rattle.walk.specs.declared.rooms.Passed.{Passed}
use Rattle.walk.specs.Walk.{room_of}
use Rattle.walk.proofs.tables.Tables.rooms_of.Goals as goal
use Rattle.walk.proofs.tables.Tables.rooms_of.Invariants.{Held}

held_more : (c : Chain) (n : ℕ) (m : Passed) (w : List ℕ) (q v : ℕ) → q < length w → Held c n m w q → v ≡ room_of c n m q → Held c n m (set w q v) (q + 1)
held_more c n m w q v long held e j h = ⊎_elim
    (λ l. get_or-set_other w q j v 0 (omega arith) ∙ held j l)
    (λ l. let d : j ≡ q = omega arith in rw d (get_or-set_same w q v 0 long ∙ e))
    (lt_or_le j q)

pub loop-q-preserved : goal.loop-q-preserved
loop-q-preserved c =
    let a = c.args in
    let o = c.loop-q in
    let room = c.room_of-room in
    let long : o.q < length o.rooms = omega (arith, o.invariant.0, c.loop-q-test.true, c.args.self.now.tabled.area.sized.cores_most) in
    (length-set o.rooms o.q room.result ∙ o.invariant.0, held_more (chain_in a.self.now) a.self.now.n a.m o.rooms o.q room.result long o.invariant.1 room.ensures)
