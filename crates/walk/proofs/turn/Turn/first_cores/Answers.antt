-- `first_cores` finds the first cores: none that are passed may come, 0 cores never do, and where the copies have more cores than the board
-- there is no room for them.
use mathlib.Core.Path.{◌≡◌, sym, ◌∙◌}
use mathlib.Core.Bool.{false}
use mathlib.Core.Logic.{⊎_elim}
use Prim.Native.Nat.{ℕ, ◌+◌, ◌*◌, ◌/◌, ◌≤◌, ◌<◌}
use native.Mathlib.Nat.{mul-le-mul_left, mul-le-mul_right}
use native.Mathlib.Omega.{arith}
use borrow.Author.Count.{below_more}
use Rattle.records.proofs.Cases.{lt_or_le}
use Rattle.modules.specs.Model.{Chain}
use Rattle.walk.specs.Tables.{chain_in}
use Rattle.walk.specs.declared.rooms.Passed.{Passed}
use Rattle.walk.specs.Walk.{may_come}
use Rattle.walk.proofs.Coming.{comes_not}
use Rattle.walk.proofs.turn.Turn.first_cores.Goals as goal

-- so many copies of so many cores have room
room_for : (b r p : ℕ) → 1 ≤ r → p ≤ b / r → r * p ≤ b
room_for b r p some h = omega (arith, mul-le-mul_left r h)

-- where none of as many as have room may come, none may
none_comes : (k : Chain) (n : ℕ) (m : Passed) (l r q : ℕ) → 1 ≤ r → k.board / r < q → ((p : ℕ) → p < q → may_come k n m l r p ≡ false) → (p : ℕ) → may_come k n m l r p ≡ false
none_comes k n m l r q some far before p = ⊎_elim
    (λ (d : p < q). before p d)
    (λ (d : q ≤ p). comes_not k n m l r p (λ i f. omega (arith, f.fits.room, mul-le-mul_left r d, mul-le-mul_left r far)))
    (lt_or_le p q)

pub loop-p-init : goal.loop-p-init
loop-p-init c =
    let a = c.args in
    let x = a.self.now in
    λ j h. comes_not (chain_in x.tables) x.tables.n x.passed a.l a.r j (λ q f. omega (arith, f.fits.one_core))

pub may_come-requires : goal.may_come-requires
may_come-requires c =
    (c.requires.0, c.requires.1, c.requires.2, c.loop-p.auto.p, room_for c.args.self.now.tables.board.cores c.args.r c.loop-p.p c.requires.2 c.loop-p-test.true)

pub returns-then-may_come : goal.returns-then-may_come
returns-then-may_come c =
    let few = mul-le-mul_right {m = 1} {n = c.args.r} c.loop-p.p c.requires.2 in
    record {
      high = omega (arith, room_for c.args.self.now.tables.board.cores c.args.r c.loop-p.p c.requires.2 c.loop-p-test.true, few);
      comes = sym c.may_come.ensures ∙ c.if-may_come.true;
      none_below = c.loop-p.invariant;
    }

pub returns-else-may_come : goal.returns-else-may_come
returns-else-may_come c =
    let a = c.args in
    let x = a.self.now in
    λ p _. none_comes (chain_in x.tables) x.tables.n x.passed a.l a.r (c.loop-p.p + 1) c.requires.2 (omega arith) (below_more _ _ c.loop-p.invariant (sym c.may_come.ensures ∙ c.if-may_come.false)) p

pub returns : goal.returns
returns c =
    let a = c.args in
    let x = a.self.now in
    λ p _. none_comes (chain_in x.tables) x.tables.n x.passed a.l a.r c.loop-p.p c.requires.2 (omega (arith, c.loop-p-test.false)) c.loop-p.invariant p
