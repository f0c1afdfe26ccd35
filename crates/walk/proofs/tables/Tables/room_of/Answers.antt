-- `room_of` is the `room_of` of specs: the tests are the definition's, and what cannot be taken off leaves nothing.
use native.Mathlib.Omega.{arith}
use borrow.Author.Tests.{eq-eqb, ne_eqb}
use Rattle.search.specs.Least.{pick}
use Rattle.walk.specs.Walk.{room_of}
use Rattle.walk.proofs.tables.Tables.room_of.Goals as goal

pub returns-then-m-eq0 : goal.returns-then-m-eq0
unfolding room_of
returns-then-m-eq0 c = simp (eq-eqb _ _ c.if-m-eq0.true)

pub returns-then-not-spares_at : goal.returns-then-not-spares_at
unfolding room_of pick
returns-then-not-spares_at c = simp (ne_eqb _ _ c.if-m-eq0.false, ← c.spares_at.ensures, c.if-not-spares_at.true)

pub returns : goal.returns
unfolding room_of pick
returns c = simp (ne_eqb _ _ c.if-m-eq0.false, ← c.spares_at.ensures, c.if-not-spares_at.false) (omega (arith, c.price-own.ensures.0, c.saturating_sub.ensures))
