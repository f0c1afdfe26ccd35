-- `cell_of`: row and column of a place in a square of cores, or its place in a row of them; each is at most p.
use native.Mathlib.Omega.{arith}
use borrow.Author.Tests.{eq-eqb, ne_eqb}
use Rattle.fitted.specs.Fill.{a_of, b_of}
use Rattle.fitted.proofs.Keys.{square_places, row_places}
use Rattle.fitted.proofs.fill.cell_of.Goals as goal

pub overflow_add-row : goal.overflow_add-row
overflow_add-row c =
    let h = square_places c.args.kind c.args.p c.args.j (omega arith) c.requires.1 in
    rw c.wide-cores.ensures.0 (omega (arith, h.0))

pub overflow_add-column : goal.overflow_add-column
overflow_add-column c =
    let h = square_places c.args.kind c.args.p c.args.j (omega arith) c.requires.1 in
    rw c.wide-cores.ensures.0 (omega (arith, h.1))

pub overflow_cast-result : goal.overflow_cast-result
overflow_cast-result c =
    let h = square_places c.args.kind c.args.p c.args.j (omega arith) c.requires.1 in
    rw c.wide-cores.ensures.0 (omega (arith, h.0))

pub overflow_cast-result-then-wide-eq-EXTERNAL : goal.overflow_cast-result-then-wide-eq-EXTERNAL
overflow_cast-result-then-wide-eq-EXTERNAL c =
    let h = square_places c.args.kind c.args.p c.args.j (omega arith) c.requires.1 in
    rw c.wide-cores.ensures.0 (omega (arith, h.1))

pub returns-then-wide-eq-EXTERNAL : goal.returns-then-wide-eq-EXTERNAL
unfolding a_of b_of
returns-then-wide-eq-EXTERNAL c =
    let e = eq-eqb c.args.kind 5 (omega arith) in
    (simp (e, c.wide-cores.ensures.0), simp (e, c.wide-cores.ensures.0))

pub overflow_add-row-else-wide-eq-EXTERNAL : goal.overflow_add-row-else-wide-eq-EXTERNAL
overflow_add-row-else-wide-eq-EXTERNAL c = omega (arith, row_places c.args.kind c.args.p c.args.j (λ e. c.if-wide-eq-EXTERNAL.false (omega arith)) c.requires.1)

pub overflow_cast-result-else-wide-eq-EXTERNAL : goal.overflow_cast-result-else-wide-eq-EXTERNAL
overflow_cast-result-else-wide-eq-EXTERNAL c = omega (arith, row_places c.args.kind c.args.p c.args.j (λ e. c.if-wide-eq-EXTERNAL.false (omega arith)) c.requires.1)

pub returns-else-wide-eq-EXTERNAL : goal.returns-else-wide-eq-EXTERNAL
unfolding a_of b_of
returns-else-wide-eq-EXTERNAL c =
    let e = ne_eqb c.args.kind 5 (λ e. c.if-wide-eq-EXTERNAL.false (omega arith)) in
    (simp e, simp e)
