-- `is_blank` is the `is_blank` of specs: at each `return` the tests that led there decide the conjunction.
use native.Mathlib.Omega.{arith}
use borrow.Author.Tests.{eq-eqb, ne_eqb}
use Rattle.judge.specs.Judge.{is_blank}
use Rattle.judge.proofs.verdict.is_blank.Goals as goal

pub returns-then-m-ne0 : goal.returns-then-m-ne0
unfolding is_blank
returns-then-m-ne0 c =
    let m = c.args.m in
    simp (ne_eqb m.first 0 c.if-m-ne0.true)

pub returns-then-m-ne0-2 : goal.returns-then-m-ne0-2
unfolding is_blank
returns-then-m-ne0-2 c =
    let m = c.args.m in
    simp (eq-eqb m.first 0 (omega arith), ne_eqb m.last 0 c.if-m-ne0-2.true)

pub returns-then-m-ne0-3 : goal.returns-then-m-ne0-3
unfolding is_blank
returns-then-m-ne0-3 c =
    let m = c.args.m in
    simp (eq-eqb m.first 0 (omega arith), eq-eqb m.last 0 (omega arith), ne_eqb m.copies 0 c.if-m-ne0-3.true)

pub returns : goal.returns
unfolding is_blank
returns c =
    let m = c.args.m in
    simp (eq-eqb m.first 0 (omega arith), eq-eqb m.last 0 (omega arith), eq-eqb m.copies 0 (omega arith))
