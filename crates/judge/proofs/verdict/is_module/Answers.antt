-- `is_module` is the `is_module` of specs: at each `return` the tests that led there decide the conjunction.
use native.Mathlib.Omega.{arith}
use borrow.Author.Tests.{eq-eqb, ne_eqb, le-leb, lt-leb}
use Rattle.judge.specs.Judge.{is_module}
use Rattle.judge.proofs.verdict.is_module.Goals as goal

pub returns-then-m-due : goal.returns-then-m-due
unfolding is_module
returns-then-m-due c =
    let a = c.args in
    simp (ne_eqb a.m.first a.due c.if-m-due.true)

pub returns-then-m : goal.returns-then-m
unfolding is_module
returns-then-m c =
    let a = c.args in
    simp (eq-eqb a.m.first a.due (omega arith), lt-leb a.m.first a.m.last (omega arith))

pub returns-then-k-m : goal.returns-then-k-m
unfolding is_module
returns-then-k-m c =
    let a = c.args in
    simp (eq-eqb a.m.first a.due (omega arith), le-leb a.m.first a.m.last (omega arith), lt-leb a.m.last a.k (omega arith))

pub returns-then-m-lt1 : goal.returns-then-m-lt1
unfolding is_module
returns-then-m-lt1 c =
    let a = c.args in
    simp (
      eq-eqb a.m.first a.due (omega arith),
      le-leb a.m.first a.m.last (omega arith),
      le-leb a.m.last a.k (omega arith),
      lt-leb 1 a.m.copies (omega arith),
    )

pub returns : goal.returns
unfolding is_module
returns c =
    let a = c.args in
    simp (
      eq-eqb a.m.first a.due (omega arith),
      le-leb a.m.first a.m.last (omega arith),
      le-leb a.m.last a.k (omega arith),
      le-leb 1 a.m.copies (omega arith),
    )
