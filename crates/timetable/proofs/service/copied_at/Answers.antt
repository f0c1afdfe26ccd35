-- `copied_at` is `first_failing` of `single_test`: what is found from the i-th module on is what is found from the first one on.
use mathlib.Core.Path.{refl, sym, ◌∙◌}
use native.Mathlib.Omega.{arith}
use borrow.Author.Tests.{le-leb, lt-leb}
use Rattle.layout.proofs.Turns.{record_here}
use Rattle.judge.proofs.Turns.{failing_here, failing_next, failing_end, at_some, at_none}
use Rattle.timetable.specs.Timetable.{single_test}
use Rattle.timetable.proofs.service.copied_at.Goals as goal

pub returns-then-m-gt1 : goal.returns-then-m-gt1
returns-then-m-gt1 c =
    let l = c.loop-i in
    let a = c.args in
    let m = c.module_at-m in
    let e = m.ensures ∙ record_here a.plan.now l.i (omega arith) in
    at_some (sym (l.invariant ∙ failing_here a.plan.now l.i a.count (omega arith) e single_test refl (simp (lt-leb m.result.copies 1 c.if-m-gt1.true)))) (λ z. omega arith)

pub loop-i-preserved : goal.loop-i-preserved
loop-i-preserved c =
    let l = c.loop-i in
    let a = c.args in
    let m = c.module_at-m in
    let e = m.ensures ∙ record_here a.plan.now l.i (omega arith) in
    l.invariant ∙ failing_next a.plan.now l.i a.count (omega arith) e single_test refl (simp (le-leb m.result.copies 1 c.if-m-gt1.false))

pub returns : goal.returns
returns c =
    let l = c.loop-i in
    let a = c.args in
    at_none (l.invariant ∙ failing_end a.plan.now l.i a.count single_test (omega arith))
