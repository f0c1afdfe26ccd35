-- `shape_fault` is the `shape_fault` of specs: what is found from record i on, with its due task, is what is found from the first one on.
use mathlib.Core.Path.{◌≡◌, refl, sym, ap, ◌∙◌}
use native.Mathlib.Omega.{arith}
use Rattle.layout.specs.Layout.{most_modules}
use Rattle.layout.proofs.Turns.{record_here}
use Rattle.judge.specs.Judge.{at_place}
use Rattle.judge.proofs.Turns.{shape_here, shape_last, shape_next, shape_end, at_some}
use Rattle.judge.proofs.verdict.shape_fault.Goals as goal

pub loop-i-init : goal.loop-i-init
loop-i-init c = refl

pub returns-then-not-is_module : goal.returns-then-not-is_module
returns-then-not-is_module c =
    let a = c.args in
    let l = c.loop-i in
    let m = c.module_at-m.ensures ∙ record_here a.plan.now l.i (omega arith) in
    at_some (sym (l.invariant ∙ shape_here a.plan.now l.i most_modules (omega arith) m a.k l.due c.is_module.ensures c.if-not-is_module.true-raw)) (λ z. omega arith)

pub returns-then-m-k : goal.returns-then-m-k
returns-then-m-k c =
    let a = c.args in
    let l = c.loop-i in
    let m = c.module_at-m.ensures ∙ record_here a.plan.now l.i (omega arith) in
    let last = shape_last a.plan.now l.i most_modules (omega arith) m a.k l.due c.is_module.ensures c.if-not-is_module.false-raw c.if-m-k.true in
    c.blank_fault.ensures ∙ ap at_place (sym (l.invariant ∙ last))

pub loop-i-preserved : goal.loop-i-preserved
loop-i-preserved c =
    let a = c.args in
    let l = c.loop-i in
    let m = c.module_at-m.ensures ∙ record_here a.plan.now l.i (omega arith) in
    l.invariant ∙ shape_next a.plan.now l.i most_modules (omega arith) m a.k l.due c.is_module.ensures c.if-not-is_module.false-raw c.if-m-k.false

pub returns : goal.returns
returns c =
    let a = c.args in
    let l = c.loop-i in
    let e : l.i ≡ most_modules = omega arith in
    at_some (sym (l.invariant ∙ shape_end a.plan.now l.i most_modules a.k l.due (omega arith) ∙ omega arith)) (λ z. omega arith)
