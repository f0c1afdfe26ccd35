-- `blank_fault` is the `blank_fault` of specs: what is found from record i on is what is found from the first one on.
use mathlib.Core.Path.{refl, sym, ◌∙◌}
use native.Mathlib.Omega.{arith}
use Rattle.layout.specs.Layout.{most_modules}
use Rattle.layout.proofs.Turns.{record_here}
use Rattle.judge.proofs.Turns.{blank_here, blank_next, blank_end, at_some, at_none}
use Rattle.judge.proofs.verdict.blank_fault.Goals as goal

pub loop-i-init : goal.loop-i-init
loop-i-init c = refl

pub returns-then-not-is_blank : goal.returns-then-not-is_blank
returns-then-not-is_blank c =
    let a = c.args in
    let l = c.loop-i in
    let m = c.module_at-m.ensures ∙ record_here a.plan.now l.i (omega arith) in
    at_some (sym (l.invariant ∙ blank_here a.plan.now l.i most_modules (omega arith) m c.is_blank.ensures c.if-not-is_blank.true-raw)) (λ z. omega arith)

pub loop-i-preserved : goal.loop-i-preserved
loop-i-preserved c =
    let a = c.args in
    let l = c.loop-i in
    let m = c.module_at-m.ensures ∙ record_here a.plan.now l.i (omega arith) in
    l.invariant ∙ blank_next a.plan.now l.i most_modules (omega arith) m c.is_blank.ensures c.if-not-is_blank.false-raw

pub returns : goal.returns
returns c =
    let l = c.loop-i in
    at_none (l.invariant ∙ blank_end c.args.plan.now l.i most_modules (omega arith))
