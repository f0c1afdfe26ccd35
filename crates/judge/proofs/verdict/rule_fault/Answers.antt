-- `rule_fault` is `first_failing` of `rule_test`: what is found from the i-th module on is what is found from the first one on.
use mathlib.Core.Path.{sym, ◌∙◌}
use native.Mathlib.Nat.{sub-zero}
use native.Mathlib.Omega.{arith}
use Rattle.modules.specs.Model.{chain_of}
use Rattle.layout.specs.Layout.{modules_of}
use Rattle.layout.proofs.Turns.{record_here}
use Rattle.judge.specs.Judge.{rule_test}
use Rattle.judge.proofs.Turns.{failing_here, failing_next, failing_end, at_some, at_none}
use Rattle.judge.proofs.verdict.rule_fault.Goals as goal

pub loop-i-init : goal.loop-i-init
unfolding modules_of
loop-i-init c = rw (← c.module_count-count.ensures.0) (simp sub-zero)

pub returns-then-not-keeps_rule : goal.returns-then-not-keeps_rule
returns-then-not-keeps_rule c =
    let l = c.loop-i in
    let n = c.module_count-count in
    let a = c.args in
    let f = rule_test (chain_of a.costs.now a.board) a.rule in
    let m = c.module_at-m.ensures ∙ record_here a.plan.now l.i (omega arith) in
    at_some (sym (l.invariant ∙ failing_here a.plan.now l.i n.result (omega arith) m f c.keeps_rule.ensures c.if-not-keeps_rule.true-raw)) (λ z. omega arith)

pub loop-i-preserved : goal.loop-i-preserved
loop-i-preserved c =
    let l = c.loop-i in
    let n = c.module_count-count in
    let a = c.args in
    let f = rule_test (chain_of a.costs.now a.board) a.rule in
    let m = c.module_at-m.ensures ∙ record_here a.plan.now l.i (omega arith) in
    l.invariant ∙ failing_next a.plan.now l.i n.result (omega arith) m f c.keeps_rule.ensures c.if-not-keeps_rule.false-raw

pub returns : goal.returns
returns c =
    let l = c.loop-i in
    let n = c.module_count-count in
    let a = c.args in
    at_none (l.invariant ∙ failing_end a.plan.now l.i n.result (rule_test (chain_of a.costs.now a.board) a.rule) (omega arith))
