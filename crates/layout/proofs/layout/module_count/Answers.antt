-- `module_count` is the `module_count` of specs: what the search from record i on finds is what the whole search finds.
use mathlib.Core.Path.{◌≡◌, refl, sym, ◌∙◌}
use native.Mathlib.Omega.{arith}
use Rattle.layout.specs.Layout.{most_modules, module_count}
use Rattle.layout.proofs.Turns.{count_here, count_next, count_end}
use Rattle.layout.proofs.layout.module_count.Goals as goal

pub loop-i-init : goal.loop-i-init
unfolding module_count
loop-i-init c = refl

pub returns-then-m-k : goal.returns-then-m-k
returns-then-m-k c =
    let a = c.args in
    let l = c.loop-i in
    let m = c.record_at-m.ensures in
    (sym (l.invariant ∙ count_here a.plan.now l.i most_modules (omega arith) m a.k c.if-m-k.true), omega arith)

pub loop-i-preserved : goal.loop-i-preserved
loop-i-preserved c =
    let a = c.args in
    let l = c.loop-i in
    let m = c.record_at-m.ensures in
    l.invariant ∙ count_next a.plan.now l.i most_modules (omega arith) m a.k c.if-m-k.false

pub returns : goal.returns
returns c =
    let a = c.args in
    let l = c.loop-i in
    let e : l.i ≡ most_modules = omega arith in
    (sym (l.invariant ∙ count_end a.plan.now l.i most_modules a.k (omega arith) ∙ e), omega arith)
