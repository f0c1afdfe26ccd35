-- `values_meet` is the `values_meet` of specs. The loop's invariant: the test of the laws from record i on is the test of all.
use mathlib.Core.Path.{◌≡◌, refl, sym, ap, ◌∙◌}
use Prim.Native.Nat.{◌-◌}
use native.Mathlib.Omega.{arith}
use Rattle.fitted.specs.Fill.{law_count, cost_within}
use Rattle.laws.specs.declared.Cost.{Cost}
use Rattle.fitted.proofs.Walks.{values_next, values_not, values_end}
use Rattle.fitted.proofs.fill.values_meet.Goals as goal

pub loop-i-init : goal.loop-i-init
loop-i-init c =
    let k = c.args.k in
    let e : law_count k - 0 ≡ law_count k = omega arith in
    rw e refl

pub returns-then-not-cost_within : goal.returns-then-not-cost_within
returns-then-not-cost_within c =
    let a = c.args in
    let l = c.loop-i in
    let e = ap (λ (x : Cost). cost_within x a.p) (sym c.cost_at-cost.ensures) ∙ sym c.cost_within.ensures ∙ c.if-not-cost_within.true in
    sym (l.invariant ∙ values_not a.laws.now a.p l.i (law_count a.k) (omega (arith, c.law_count-total.ensures)) e)

pub loop-i-preserved : goal.loop-i-preserved
loop-i-preserved c =
    let a = c.args in
    let l = c.loop-i in
    let e = ap (λ (x : Cost). cost_within x a.p) (sym c.cost_at-cost.ensures) ∙ sym c.cost_within.ensures ∙ c.if-not-cost_within.false in
    l.invariant ∙ values_next a.laws.now a.p l.i (law_count a.k) (omega (arith, c.law_count-total.ensures)) e

pub returns : goal.returns
returns c =
    let a = c.args in
    let l = c.loop-i in
    sym (l.invariant ∙ values_end a.laws.now a.p l.i (law_count a.k) (omega (arith, c.law_count-total.ensures)))
