-- `put_costs` writes the records of all laws. The loop's invariant: those of the laws from i on, written behind those that are, make
-- the whole, and there is room for them.
use mathlib.Core.Path.{◌≡◌, refl, sym, ap, ◌∙◌}
use mathlib.Core.Bool.{true}
use Prim.Native.Nat.{◌+◌, ◌-◌, ◌*◌, ◌≤◌, ◌<◌}
use native.Mathlib.Omega.{arith}
use lib.ListN.{length}
use Rattle.laws.specs.declared.Cost.{Cost}
use Rattle.laws.specs.Form.{cost_at}
use Rattle.fitted.specs.Fill.{law_count, cost_count, cost_within}
use Rattle.fitted.proofs.Walks.{values_split, costs_length, costs_next, records_end}
use Rattle.fitted.proofs.fill.put_costs.Goals as goal

pub loop-i-init : goal.loop-i-init
loop-i-init c =
    let k = c.args.k in
    let e : law_count k - 0 ≡ law_count k = omega arith in
    rw (e, c.wide-n.ensures.0) (omega arith, refl, c.requires.4, c.requires.3, refl)

pub put_cost-requires : goal.put_cost-requires
put_cost-requires c =
    let a = c.args in
    let l = c.loop-i in
    let more : l.i < law_count a.k = omega (arith, c.law_count-total.ensures) in
    let v = values_split a.laws.now a.p l.i (law_count a.k) more l.invariant.3 in
    let h : (cost_within c.cost_at-cost.result a.p ≡ true) × (8 * l.n + 8 * cost_count c.cost_at-cost.result.kind a.p ≤ length l.out) =
    rw c.cost_at-cost.ensures (v.0, omega (arith, costs_length a.laws.now a.p l.i (law_count a.k) more)) in
    (omega arith, omega arith, h.1, h.0)

pub loop-i-preserved : goal.loop-i-preserved
loop-i-preserved c =
    let l = c.loop-i in
    let a = c.args in
    let more : l.i < law_count a.k = omega (arith, c.law_count-total.ensures) in
    let v = values_split a.laws.now a.p l.i (law_count a.k) more l.invariant.3 in
    let m : c.cost_count-n.result ≡ cost_count (cost_at a.laws.now l.i).kind a.p = c.cost_count-n.ensures.0 ∙ ap (λ (x : Cost). cost_count x.kind a.p) c.cost_at-cost.ensures in (
      omega arith,
      c.put_cost.auto.out ∙ l.invariant.1,
      omega (arith, m, costs_length a.laws.now a.p l.i (law_count a.k) more),
      v.1,
      l.invariant.4 ∙ costs_next a.laws.now a.p l.i (law_count a.k) more l.out l.n c.cost_at-cost.ensures c.cost_count-n.ensures.0 c.put_cost.ensures,
    )

pub returns : goal.returns
returns c =
    let a = c.args in
    let l = c.loop-i in
    sym (l.invariant.4 ∙ rw (records_end a.laws.now a.p l.i (law_count a.k) (omega (arith, c.law_count-total.ensures))) (refl))
