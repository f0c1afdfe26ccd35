-- `cost_within` is the `cost_within` of specs. The loop's invariant: the test of the records from j on is the test of all.
use mathlib.Core.Path.{sym, ◌∙◌}
use native.Mathlib.Omega.{arith}
use Rattle.fitted.specs.Fill.{cost_keys, value_by}
use Rattle.fitted.proofs.Keys.{cost_count_lem}
use Rattle.fitted.proofs.Walks.{value_at, within_next, within_not, within_end}
use Rattle.fitted.proofs.fill.cost_within.Goals as goal

pub returns-then-value : goal.returns-then-value
returns-then-value c =
    let a = c.args in
    let l = c.loop-j in
    let n = c.cost_count-total.ensures.0 in
    let v = value_at a.cost.law a.cost.kind a.cost.task a.p l.j (omega (arith, n)) c.cell_of-cell.ensures c.law_at-value.ensures in
    sym (l.invariant ∙ within_not (value_by a.cost.law) (cost_keys a.cost.kind a.cost.task a.p) l.j
    (omega (arith, n, cost_count_lem a.cost.kind a.cost.task a.p)) (omega (arith, v)))

pub loop-j-preserved : goal.loop-j-preserved
loop-j-preserved c =
    let a = c.args in
    let l = c.loop-j in
    let n = c.cost_count-total.ensures.0 in
    let v = value_at a.cost.law a.cost.kind a.cost.task a.p l.j (omega (arith, n)) c.cell_of-cell.ensures c.law_at-value.ensures in
    l.invariant ∙ within_next (value_by a.cost.law) (cost_keys a.cost.kind a.cost.task a.p) l.j
    (omega (arith, n, cost_count_lem a.cost.kind a.cost.task a.p)) (omega (arith, v))

pub returns : goal.returns
returns c =
    let a = c.args in
    let l = c.loop-j in
    let n = c.cost_count-total.ensures.0 in
    sym (l.invariant ∙ within_end (value_by a.cost.law) (cost_keys a.cost.kind a.cost.task a.p) l.j
    (omega (arith, n, cost_count_lem a.cost.kind a.cost.task a.p)))
