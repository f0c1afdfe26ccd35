-- `put_cost` writes the records of a cost. The loop's invariant: the records from j on, written behind those that are, make the
-- whole.
use mathlib.Core.Path.{◌≡◌, refl, sym, ◌∙◌}
use Prim.Native.Nat.{◌+◌, ◌*◌}
use native.Mathlib.Omega.{arith}
use Rattle.fitted.specs.Fill.{cost_keys, value_by}
use Rattle.fitted.proofs.Keys.{cost_count_lem}
use Rattle.fitted.proofs.Walks.{value_at, within_at, put_next, put_end}
use Rattle.fitted.proofs.fill.put_cost.Goals as goal

pub loop-j-init : goal.loop-j-init
loop-j-init c =
    let n = c.args.n in
    let e : 8 * (n + 0) ≡ 8 * n = omega arith in
    (refl, rw e refl)

pub overflow_cast-value : goal.overflow_cast-value
overflow_cast-value c =
    let a = c.args in
    let l = c.loop-j in
    let n = c.cost_count-total.ensures.0 in
    let keys = cost_keys a.cost.kind a.cost.task a.p in
    let v = value_at a.cost.law a.cost.kind a.cost.task a.p l.j (omega (arith, n)) c.cell_of-cell.ensures c.law_at-value.ensures in
    omega (arith, v, within_at (value_by a.cost.law) keys c.requires.3 l.j (omega (arith, n, cost_count_lem a.cost.kind a.cost.task a.p)))

pub put_record-requires : goal.put_record-requires
put_record-requires c =
    let n = c.cost_count-total.ensures.0 in
    omega (arith, n)

pub loop-j-preserved : goal.loop-j-preserved
loop-j-preserved c =
    let l = c.loop-j in
    let a = c.args in (
      c.put_record.auto.out ∙ l.invariant.0,
      l.invariant.1
          ∙ put_next a.cost a.p l.j l.out a.n (omega (arith, c.cost_count-total.ensures.0)) c.cell_of-cell.ensures c.law_at-value.ensures c.put_record.ensures,
    )

pub returns : goal.returns
returns c =
    let a = c.args in
    let l = c.loop-j in
    sym (l.invariant.1 ∙ put_end a.cost a.p l.j l.out (8 * (a.n + l.j)) (omega (arith, c.cost_count-total.ensures.0)))
