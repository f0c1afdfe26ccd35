-- `any_at` is what any copies leave: that of one, and the greatest so far over two copies and more, while they leave a rest that can be sent
-- to.
use Prim.Native.Nat.{◌+◌, ◌-◌}
use mathlib.Core.Path.{ap, ◌∙◌}
use native.Mathlib.Omega.{arith}
use native.Mathlib.Nat.{le_refl, mul-le-mul}
use Rattle.slack.proofs.Greatest.{larger_max}
use Rattle.slack.proofs.Offers.{best_start, best_more}
use Rattle.offers.specs.Words.{time_at, row_of}
use Rattle.offers.proofs.Offering.{best_stop}
use Rattle.offers.proofs.ends.any_at.Goals as goal

pub loop-used-init : goal.loop-used-init
loop-used-init c =
    let a = c.args in
    (omega arith, omega arith, omega arith, omega arith, best_start (time_at a.n) a.extra (row_of a.row.now) 0 a.q a.b a.one (c.requires.5 a.extra))

pub loop-used-preserved : goal.loop-used-preserved
loop-used-preserved c =
    let o = c.loop-used in
    let a = c.args in
    let i = o.invariant in
    let p = mul-le-mul (le_refl o.r) c.requires.1 in (
      omega arith,
      omega arith,
      omega arith,
      omega arith,
      best_more (time_at a.n) a.extra (row_of a.row.now) 0 a.q a.b o.r o.used o.m c.beyond-v.result _ c.from.result
          i.0 i.2 (omega arith) c.from.ensures i.4 (c.beyond-v.ensures ∙ ap (λ x. time_at a.n o.r + 1 - (c.from.result + x)) c.from-in-loop-used.ensures) (c.max-m.ensures ∙ larger_max _ _),
    )

pub returns : goal.returns
returns c =
    let o = c.loop-used in
    let a = c.args in
    λ bare. best_stop a.n a.extra (row_of a.row.now) 0 a.q a.b a.low c.requires.0 c.requires.1 c.requires.3 bare o.r o.used o.m o.invariant.2 (omega arith) o.invariant.4
