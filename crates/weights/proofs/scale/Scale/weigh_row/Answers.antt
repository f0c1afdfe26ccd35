-- `weigh_row` weighs the cells after modules of all cores but the board's, after which none has room.
use Prim.Native.Nat.{◌≤◌, ◌<◌}
use mathlib.Core.Logic.{inl, inr, ⊎_elim}
use native.Mathlib.Omega.{arith}
use mathlib.Core.Path.{refl}
use Rattle.weights.specs.Scales.{chain_in}
use Rattle.records.proofs.Cases.{lt_or_le}
use Rattle.weights.proofs.Sweeping.{swept_more, swept_tabled}
use Rattle.weights.proofs.scale.Scale.weigh_row.Goals as goal

pub loop-s-preserved : goal.loop-s-preserved
loop-s-preserved c =
    let a = c.args in
    let k = chain_in a.self.now in
    let o = c.loop-s in
    let v = c.weigh_after.ensures in (
      swept_tabled k a.self.now.n c.requires.0.area.sized.tasks_most c.requires.0.area.sized.cores_most v a.self.now.board refl refl o.invariant.0,
      swept_more k a.self.now.n c.requires.0.area.sized.tasks_most c.requires.0.area.sized.cores_most o.invariant.1 v (λ i j h. ⊎_elim (λ (d : i < o.s). inl d) (λ (d : o.s ≤ i). inr (omega arith)) (lt_or_le i o.s))
          (λ i j h. omega arith) (λ i j h. omega arith) (λ i j h g. omega arith),
    )
