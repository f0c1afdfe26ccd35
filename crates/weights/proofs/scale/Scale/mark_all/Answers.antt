-- `mark_all` closes one row after the other.
use Prim.Native.Nat.{◌+◌, ◌-◌}
use native.Mathlib.Omega.{arith}
use mathlib.Core.Path.{◌≡◌, refl, ◌∙◌}
use Rattle.weights.specs.Scales.{chain_in}
use Rattle.weights.proofs.Sweeping.{swept_tabled, swept_beyond, swept_closed}
use Rattle.weights.proofs.scale.Scale.mark_all.Goals as goal

pub loop-t-preserved : goal.loop-t-preserved
loop-t-preserved c =
    let a = c.args in
    let k = chain_in a.self.now in
    let o = c.loop-t in
    let v = c.weigh_row.ensures in
    let e : o.t + 1 - 1 ≡ o.t = omega arith in
    (v.long ∙ o.invariant.0, swept_tabled k a.self.now.n c.requires.0.area.sized.tasks_most c.requires.0.area.sized.cores_most v a.self.now.board refl refl o.invariant.1, rw e (swept_closed k a.self.now.n c.requires.0.area.sized.tasks_most c.requires.0.area.sized.cores_most v (o.t - 1) (omega (arith, o.auto.t)) o.invariant.2), λ j h. swept_beyond k a.self.now.n c.requires.0.area.sized.tasks_most c.requires.0.area.sized.cores_most v j h ∙ o.invariant.3 j h)
