-- `weigh_all` weighs one row after the other, each by those after it, which are right.
use Prim.Native.Nat.{ℕ, ◌-◌, ◌<◌}
use native.Mathlib.Omega.{arith}
use mathlib.Core.Path.{◌≡◌, refl, subst, ◌∙◌}
use Rattle.weights.specs.Scales.{chain_in}
use Rattle.weights.specs.Cells.{Reads, weight_on}
use Rattle.weights.proofs.Sweeping.{swept_tabled, swept_beyond, swept_shut, swept_right, reads_end}
use Rattle.weights.proofs.scale.Scale.weigh_all.Goals as goal

pub loop-t-init : goal.loop-t-init
loop-t-init c =
    let a = c.args in
    (refl, c.requires.0, c.requires.1, reads_end (chain_in a.self.now) a.self.now.n c.requires.0.area.sized.tasks_most c.requires.0.area.sized.cores_most a.work.now (a.self.now.board.tasks - 1) (omega arith), λ j h. refl)

pub loop-t-preserved : goal.loop-t-preserved
loop-t-preserved c =
    let a = c.args in
    let k = chain_in a.self.now in
    let o = c.loop-t in
    let v = c.weigh_row.ensures in
    let inside : o.t - 1 < a.self.now.board.tasks = omega (arith, o.auto.t, c.loop-t-test.true) in (
      v.long ∙ o.invariant.0,
      swept_tabled k a.self.now.n c.requires.0.area.sized.tasks_most c.requires.0.area.sized.cores_most v a.self.now.board refl refl o.invariant.1,
      swept_shut k a.self.now.n c.requires.0.area.sized.tasks_most c.requires.0.area.sized.cores_most v o.invariant.2 inside,
      swept_right k a.self.now.n c.requires.0.area.sized.tasks_most c.requires.0.area.sized.cores_most v o.invariant.2 inside (o.t - 1 - 1) (omega (arith, c.loop-t-test.true)) o.invariant.3,
      λ j h. swept_beyond k a.self.now.n c.requires.0.area.sized.tasks_most c.requires.0.area.sized.cores_most v j h ∙ o.invariant.4 j h,
    )

pub returns : goal.returns
returns c =
    let a = c.args in
    let k = chain_in a.self.now in
    let o = c.loop-t in
    let z : o.t - 1 ≡ 0 = omega (arith, c.loop-t-test.false) in
    (o.invariant.0, o.invariant.1, record { closed = o.invariant.2; right = subst (λ (t : ℕ). Reads k o.work t (weight_on k a.self.now.n)) z o.invariant.3 }, o.invariant.4)
