-- `weight_within` marks from the first modules on, weighs from the last task up, and looks at the first modules once more: nothing is marked anew.
use native.Mathlib.Omega.{arith}
use mathlib.Core.Path.{refl, ◌∙◌}
use Rattle.weights.specs.Scales.{chain_in}
use Rattle.weights.proofs.Beginning.{begun_tabled, begun_beyond, begun_light, same_weighed}
use Rattle.weights.proofs.Sweeping.{closed_start}
use Rattle.weights.proofs.scale.Scale.weight_within.Goals as goal

pub mark_all-requires : goal.mark_all-requires
mark_all-requires c =
    let a = c.args in
    let k = chain_in a.self.now in
    let b = c.least_weight.ensures in
    (begun_tabled k a.self.now.n a.self.now.board b refl refl c.requires.0, closed_start k a.self.now.n c.requires.0.area.sized.tasks_most c.requires.0.area.sized.cores_most _ (λ q low high. b.closed q low (omega arith)))

pub returns : goal.returns
returns c =
    let a = c.args in
    let k = chain_in a.self.now in
    let b = c.least_weight-2.ensures in
    let w = c.weigh_all.ensures in
    let same = b.still (λ q low high. w.2.closed.start q low (omega arith)) in
    let weighed = same_weighed k a.self.now.n same w.2 in (
      begun_light k a.self.now.n c.requires.0.area.sized.some_tasks b weighed.right,
      b.long ∙ w.0 ∙ c.mark_all.ensures.0 ∙ c.least_weight.ensures.long,
      begun_tabled k a.self.now.n a.self.now.board b refl refl w.1,
      weighed,
      λ j h. begun_beyond k a.self.now.n c.requires.0.area.sized.tasks_most c.requires.0.area.sized.cores_most b j h ∙ w.3 j h ∙ c.mark_all.ensures.3 j h ∙ begun_beyond k a.self.now.n c.requires.0.area.sized.tasks_most c.requires.0.area.sized.cores_most c.least_weight.ensures j h,
    )
