-- `figures` is `figures_of`: a plan has as many modules as are counted.
use mathlib.Core.Path.{refl}
use Rattle.layout.specs.Layout.{modules_of}
use Rattle.figures.specs.Plan.{figures_of}
use Rattle.figures.proofs.Listed.{modules_length}
use Rattle.figures.proofs.plan.figures.Goals as goal

pub returns : goal.returns
unfolding figures_of modules_of
returns c =
    let a = c.args in
    let n = c.module_count-count in
    let h = modules_length a.plan.now 0 n.result in
    rw (← n.ensures.0, h, c.slowest_of-x.ensures, c.cores_of.ensures) (refl)
