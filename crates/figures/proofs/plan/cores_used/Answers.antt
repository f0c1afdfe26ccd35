-- `cores_used` is the cores of the modules that are counted.
use mathlib.Core.Path.{refl}
use Rattle.layout.specs.Layout.{modules_of}
use Rattle.figures.proofs.plan.cores_used.Goals as goal

pub returns : goal.returns
unfolding modules_of
returns c = rw (c.cores_of.ensures, c.module_count-count.ensures.0) (refl)
