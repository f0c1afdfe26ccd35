-- `mark` writes the larger.
use mathlib.Core.Path.{refl, ◌∙◌}
use Rattle.weights.proofs.Cells.{max_is}
use Rattle.weights.proofs.marks.mark.Goals as goal

pub returns : goal.returns
returns c = (c.max-v.ensures ∙ max_is _ 1, refl)
