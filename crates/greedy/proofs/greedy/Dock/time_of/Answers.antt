-- `time_of` is the response of the figures' bottleneck.
use mathlib.Core.Path.{ap}
use Rattle.figures.specs.declared.PlanFigures.{PlanFigures}
use Rattle.figures.specs.Plan.{figures_of}
use Rattle.greedy.proofs.greedy.Dock.time_of.Goals as goal

pub returns : goal.returns
unfolding figures_of
returns c = ap (λ (a : PlanFigures). a.response) c.figures.ensures
