-- `zombreki_best_plan` hands on what `best_plan` answers, fills in and leaves in the work area.
use mathlib.Core.Path.{ap, ◌∙◌}
use Rattle.figures.specs.Plan.{answer_of}
use Rattle.zombreki.specs.Exported.{in_words}
use Rattle.zombreki.proofs.Fitting.{fits, best_small}
use Rattle.zombreki.proofs.zombreki_best_plan.Goals as goal

pub in_words-requires : goal.in_words-requires
in_words-requires c =
    let a = c.args in
    fits (c.from.ensures ∙ ap answer_of c.best_plan.ensures.0) (best_small a.costs.now a.plan.now a.work.now)

pub returns : goal.returns
returns c =
    let planned = c.best_plan.ensures in
    (c.in_words.ensures ∙ ap in_words (c.from.ensures ∙ ap answer_of planned.0), planned.1, planned.2)
