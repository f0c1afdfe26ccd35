-- `zombreki_greedy_plan` hands on what `greedy_plan` answers and fills in.
use mathlib.Core.Path.{ap, ◌∙◌}
use Rattle.figures.specs.Plan.{answer_of}
use Rattle.zombreki.specs.Exported.{in_words}
use Rattle.zombreki.proofs.Fitting.{fits, greedy_small}
use Rattle.zombreki.proofs.zombreki_greedy_plan.Goals as goal

pub in_words-requires : goal.in_words-requires
in_words-requires c =
    let a = c.args in
    fits (c.from.ensures ∙ ap answer_of c.greedy_plan.ensures.0) (greedy_small a.costs.now a.plan.now a.grouping)

pub returns : goal.returns
returns c =
    let planned = c.greedy_plan.ensures in
    (c.in_words.ensures ∙ ap in_words (c.from.ensures ∙ ap answer_of planned.0), planned.1)
