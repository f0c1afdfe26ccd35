-- `zombreki_judge` hands on what `judge` answers: no response is too large for a 32-bit number.
use mathlib.Core.Path.{ap, ◌∙◌}
use Rattle.figures.specs.Plan.{answer_of}
use Rattle.zombreki.specs.Exported.{in_words}
use Rattle.zombreki.proofs.Fitting.{fits, judged_small}
use Rattle.zombreki.proofs.zombreki_judge.Goals as goal

pub in_words-requires : goal.in_words-requires
in_words-requires c =
    let a = c.args in
    fits (c.from.ensures ∙ ap answer_of c.judge.ensures) (judged_small a.costs.now a.plan.now)

pub returns : goal.returns
returns c = c.in_words.ensures ∙ ap in_words (c.from.ensures ∙ ap answer_of c.judge.ensures)
