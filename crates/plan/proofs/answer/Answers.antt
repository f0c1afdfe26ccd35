-- `answer` is `plan_text`: what is lent to Best plan is blank, and its answer and plan bytes are reported.
use mathlib.Core.Path.{refl, ◌∙◌}
use Rattle.plan.specs.Plan.{plan_text}
use Rattle.plan.proofs.answer.Goals as goal

pub returns : goal.returns
unfolding plan_text
returns c =
    let best = c.best_plan-best in
    c.report.ensures ∙ rw (c.from.ensures, best.ensures.0, best.ensures.1) (refl)
