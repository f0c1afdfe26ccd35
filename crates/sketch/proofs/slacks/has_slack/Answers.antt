-- `has_slack` tries all numbers of cores: those below q leave no slack.
use mathlib.Core.Path.{refl}
use mathlib.Core.Bool.{false}
use native.Mathlib.Omega.{arith}
use Rattle.records.proofs.Cases.{true_not_false}
use Rattle.sketch.proofs.Leaving.{bare_more, bare_slackless}
use Rattle.sketch.proofs.slacks.has_slack.Goals as goal

pub returns-else-word_at-gt0 : goal.returns-else-word_at-gt0
returns-else-word_at-gt0 c = (
  λ e. true_not_false false e refl,
  λ e. bare_slackless _ _ _ (omega arith) (bare_more _ _ _ c.loop-q.invariant c.word_at.ensures c.if-word_at-gt0.false),
)
