-- `has_slack` tries all numbers of cores: those below q leave no slack.
use Rattle.sketch.proofs.Leaving.{Bare}
use Rattle.sketch.proofs.slacks.has_slack.Given as goal

abbrev pub invariant-loop-q : goal.invariant-loop-q
invariant-loop-q l = Bare l.work l.b l.q
