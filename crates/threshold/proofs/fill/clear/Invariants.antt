-- `clear` goes from task to task: no rest after one that it has passed has a slack.
use Rattle.threshold.specs.Words.{NoSlacks}
use Rattle.threshold.proofs.fill.clear.Given as goal

abbrev pub invariant-loop-t : goal.invariant-loop-t
invariant-loop-t l = NoSlacks l.initial.work l.work l.t l.cores
