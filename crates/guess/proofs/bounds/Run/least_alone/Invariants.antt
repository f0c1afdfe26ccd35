-- `least_alone` starts from the greatest threshold plus one, and only takes less.
use Prim.Native.Nat.{◌+◌, ◌≤◌}
use Rattle.slack.specs.Problem.{top_threshold}
use Rattle.guess.proofs.bounds.Run.least_alone.Given as goal

abbrev pub invariant-loop-q : goal.invariant-loop-q
invariant-loop-q l = l.least ≤ top_threshold + 1
