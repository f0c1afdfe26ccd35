-- `fewest_cores` finds the fewest: no fewer leave a slack.
use native.Mathlib.Omega.{arith}
use borrow.Author.Count.{below_more}
use Rattle.rests.proofs.table.fewest_cores.Goals as goal
use Rattle.rests.proofs.table.fewest_cores.Goals.{else-loop-b-test, then-loop-b-test+else-has_slack+else-b-cores}

pub loop-b-init : goal.loop-b-init
loop-b-init c = λ j h s. omega (arith, s.one_core, s.cores_most)

pub returns-then-has_slack : goal.returns-then-has_slack
returns-then-has_slack c =
    record { first = λ few. (omega arith, λ h. c.has_slack.ensures.0 c.if-has_slack.true, c.loop-b.invariant); none = λ out. absurd (omega arith) }

pub loop-b-preserved : goal.loop-b-preserved
loop-b-preserved c = below_more _ _ c.loop-b.invariant (c.has_slack.ensures.1 c.if-has_slack.false)

pub returns : goal.returns
returns c = record {
  first = λ few. (
    omega arith,
    λ h. absurd (omega arith),
    elim c.loop-b-test.branch [
      | else-loop-b-test w ↦ λ j h. c.loop-b.invariant j (omega arith)
      | then-loop-b-test+else-has_slack+else-b-cores w ↦ λ j h. below_more _ _ c.loop-b.invariant (w.has_slack.ensures.1 w.if-has_slack.false) j (omega arith)
    ],
  );
  none = λ out. absurd (omega arith);
}
