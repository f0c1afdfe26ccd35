-- `judge_bytes` is `judged_bytes`: the tests of the length and of the shape decide which branch is due.
use borrow.Author.Tests.{le-leb, lt-leb}
use Rattle.judge.specs.Judge.{judged_bytes}
use Rattle.judge.proofs.Turns.{some_value, some_there, no_place}
use Rattle.judge.proofs.verdict.judge_bytes.Goals as goal

pub returns-then-plan-lt-PLAN_BYTES : goal.returns-then-plan-lt-PLAN_BYTES
unfolding judged_bytes
returns-then-plan-lt-PLAN_BYTES c = simp (lt-leb _ _ c.if-plan-lt-PLAN_BYTES.true)

pub returns-in-Some : goal.returns-in-Some
unfolding judged_bytes
returns-in-Some c =
    simp (le-leb _ _ c.if-plan-lt-PLAN_BYTES.false, some_value _ c.shape_fault.ensures c.in-Some.is, some_there _ c.shape_fault.ensures c.in-Some.is)

pub returns : goal.returns
unfolding judged_bytes
returns c = simp (le-leb _ _ c.if-plan-lt-PLAN_BYTES.false, no_place _ c.shape_fault.ensures c.in_default.is) c.judge_plan.ensures
