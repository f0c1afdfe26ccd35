-- `judge_plan` is `judged_plan`: at each `return` the tests that led there decide which branch is due.
use borrow.Author.Tests.{le-leb, lt-leb}
use Rattle.judge.specs.Judge.{judged_plan}
use Rattle.judge.proofs.Turns.{some_value, some_there, no_place}
use Rattle.judge.proofs.verdict.judge_plan.Goals as goal

pub returns-in-Some : goal.returns-in-Some
unfolding judged_plan
returns-in-Some c =
    simp (some_value _ c.rule_fault.ensures c.in-Some.is, some_there _ c.rule_fault.ensures c.in-Some.is)

pub returns-in-Some-rule_fault : goal.returns-in-Some-rule_fault
unfolding judged_plan
returns-in-Some-rule_fault c =
    simp (no_place _ c.rule_fault.ensures c.in_default.is, some_value _ c.rule_fault-2.ensures c.in-Some-rule_fault.is, some_there _ c.rule_fault-2.ensures c.in-Some-rule_fault.is)

pub returns-in-Some-limit_fault : goal.returns-in-Some-limit_fault
unfolding judged_plan
returns-in-Some-limit_fault c =
    simp (no_place _ c.rule_fault.ensures c.in_default.is, no_place _ c.rule_fault-2.ensures c.in_default-rule_fault.is, some_value _ c.limit_fault.ensures c.in-Some-limit_fault.is, some_there _ c.limit_fault.ensures c.in-Some-limit_fault.is)

pub returns-then-board-cores : goal.returns-then-board-cores
unfolding judged_plan
returns-then-board-cores c =
    simp (
      no_place _ c.rule_fault.ensures c.in_default.is,
      no_place _ c.rule_fault-2.ensures c.in_default-rule_fault.is,
      no_place _ c.limit_fault.ensures c.in_default-limit_fault.is,
      ← c.cores_used-cores.ensures,
      lt-leb _ _ c.if-board-cores.true,
    )

pub returns : goal.returns
unfolding judged_plan
returns c =
    simp (
      no_place _ c.rule_fault.ensures c.in_default.is,
      no_place _ c.rule_fault-2.ensures c.in_default-rule_fault.is,
      no_place _ c.limit_fault.ensures c.in_default-limit_fault.is,
      ← c.cores_used-cores.ensures,
      le-leb _ _ c.if-board-cores.false,
      c.figures.ensures,
    )
