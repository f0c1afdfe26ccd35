-- `best_plan` is the service: each refusal is the first that is due, and after the search on accepted costs the work area is zeroed.
use mathlib.Core.Path.{ap, ◌∙◌}
use Prim.Native.Nat.{ℕ}
use lib.ListN.{replicate}
use Rattle.std.proofs.lemmas.Result.{err_from_is_err_and}
use Rattle.planners.proofs.Serving.{accepted_is, refused_costs, refused_bytes, refused_work, served}
use Rattle.planners.proofs.best.best_plan.Goals as goal

pub returns-in_err-board : goal.returns-in_err-board
returns-in_err-board c =
    let a = c.args in
    let p = err_from_is_err_and c.from_residual.result c.from_residual.ensures.1 in
    rw (p.1, p.2) (refused_costs a.costs.now a.plan.now a.work.now c.read.ensures c.in_err-board.was)

pub returns-then-plan-lt-PLAN_BYTES : goal.returns-then-plan-lt-PLAN_BYTES
returns-then-plan-lt-PLAN_BYTES c =
    let a = c.args in
    refused_bytes a.costs.now a.plan.now a.work.now c.read.ensures c.in_ok-board.was c.if-plan-lt-PLAN_BYTES.true

pub returns-then-work-lt-WORK_WORDS : goal.returns-then-work-lt-WORK_WORDS
returns-then-work-lt-WORK_WORDS c =
    let a = c.args in
    refused_work a.costs.now a.plan.now a.work.now c.read.ensures c.in_ok-board.was c.if-plan-lt-PLAN_BYTES.false c.if-work-lt-WORK_WORDS.true

pub search-answer-requires : goal.search-answer-requires
search-answer-requires c =
    let a = c.args in
    (accepted_is a.costs.now c.read.ensures c.in_ok-board.was, c.if-plan-lt-PLAN_BYTES.false, c.if-work-lt-WORK_WORDS.false)

pub returns : goal.returns
returns c =
    let a = c.args in
    let found = c.search-answer.ensures in
    let zeros = c.zero.ensures ∙ ap (λ (n : ℕ). replicate n 0) found.2 in
    served a.costs.now a.plan.now a.work.now c.read.ensures c.in_ok-board.was c.if-plan-lt-PLAN_BYTES.false c.if-work-lt-WORK_WORDS.false found.0 found.1 zeros
