-- `block_time` is `block_time_answer`: Judge decides, and the time of a plan that it passes fits 32 bits.
use mathlib.Core.Path.{sym, ◌∙◌}
use native.Mathlib.Omega.{arith}
use Rattle.std.proofs.lemmas.Result.{err_from_is_err_and}
use Rattle.judge.proofs.Timing.{time_unread, time_refused, time_given, time_small}
use Rattle.judge.proofs.timed.block_time.Goals as goal

pub returns-in_err-board : goal.returns-in_err-board
returns-in_err-board c =
    let a = c.args in
    let p = err_from_is_err_and c.from_residual.result c.from_residual.ensures.1 in
    rw (p.1, p.2) (time_unread a.costs.now a.plan.now (sym c.read.ensures ∙ c.in_err-board.was))

pub returns-in_err-judge_bytes : goal.returns-in_err-judge_bytes
returns-in_err-judge_bytes c =
    let a = c.args in
    let p = err_from_is_err_and c.from_residual-in_err-judge_bytes.result c.from_residual-in_err-judge_bytes.ensures.1 in
    rw (p.1, p.2) (time_refused a.costs.now a.plan.now (sym c.read.ensures ∙ c.in_ok-board.was) (sym c.judge_bytes.ensures ∙ c.in_err-judge_bytes.was))

pub overflow_cast-result : goal.overflow_cast-result
overflow_cast-result c =
    let a = c.args in
    let few = time_small a.costs.now a.plan.now (sym c.read.ensures ∙ c.in_ok-board.was) (sym c.judge_bytes.ensures ∙ c.in_ok-judge_bytes.was) c.block_time-time.ensures in
    omega arith

pub returns : goal.returns
returns c =
    let a = c.args in
    time_given a.costs.now a.plan.now (sym c.read.ensures ∙ c.in_ok-board.was) (sym c.judge_bytes.ensures ∙ c.in_ok-judge_bytes.was) c.block_time-time.ensures
