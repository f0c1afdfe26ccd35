-- `timetable` is `timetable_answer` and `timetable_entries`: the costs, Judge, the copies, the blocks, then the table.
use mathlib.Core.Path.{refl, sym, ap, ◌∙◌}
use Rattle.std.specs.Prelude.{Result}
use Rattle.std.proofs.lemmas.Result.{err_from_is_err_and}
use Rattle.records.specs.declared.Board.{Board}
use Rattle.records.specs.declared.refusal.Refusal.{Refusal}
use Rattle.records.specs.Costs.{board_in}
use Rattle.judge.proofs.Turns.{some_value, some_there, no_place}
use Rattle.timetable.proofs.Serving.{judged_here, table_unread, table_refused, table_copied, table_unasked, table_filled}
use Rattle.timetable.proofs.service.timetable.Goals as goal

pub returns-in_err-board : goal.returns-in_err-board
returns-in_err-board c =
    let a = c.args in
    let p = err_from_is_err_and c.from_residual.result c.from_residual.ensures.1 in
    rw (p.1, p.2) (table_unread a.costs.now a.plan.now a.n a.table.now (sym c.read.ensures ∙ c.in_err-board.was))

pub returns-in_err-judge_bytes : goal.returns-in_err-judge_bytes
returns-in_err-judge_bytes c =
    let a = c.args in
    let read = sym c.read.ensures ∙ c.in_ok-board.was in
    let p = err_from_is_err_and c.from_residual-in_err-judge_bytes.result c.from_residual-in_err-judge_bytes.ensures.1 in
    rw (p.1, p.2) (table_refused a.costs.now a.plan.now a.n a.table.now (judged_here a.costs.now a.plan.now read ∙ sym c.judge_bytes.ensures ∙ c.in_err-judge_bytes.was))

pub returns-in-Some : goal.returns-in-Some
returns-in-Some c =
    let a = c.args in
    let read = sym c.read.ensures ∙ c.in_ok-board.was in
    table_copied a.costs.now a.plan.now a.n a.table.now (judged_here a.costs.now a.plan.now read ∙ sym c.judge_bytes.ensures ∙ c.in_ok-judge_bytes.was)
    (sym (ap (λ (r : Result Board Refusal). board_in r) read)) c.module_count-count.ensures.0 (sym (some_value _ c.copied_at.ensures c.in-Some.is)) (some_there _ c.copied_at.ensures c.in-Some.is)

pub returns-then-not-may_ask : goal.returns-then-not-may_ask
returns-then-not-may_ask c =
    let a = c.args in
    let read = sym c.read.ensures ∙ c.in_ok-board.was in
    table_unasked a.costs.now a.plan.now a.n a.table.now (judged_here a.costs.now a.plan.now read ∙ sym c.judge_bytes.ensures ∙ c.in_ok-judge_bytes.was)
    (sym (ap (λ (r : Result Board Refusal). board_in r) read)) c.module_count-count.ensures.0 refl (no_place _ c.copied_at.ensures c.in_default.is) c.may_ask.ensures c.if-not-may_ask.true

pub returns : goal.returns
returns c =
    let a = c.args in
    let read = sym c.read.ensures ∙ c.in_ok-board.was in
    table_filled a.costs.now a.plan.now a.n a.table.now (judged_here a.costs.now a.plan.now read ∙ sym c.judge_bytes.ensures ∙ c.in_ok-judge_bytes.was)
    (sym (ap (λ (r : Result Board Refusal). board_in r) read)) c.module_count-count.ensures.0 refl (no_place _ c.copied_at.ensures c.in_default.is) c.may_ask.ensures c.if-not-may_ask.false c.fill.ensures
