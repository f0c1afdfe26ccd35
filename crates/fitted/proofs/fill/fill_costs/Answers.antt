-- `fill_costs` refuses with what the first part deserves, and else fills in on its board.
use mathlib.Core.Path.{sym, ◌∙◌}
use Rattle.std.proofs.lemmas.Result.{err_from_is_err_and}
use Rattle.records.proofs.Exact.{opens_ranged}
use Rattle.fitted.proofs.Answers.{refuse_board, refuse_tasks, filled_first, first_length}
use Rattle.fitted.proofs.fill.fill_costs.Goals as goal

pub returns-in_err-board : goal.returns-in_err-board
returns-in_err-board c =
    let a = c.args in
    let p = err_from_is_err_and c.from_residual.result c.from_residual.ensures.1 in
    rw (p.1, p.2) (refuse_board a.head.now a.laws.now a.out.now (sym c.read_board.ensures ∙ c.in_err-board.was))

pub returns-in_err-tasks_fault : goal.returns-in_err-tasks_fault
returns-in_err-tasks_fault c =
    let a = c.args in
    let p = err_from_is_err_and c.from_residual-in_err-tasks_fault.result c.from_residual-in_err-tasks_fault.ensures.1 in
    rw (p.1, p.2) (refuse_tasks a.head.now a.laws.now a.out.now (sym c.read_board.ensures ∙ c.in_ok-board.was) (sym c.tasks_fault.ensures ∙ c.in_err-tasks_fault.was))

pub fill_on-requires : goal.fill_on-requires
fill_on-requires c =
    let a = c.args in
    let r = sym c.read_board.ensures ∙ c.in_ok-board.was in
    let g = opens_ranged a.head.now r in
    (g.some_tasks, g.tasks_most, g.one_core, first_length a.head.now a.laws.now a.out.now r (sym c.tasks_fault.ensures ∙ c.in_ok-tasks_fault.was))

pub returns : goal.returns
returns c =
    let a = c.args in
    filled_first a.head.now a.laws.now a.out.now (sym c.read_board.ensures ∙ c.in_ok-board.was) (sym c.tasks_fault.ensures ∙ c.in_ok-tasks_fault.was) c.fill_on.ensures
