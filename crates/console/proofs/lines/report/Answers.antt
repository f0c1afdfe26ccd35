-- `report` is `report_text`: the number decides which branch is due, and each branch's pieces are promised where they are made.
use mathlib.Core.Path.{sym, ◌∙◌}
use Rattle.records.proofs.Refusing.{board_or}
use Rattle.console.proofs.Reported.{report_plan, report_refusal}
use Rattle.console.proofs.lines.report.Goals as goal

pub returns-then-answer-ne0 : goal.returns-then-answer-ne0
returns-then-answer-ne0 c =
    let a = c.args in
    c.refused.ensures ∙ sym (report_refusal a.costs.now a.answer a.plan.now c.if-answer-ne0.true)

pub returns : goal.returns
returns c =
    let a = c.args in
    let e = report_plan a.costs.now a.answer a.plan.now c.if-answer-ne0.false in
    rw (c.slowest_line.ensures, c.module_lines-text.ensures.0, c.min-count.ensures, c.unwrap_or-board.ensures, board_or c.read.result, c.read.ensures) (sym e)
