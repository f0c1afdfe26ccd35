-- `judge` is `judged`: what reading the costs finds decides which branch is due.
use mathlib.Core.Path.{sym, ◌∙◌}
use Rattle.std.proofs.lemmas.Result.{err_from_is_err_and}
use Rattle.judge.specs.Judge.{judged}
use Rattle.judge.proofs.verdict.judge.Goals as goal

pub returns-in_err-board : goal.returns-in_err-board
unfolding judged
returns-in_err-board c =
    let p = err_from_is_err_and c.from_residual.result c.from_residual.ensures.1 in
    rw (p.1, p.2) (simp (sym c.read.ensures ∙ c.in_err-board.was))

pub returns : goal.returns
unfolding judged
returns c = simp (sym c.read.ensures ∙ c.in_ok-board.was) c.judge_bytes.ensures
