-- `read` is `read_costs`: the first record's refusal, or what the count and the walk find for its board, which is in range.
use mathlib.Core.Path.{sym, ◌∙◌}
use Rattle.std.proofs.lemmas.Result.{err_from_is_err_and}
use Rattle.records.specs.Costs.{read_costs}
use Rattle.records.proofs.Exact.{opens_ranged}
use Rattle.records.proofs.scan.read.Goals as goal

pub returns-in_err-board : goal.returns-in_err-board
unfolding read_costs
returns-in_err-board c =
    let p = err_from_is_err_and c.from_residual.result c.from_residual.ensures.1 in
    rw (p.1, p.2) (simp (sym c.read_board.ensures ∙ c.in_err-board.was))

pub read_records-requires : goal.read_records-requires
read_records-requires c = (opens_ranged _ (sym c.read_board.ensures ∙ c.in_ok-board.was)).some_tasks

pub returns : goal.returns
unfolding read_costs
returns c = simp (sym c.read_board.ensures ∙ c.in_ok-board.was) c.read_records.ensures
