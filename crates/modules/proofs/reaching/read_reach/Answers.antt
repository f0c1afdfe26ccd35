-- `read_reach` is `reach_answer`: the costs are read, and refused or asked for the reach.
use Rattle.std.proofs.lemmas.Result.{err_from_is_err_and}
use Rattle.modules.proofs.Longest.{reach_refused, reach_given}
use Rattle.modules.proofs.reaching.read_reach.Goals as goal

pub returns-in_err-board : goal.returns-in_err-board
returns-in_err-board c =
    let a = c.args in
    let p = err_from_is_err_and c.from_residual.result c.from_residual.ensures.1 in
    rw (p.1, p.2) (reach_refused a.costs.now a.first c.read.ensures c.in_err-board.was)

pub returns : goal.returns
returns c =
    let a = c.args in
    reach_given a.costs.now a.first c.read.ensures c.in_ok-board.was c.reach-count.ensures
