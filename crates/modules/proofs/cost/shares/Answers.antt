-- `shares` is the `shares` of specs: the sum of the tasks' shares.
use Rattle.std.proofs.Common.{rules}
use Rattle.modules.specs.Model.{chain_of}
use Rattle.modules.specs.Rules.{share as share_of, shares as shares_of}
use Rattle.modules.proofs.cost.shares.Goals as goal

pub returns : goal.returns
unfolding shares_of
returns c =
    let a = c.args in
    c.added_up.ensures (λ t. share_of (chain_of a.costs.now a.board) t a.p) (λ t x l e. search rules)
