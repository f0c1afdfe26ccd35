-- `transfer` is `transfer_of`: the lookup gives 0 too where there is no sender or no receiver.
use mathlib.Core.Path.{sym, ◌∙◌}
use Rattle.modules.proofs.Ends.{transfer_looked_up}
use Rattle.modules.proofs.cost.transfer.Goals as goal

pub returns : goal.returns
returns c =
    let a = c.args in
    c.transfer.ensures ∙ sym (transfer_looked_up a.costs.now a.board a.t a.s a.q)
