-- `response_of` is the chain's: what is received and the passage; the task before the first is the first less 1, also where there is none.
use mathlib.Core.Path.{sym}
use native.Mathlib.Omega.{arith}
use Rattle.modules.specs.Model.{chain_of}
use Rattle.modules.proofs.Amounts.{response_passage}
use Rattle.modules.proofs.cost.response_of.Goals as goal

pub returns : goal.returns
returns c =
    let a = c.args in
    let parts = response_passage (chain_of a.costs.now a.board) a.s a.m.first a.m.last a.m.copies a.m.cores a.q in
    (rw (c.transfer-received.ensures, c.passage.ensures.0, c.saturating_sub-before.ensures) (sym parts), omega arith)
