-- `response` is `response_at`: the i-th of the responses is the i-th module's, and there is none past the last.
use mathlib.Core.Path.{sym}
use Rattle.modules.specs.Model.{chain_of}
use Rattle.layout.specs.Layout.{modules_of}
use Rattle.figures.specs.Plan.{response_at}
use Rattle.figures.proofs.Listed.{response_some, response_none}
use Rattle.figures.proofs.plan.response.Goals as goal

pub returns-then-i-count : goal.returns-then-i-count
unfolding response_at modules_of
returns-then-i-count c =
    let a = c.args in
    let n = c.module_count-count in
    let some = response_some (chain_of a.costs.now a.board) a.plan.now n.result a.i c.if-i-count.true in
    rw (← n.ensures.0, c.slowness.ensures.0) (sym some)

pub returns-else-i-count : goal.returns-else-i-count
unfolding response_at modules_of
returns-else-i-count c =
    let a = c.args in
    let n = c.module_count-count in
    let none = response_none (chain_of a.costs.now a.board) a.plan.now n.result a.i c.if-i-count.false in
    rw (← n.ensures.0) (sym none)
