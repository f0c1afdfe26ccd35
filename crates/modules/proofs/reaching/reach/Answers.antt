-- `reach` is the definition of that name: what is found up to the task before is the reach of a chain that ends there, and the first module
-- that needs more cores than the board has ends the search.
use mathlib.Core.Path.{sym, ◌∙◌}
use Prim.Native.Nat.{◌+◌, ◌-◌}
use native.Mathlib.Omega.{arith}
use Rattle.modules.specs.Model.{chain_of}
use Rattle.modules.proofs.Longest.{reach_zero, reach_nothing, reach_more, reach_stops, reach_ends}
use Rattle.modules.proofs.reaching.reach.Goals as goal

pub returns-then-first-eq0 : goal.returns-then-first-eq0
returns-then-first-eq0 c =
    let a = c.args in
    sym (reach_zero (chain_of a.costs.now a.board) a.first c.if-first-eq0.true)

pub loop-last-init : goal.loop-last-init
loop-last-init c =
    let a = c.args in
    (omega arith, reach_nothing (chain_of a.costs.now a.board) a.first _ (omega arith))

pub returns-then-board-fewest_cores : goal.returns-then-board-fewest_cores
returns-then-board-fewest_cores c =
    let a = c.args in
    let o = c.loop-last in
    let k = chain_of a.costs.now a.board in
    o.invariant.1 ∙ reach_stops k a.first o.last (omega arith) (omega arith) (omega arith) (omega (arith, c.fewest_cores.ensures))

pub loop-last-preserved : goal.loop-last-preserved
loop-last-preserved c =
    let a = c.args in
    let o = c.loop-last in
    let few = c.fewest_cores.ensures in
    (omega arith, reach_more (chain_of a.costs.now a.board) a.first o.last (omega arith) (omega (arith, few)))

pub returns-else-first-eq0 : goal.returns-else-first-eq0
returns-else-first-eq0 c =
    let a = c.args in
    let o = c.loop-last in
    let k = chain_of a.costs.now a.board in
    o.invariant.1 ∙ reach_ends k a.first (o.last - a.first) (omega arith) (omega arith)

pub returns-else-board-fewest_cores : goal.returns-else-board-fewest_cores
returns-else-board-fewest_cores c =
    let a = c.args in
    let o = c.loop-last in
    let k = chain_of a.costs.now a.board in
    let few = c.fewest_cores.ensures in
    reach_more k a.first o.last (omega arith) (omega (arith, few)) ∙ reach_ends k a.first (o.last + 1 - a.first) (omega arith) (omega arith)
