-- `within_limit` is the `within_limit` of specs: while each task allows the cores, what is left decides as the whole does.
use mathlib.Core.Path.{sym, ◌∙◌}
use Prim.Native.Nat.{◌+◌}
use native.Mathlib.Omega.{arith}
use Rattle.modules.specs.Model.{chain_of}
use Rattle.modules.proofs.Limiting.{within_none, within_next, within_not}
use Rattle.modules.proofs.rules.within_limit.Goals as goal

pub returns-then-not-task_allows : goal.returns-then-not-task_allows
returns-then-not-task_allows c =
    let a = c.args in
    let l = c.loop-t in
    sym (l.invariant ∙ within_not (chain_of a.costs.now a.board) a.last a.p l.t c.loop-t-test.true c.task_allows.ensures c.if-not-task_allows.true)

pub loop-t-preserved : goal.loop-t-preserved
loop-t-preserved c =
    let a = c.args in
    let l = c.loop-t in
    l.invariant ∙ within_next (chain_of a.costs.now a.board) a.last a.p l.t c.task_allows.ensures c.if-not-task_allows.false

pub returns : goal.returns
returns c =
    let a = c.args in
    let l = c.loop-t in
    sym (l.invariant ∙ within_none (chain_of a.costs.now a.board) a.last a.p l.t c.loop-t-test.false)

pub returns-else-not-task_allows : goal.returns-else-not-task_allows
returns-else-not-task_allows c =
    let a = c.args in
    let l = c.loop-t in
    let k = chain_of a.costs.now a.board in
    sym (l.invariant ∙ within_next k a.last a.p l.t c.task_allows.ensures c.if-not-task_allows.false ∙ within_none k a.last a.p (l.t + 1) (omega arith))
