-- `block_time` is the `block_time` of specs: what is added up and what is left of the time are the whole, twelve modules at most.
use mathlib.Core.Path.{◌∙◌}
use native.Mathlib.Omega.{arith}
use Rattle.modules.specs.Model.{chain_of}
use Rattle.layout.specs.Layout.{modules_of}
use Rattle.layout.proofs.Turns.{record_here}
use Rattle.figures.proofs.Listed.{time_step, time_end}
use Rattle.figures.proofs.plan.block_time.Goals as goal

pub loop-i-preserved : goal.loop-i-preserved
loop-i-preserved c =
    let a = c.args in
    let i = c.loop-i.i in
    let n = c.module_count-count.result in
    let m = c.module_at-m.ensures ∙ record_here a.plan.now i (omega arith) in
    let next = time_step (chain_of a.costs.now a.board) a.plan.now i n (omega arith) m c.cores_at-next.ensures c.passage-sum.ensures.0 in
    omega arith

pub returns : goal.returns
unfolding modules_of
returns c =
    let a = c.args in
    let n = c.module_count-count in
    let done = time_end (chain_of a.costs.now a.board) a.plan.now c.loop-i.i n.result (omega arith) in
    rw (← n.ensures.0) (omega arith)
