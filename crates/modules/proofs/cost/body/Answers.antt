-- `body` is the chain's: what is added up and what is left of the sum are the whole, and each turn adds two 32-bit values.
use native.Mathlib.Omega.{arith}
use Rattle.modules.specs.Model.{body}
use Rattle.modules.proofs.Sums.{run_step, run_end, gather_some, gather_none}
use Rattle.modules.proofs.cost.body.Invariants.{executions, internals}
use Rattle.modules.proofs.cost.body.Goals as goal

pub returns-then-last-first : goal.returns-then-last-first
unfolding body
returns-then-last-first c =
    let a = c.args in
    let f = executions a.costs.now a.board a.p in
    let g = internals a.costs.now a.board a.p in
    let none = gather_none f g a.first a.last c.if-last-first.true in
    omega arith

pub loop-t-preserved : goal.loop-t-preserved
loop-t-preserved c =
    let a = c.args in
    let l = c.loop-t in
    let f = executions a.costs.now a.board a.p in
    let g = internals a.costs.now a.board a.p in
    let next = run_step f g l.t a.last (omega arith) in
    omega arith

pub returns : goal.returns
unfolding body
returns c =
    let a = c.args in
    let l = c.loop-t in
    let f = executions a.costs.now a.board a.p in
    let g = internals a.costs.now a.board a.p in
    let some = gather_some f g a.first a.last (omega arith) in
    let last = run_end f g l.t a.last (omega arith) in
    omega arith
