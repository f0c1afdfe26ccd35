-- `read_tasks` is `first_fault` of the keys of kind 2. The loop's invariant: what is left finds what the whole run does.
use native.Mathlib.Omega.{arith}
use Rattle.std.proofs.lemmas.Result.{err_from_is_err_and}
use Rattle.records.specs.Costs.{key}
use Rattle.records.proofs.Along.{run_starts, run_found, run_next, run_ends}
use Rattle.records.proofs.scan.read_tasks.Goals as goal

pub loop-n-init : goal.loop-n-init
loop-n-init c = let v = c.args in run_starts v.costs.now 0 v.k (λ t. key 2 t 0 0)

pub returns-in_err-placed : goal.returns-in_err-placed
returns-in_err-placed c =
    let v = c.args in
    let p = err_from_is_err_and c.from_residual.result c.from_residual.ensures.1 in
    rw (p.1, p.2) (run_found v.costs.now 0 v.k (λ t. key 2 t 0 0) c.loop-n.invariant (omega arith) (omega arith) (rw c.fault.ensures at c.placed.ensures) c.in_err-placed.was)

pub loop-n-preserved : goal.loop-n-preserved
loop-n-preserved c =
    let v = c.args in
    run_next v.costs.now 0 v.k (λ t. key 2 t 0 0) c.loop-n.invariant (omega arith) (omega arith) (rw c.fault.ensures at c.placed.ensures) c.in_ok-placed.was

pub returns : goal.returns
returns c = let v = c.args in run_ends v.costs.now 0 v.k (λ t. key 2 t 0 0) c.loop-n.invariant (omega arith)
