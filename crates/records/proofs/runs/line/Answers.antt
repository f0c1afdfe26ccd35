-- `line` is `first_fault` of one run of keys, b = 1, 2, .. p. The loop's invariant: what is left finds what the whole run does.
use mathlib.Core.Path.{refl}
use native.Mathlib.Omega.{arith}
use Rattle.std.proofs.lemmas.Result.{err_from_is_err_and}
use Rattle.records.specs.Costs.{key}
use Rattle.records.proofs.Along.{run_starts, run_found, run_next, run_ends}
use Rattle.records.proofs.runs.line.Goals as goal

pub loop-b-init : goal.loop-b-init
loop-b-init c = let v = c.args in run_starts v.costs.now v.before v.p (λ b. key 5 v.task v.a b)

pub returns-in_err-placed : goal.returns-in_err-placed
returns-in_err-placed c =
    let v = c.args in
    let p = err_from_is_err_and c.from_residual.result c.from_residual.ensures.1 in
    rw (p.1, p.2) (run_found v.costs.now v.before v.p (λ b. key 5 v.task v.a b) c.loop-b.invariant (omega arith) refl (rw c.plain_fault.ensures at c.placed.ensures) c.in_err-placed.was)

pub loop-b-preserved : goal.loop-b-preserved
loop-b-preserved c =
    let v = c.args in
    run_next v.costs.now v.before v.p (λ b. key 5 v.task v.a b) c.loop-b.invariant (omega arith) refl (rw c.plain_fault.ensures at c.placed.ensures) c.in_ok-placed.was

pub returns : goal.returns
returns c = let v = c.args in run_ends v.costs.now v.before v.p (λ b. key 5 v.task v.a b) c.loop-b.invariant (omega arith)
