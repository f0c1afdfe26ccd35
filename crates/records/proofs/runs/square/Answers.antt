-- `square` is `first_fault` of runs one after another, a line for each a. The loop's invariant: what is left finds what the whole does, and
-- its records are there.
use native.Mathlib.Omega.{arith}
use Rattle.std.proofs.lemmas.Result.{err_from_is_err_and}
use Rattle.records.specs.Costs.{key}
use Rattle.records.specs.Runs.{line_keys}
use Rattle.records.proofs.Along.{joins_start, joins_room, joins_found, joins_next, joins_end}
use Rattle.records.proofs.Listing.{length_each}
use Rattle.records.proofs.runs.square.Goals as goal

pub loop-a-init : goal.loop-a-init
loop-a-init c = let v = c.args in joins_start v.costs.now v.before v.p v.p (line_keys v.p v.task)

pub line-requires : goal.line-requires
line-requires c =
    let v = c.args in
    let some = c.loop-a.invariant.some in
    let room = joins_room v.costs.now v.before v.p v.p (line_keys v.p v.task) c.loop-a.invariant (omega arith) in
    omega arith

pub returns-in_err-line : goal.returns-in_err-line
returns-in_err-line c =
    let v = c.args in
    let p = err_from_is_err_and c.from_residual.result c.from_residual.ensures.1 in
    rw (p.1, p.2) (joins_found v.costs.now v.before v.p v.p (line_keys v.p v.task) c.loop-a.invariant (omega arith) c.line.ensures c.in_err-line.was)

pub overflow_add-done : goal.overflow_add-done
overflow_add-done c =
    let v = c.args in
    omega (arith, joins_room v.costs.now v.before v.p v.p (line_keys v.p v.task) c.loop-a.invariant (omega arith))

pub loop-a-preserved : goal.loop-a-preserved
loop-a-preserved c =
    let v = c.args in
    let l = c.loop-a in
    joins_next v.costs.now v.before v.p v.p (line_keys v.p v.task) l.invariant (omega arith) (length_each 0 v.p (λ b. key 5 v.task l.a b)) c.line.ensures c.in_ok-line.was

pub returns : goal.returns
returns c = let v = c.args in joins_end v.costs.now v.before v.p v.p (line_keys v.p v.task) c.loop-a.invariant (omega arith)
