-- `rows` is `first_fault` of runs one after another, a row for each task. The loop's invariant: what is left finds what the whole does, and
-- its records are there.
use native.Mathlib.Omega.{arith}
use Rattle.std.proofs.lemmas.Result.{err_from_is_err_and}
use Rattle.records.specs.Costs.{key}
use Rattle.records.specs.Runs.{row_keys}
use Rattle.records.proofs.Along.{joins_start, joins_room, joins_found, joins_next, joins_end}
use Rattle.records.proofs.Listing.{length_each}
use Rattle.records.proofs.runs.rows.Goals as goal

pub loop-t-init : goal.loop-t-init
loop-t-init c = let v = c.args in joins_start v.costs.now v.before v.tasks v.p (row_keys v.kind v.p)

pub row-requires : goal.row-requires
row-requires c =
    let v = c.args in
    let some = c.loop-t.invariant.some in
    let room = joins_room v.costs.now v.before v.tasks v.p (row_keys v.kind v.p) c.loop-t.invariant (omega arith) in
    omega arith

pub returns-in_err-row : goal.returns-in_err-row
returns-in_err-row c =
    let v = c.args in
    let p = err_from_is_err_and c.from_residual.result c.from_residual.ensures.1 in
    rw (p.1, p.2) (joins_found v.costs.now v.before v.tasks v.p (row_keys v.kind v.p) c.loop-t.invariant (omega arith) c.row.ensures c.in_err-row.was)

pub overflow_add-done : goal.overflow_add-done
overflow_add-done c =
    let v = c.args in
    omega (arith, joins_room v.costs.now v.before v.tasks v.p (row_keys v.kind v.p) c.loop-t.invariant (omega arith))

pub loop-t-preserved : goal.loop-t-preserved
loop-t-preserved c =
    let v = c.args in
    let l = c.loop-t in
    joins_next v.costs.now v.before v.tasks v.p (row_keys v.kind v.p) l.invariant (omega arith) (length_each 0 v.p (λ a. key v.kind l.t a 0)) c.row.ensures c.in_ok-row.was

pub returns : goal.returns
returns c = let v = c.args in joins_end v.costs.now v.before v.tasks v.p (row_keys v.kind v.p) c.loop-t.invariant (omega arith)
