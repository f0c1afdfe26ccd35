-- `squares` is `first_fault` of runs one after another, a square for each task. The loop's invariant: what is left finds what the whole does, and
-- its records are there.
use Prim.Native.Nat.{◌*◌, ◌<◌}
use native.Mathlib.Omega.{arith}
use Rattle.std.proofs.lemmas.Result.{err_from_is_err_and}
use Rattle.records.specs.Runs.{square_keys}
use Rattle.records.proofs.Along.{joins_start, joins_room, joins_found, joins_next, joins_end}
use Rattle.records.proofs.Bounds.{product_of_bytes}
use Rattle.records.proofs.Listing.{length_square}
use Rattle.records.proofs.runs.squares.Goals as goal

pub overflow_mul-size : goal.overflow_mul-size
overflow_mul-size c =
    let h : c.args.p < 256 = omega arith in
    omega (arith, product_of_bytes h h)

pub loop-t-init : goal.loop-t-init
loop-t-init c = let v = c.args in joins_start v.costs.now v.before v.tasks (v.p * v.p) (square_keys v.p)

pub square-requires : goal.square-requires
square-requires c =
    let v = c.args in
    let some = c.loop-t.invariant.some in
    let room = joins_room v.costs.now v.before v.tasks (v.p * v.p) (square_keys v.p) c.loop-t.invariant (omega arith) in
    omega arith

pub returns-in_err-square : goal.returns-in_err-square
returns-in_err-square c =
    let v = c.args in
    let p = err_from_is_err_and c.from_residual.result c.from_residual.ensures.1 in
    rw (p.1, p.2) (joins_found v.costs.now v.before v.tasks (v.p * v.p) (square_keys v.p) c.loop-t.invariant (omega arith) c.square.ensures c.in_err-square.was)

pub overflow_add-done : goal.overflow_add-done
overflow_add-done c =
    let v = c.args in
    omega (arith, joins_room v.costs.now v.before v.tasks (v.p * v.p) (square_keys v.p) c.loop-t.invariant (omega arith))

pub loop-t-preserved : goal.loop-t-preserved
loop-t-preserved c =
    let v = c.args in
    let l = c.loop-t in
    joins_next v.costs.now v.before v.tasks (v.p * v.p) (square_keys v.p) l.invariant (omega arith) (length_square v.p l.t) c.square.ensures c.in_ok-square.was

pub returns : goal.returns
returns c = let v = c.args in joins_end v.costs.now v.before v.tasks (v.p * v.p) (square_keys v.p) c.loop-t.invariant (omega arith)
