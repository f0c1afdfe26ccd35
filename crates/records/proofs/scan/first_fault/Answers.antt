-- `first_fault` is the `first_fault` of specs of the due keys: the walk goes on behind each kind that is clean, and the file has the records.
use mathlib.Core.Path.{sym, ◌∙◌}
use Prim.Native.Nat.{◌<◌}
use native.Mathlib.Omega.{arith}
use Rattle.std.proofs.lemmas.Result.{err_from_is_err_and}
use Rattle.records.specs.Costs.{count_of}
use Rattle.records.proofs.Along.{tasks_found, tasks_clean, executions_found, executions_clean, internals_found, internals_clean}
use Rattle.records.proofs.Bounds.{place_bound}
use Rattle.records.proofs.scan.first_fault.Goals as goal

pub returns-in_err-read_tasks : goal.returns-in_err-read_tasks
returns-in_err-read_tasks c =
    let v = c.args in
    let p = err_from_is_err_and c.from_residual.result c.from_residual.ensures.1 in
    rw (p.1, p.2) (tasks_found v.costs.now v.k v.p c.read_tasks.ensures c.in_err-read_tasks.was)

pub rows-execution-requires : goal.rows-execution-requires
unfolding count_of
rows-execution-requires c =
    let v = c.args in
    let long = c.requires.1 in
    let k : v.k < 256 = omega arith in
    let p : v.p < 256 = omega arith in
    omega (arith, place_bound k p k)

pub returns-in_err-execution : goal.returns-in_err-execution
returns-in_err-execution c =
    let v = c.args in
    let tasks = tasks_clean v.costs.now v.k v.p c.read_tasks.ensures c.in_ok-read_tasks.was in
    let p = err_from_is_err_and c.from_residual-in_err-execution.result c.from_residual-in_err-execution.ensures.1 in
    rw (p.1, p.2) (executions_found v.costs.now v.k v.p tasks c.rows-execution.ensures c.in_err-execution.was)

pub overflow_add-executed : goal.overflow_add-executed
unfolding count_of
overflow_add-executed c =
    let v = c.args in
    let long = c.requires.1 in
    let k : v.k < 256 = omega arith in
    let p : v.p < 256 = omega arith in
    omega (arith, place_bound k p k)

pub overflow_mul-executed : goal.overflow_mul-executed
overflow_mul-executed c = omega (arith, overflow_add-executed c)

pub rows-internal-requires : goal.rows-internal-requires
unfolding count_of
rows-internal-requires c =
    let v = c.args in
    let long = c.requires.1 in
    let k : v.k < 256 = omega arith in
    let p : v.p < 256 = omega arith in
    omega (arith, place_bound k p k)

pub returns-in_err-internal : goal.returns-in_err-internal
returns-in_err-internal c =
    let v = c.args in
    let tasks = tasks_clean v.costs.now v.k v.p c.read_tasks.ensures c.in_ok-read_tasks.was in
    let executions = executions_clean v.costs.now v.k v.p tasks c.rows-execution.ensures c.in_ok-execution.was in
    let p = err_from_is_err_and c.from_residual-in_err-internal.result c.from_residual-in_err-internal.ensures.1 in
    rw (p.1, p.2) (internals_found v.costs.now v.k v.p executions c.rows-internal.ensures c.in_err-internal.was)

pub overflow_add-executed-2 : goal.overflow_add-executed-2
unfolding count_of
overflow_add-executed-2 c =
    let v = c.args in
    let long = c.requires.1 in
    let k : v.k < 256 = omega arith in
    let p : v.p < 256 = omega arith in
    omega (arith, place_bound k p k)

pub overflow_mul-pairs : goal.overflow_mul-pairs
overflow_mul-pairs c = omega (arith, overflow_add-executed-2 c)

pub squares-requires : goal.squares-requires
unfolding count_of
squares-requires c =
    let v = c.args in
    let long = c.requires.1 in
    let k : v.k < 256 = omega arith in
    let p : v.p < 256 = omega arith in
    omega (arith, place_bound k p k)

pub returns : goal.returns
returns c =
    let v = c.args in
    let tasks = tasks_clean v.costs.now v.k v.p c.read_tasks.ensures c.in_ok-read_tasks.was in
    let executions = executions_clean v.costs.now v.k v.p tasks c.rows-execution.ensures c.in_ok-execution.was in
    let internals = internals_clean v.costs.now v.k v.p executions c.rows-internal.ensures c.in_ok-internal.was in
    c.squares.ensures ∙ sym internals
