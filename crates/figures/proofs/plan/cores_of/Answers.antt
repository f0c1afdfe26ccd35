-- `cores_of` is the `cores_of` of specs: what is added up and what is left of the sum are the whole.
use mathlib.Core.Path.{◌∙◌}
use native.Mathlib.Omega.{arith}
use Rattle.records.proofs.Bounds.{product_of_bytes}
use Rattle.layout.proofs.Turns.{record_here}
use Rattle.figures.proofs.Listed.{cores_step, cores_end}
use Rattle.figures.proofs.plan.cores_of.Goals as goal

pub overflow_add-sum : goal.overflow_add-sum
overflow_add-sum c =
    let m = c.module_at-m.result in
    omega (arith, product_of_bytes {x = m.copies} {y = m.cores} (omega arith) (omega arith))

pub loop-i-preserved : goal.loop-i-preserved
loop-i-preserved c =
    let a = c.args in
    let m = c.module_at-m in
    let i = c.loop-i.i in
    let next = cores_step a.plan.now i a.count (omega arith) (m.ensures ∙ record_here a.plan.now i (omega arith)) in
    omega (arith, product_of_bytes {x = m.result.copies} {y = m.result.cores} (omega arith) (omega arith))

pub returns : goal.returns
returns c =
    let a = c.args in
    let done = cores_end a.plan.now c.loop-i.i a.count (omega arith) in
    omega arith
