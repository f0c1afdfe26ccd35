-- `cost_count` is the `cost_count` of specs.
use native.Mathlib.Omega.{arith}
use borrow.Author.Tests.{eq-eqb, ne_eqb}
use Rattle.records.proofs.Bounds.{product_of_bytes}
use Rattle.fitted.specs.Fill.{cost_count}
use Rattle.fitted.proofs.fill.cost_count.Goals as goal

pub overflow_mul-result : goal.overflow_mul-result
overflow_mul-result c = let h = c.wide-cores.ensures.1 in omega (arith, product_of_bytes h h)

pub returns-then-wide-eq-EXTERNAL : goal.returns-then-wide-eq-EXTERNAL
unfolding cost_count
returns-then-wide-eq-EXTERNAL c =
    let h = c.wide-cores.ensures.1 in
    (simp (← c.wide.ensures.0, ← c.wide-cores.ensures.0, eq-eqb _ _ c.if-wide-eq-EXTERNAL.true), omega (arith, product_of_bytes h h))

pub returns-else-wide-eq-EXTERNAL : goal.returns-else-wide-eq-EXTERNAL
unfolding cost_count
returns-else-wide-eq-EXTERNAL c = (simp (← c.wide.ensures.0, ← c.wide-cores.ensures.0, ne_eqb _ _ c.if-wide-eq-EXTERNAL.false), omega arith)
