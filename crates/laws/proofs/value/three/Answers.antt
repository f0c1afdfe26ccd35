-- `three` adds its terms: a coefficient times a byte is below 2 to the 40, so no sum overflows.
use native.Mathlib.Omega.{arith}
use Rattle.laws.proofs.Products.{product_bound}
use Rattle.laws.proofs.value.three.Goals as goal

pub overflow_mul-grows : goal.overflow_mul-grows
overflow_mul-grows c = let a = c.args in omega (arith, product_bound a.c3 a.p (omega arith) (omega arith))

pub overflow_add-result-2 : goal.overflow_add-result-2
overflow_add-result-2 c = let a = c.args in omega (arith, product_bound a.c3 a.p (omega arith) (omega arith))
