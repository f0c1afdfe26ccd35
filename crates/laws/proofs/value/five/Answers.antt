-- `five` adds its terms: a coefficient times a byte is below 2 to the 40, so no sum overflows.
use native.Mathlib.Omega.{arith}
use Rattle.laws.proofs.Products.{product_bound}
use Rattle.laws.proofs.value.five.Goals as goal

pub overflow_mul-sending : goal.overflow_mul-sending
overflow_mul-sending c = let a = c.args in omega (arith, product_bound a.c4 a.s (omega arith) (omega arith))

pub overflow_mul-receiving : goal.overflow_mul-receiving
overflow_mul-receiving c = let a = c.args in omega (arith, product_bound a.c5 a.q (omega arith) (omega arith))

pub overflow_add-result-3 : goal.overflow_add-result-3
overflow_add-result-3 c = let a = c.args in omega (arith, product_bound a.c4 a.s (omega arith) (omega arith))

pub overflow_add-result-4 : goal.overflow_add-result-4
overflow_add-result-4 c =
    let a = c.args in
    omega (arith, product_bound a.c4 a.s (omega arith) (omega arith), product_bound a.c5 a.q (omega arith) (omega arith))
