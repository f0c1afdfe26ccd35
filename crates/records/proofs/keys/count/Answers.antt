-- `count` is `count_of`: no sum overflows, since each is a part of a place (`place_bound`).
use mathlib.Core.Path.{refl, ◌≡◌}
use native.Mathlib.Omega.{arith}
use Rattle.records.specs.Costs.{count_of}
use Rattle.records.proofs.Bounds.{product_of_bytes, place_bound}
use Rattle.records.proofs.keys.count.Goals as goal

pub returns-then-k-lt1 : goal.returns-then-k-lt1
unfolding count_of
returns-then-k-lt1 c = let e : c.args.k ≡ 0 = omega arith in simp e (omega arith)

pub overflow_mul-square : goal.overflow_mul-square
overflow_mul-square c = let h = c.wide-cores.ensures.1 in omega (arith, product_of_bytes h h)

pub overflow_add-result-4 : goal.overflow_add-result-4
overflow_add-result-4 c = omega (arith, place_bound c.wide-tasks.ensures.1 c.wide-cores.ensures.1 c.wide-tasks.ensures.1)

pub overflow_mul-result : goal.overflow_mul-result
overflow_mul-result c = omega (arith, overflow_add-result-4 c)

pub overflow_add-result-2 : goal.overflow_add-result-2
overflow_add-result-2 c = omega (arith, overflow_add-result-4 c)

pub overflow_mul-result-2 : goal.overflow_mul-result-2
overflow_mul-result-2 c = omega (arith, overflow_add-result-4 c)

pub overflow_add-result-3 : goal.overflow_add-result-3
overflow_add-result-3 c = omega (arith, overflow_add-result-4 c)

pub overflow_mul-result-3 : goal.overflow_mul-result-3
overflow_mul-result-3 c = omega (arith, overflow_add-result-4 c)

pub returns : goal.returns
unfolding count_of
returns c = rw (c.wide-tasks.ensures.0, c.wide-cores.ensures.0) (refl)
