-- `pair_place` is the `pair_place` of specs: no sum overflows, since each is a part of a place (`place_bound`).
use mathlib.Core.Path.{refl}
use native.Mathlib.Omega.{arith}
use Rattle.records.proofs.Bounds.{product_of_bytes, place_bound}
use Rattle.lookups.specs.Lookups.{pair_place}
use Rattle.lookups.proofs.lookup.pair_place.Goals as goal

pub overflow_mul-square : goal.overflow_mul-square
overflow_mul-square c = let h = c.wide-cores.ensures.1 in omega (arith, product_of_bytes h h)

pub overflow_add-result-3 : goal.overflow_add-result-3
overflow_add-result-3 c = omega (arith, place_bound c.wide-tasks.ensures.1 c.wide-cores.ensures.1 c.wide-tasks.ensures.1)

pub overflow_mul-result : goal.overflow_mul-result
overflow_mul-result c = omega (arith, overflow_add-result-3 c)

pub overflow_add-result-2 : goal.overflow_add-result-2
overflow_add-result-2 c = omega (arith, overflow_add-result-3 c)

pub overflow_mul-result-2 : goal.overflow_mul-result-2
overflow_mul-result-2 c = omega (arith, overflow_add-result-3 c)

pub returns : goal.returns
unfolding pair_place
returns c = (rw (c.wide-tasks.ensures.0, c.wide-cores.ensures.0, c.wide.ensures.0) (refl), place_bound c.wide-tasks.ensures.1 c.wide-cores.ensures.1 c.wide.ensures.1)

pub overflow_mul-result-3 : goal.overflow_mul-result-3
overflow_mul-result-3 c = omega (arith, (returns c).1)

pub overflow_add-result-4 : goal.overflow_add-result-4
overflow_add-result-4 c = omega (arith, (returns c).1)
