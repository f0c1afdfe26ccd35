-- `cell` is `cell_of` and small: rows before the given one hold at most 255 × 255 places.
use mathlib.Core.Path.{refl}
use native.Mathlib.Omega.{arith}
use Rattle.records.proofs.Bounds.{row_of_bytes}
use Rattle.lookups.specs.Lookups.{cell_of}
use Rattle.lookups.proofs.lookup.cell.Goals as goal

pub overflow_mul-result : goal.overflow_mul-result
overflow_mul-result c = omega (arith, row_of_bytes c.wide.ensures.1 c.wide-2.ensures.1)

pub returns : goal.returns
unfolding cell_of
returns c = (rw (c.wide.ensures.0, c.wide-2.ensures.0, c.wide-3.ensures.0) (refl), omega (arith, row_of_bytes c.wide.ensures.1 c.wide-2.ensures.1))

pub overflow_add-result : goal.overflow_add-result
overflow_add-result c = omega (arith, (returns c).1)
