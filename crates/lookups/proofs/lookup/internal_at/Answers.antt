-- `internal_at` is `internal_of`: the two tests decide which branch of it is due, and each that passed says what `cell` requires.
use Rattle.std.proofs.Common.{rules}
use mathlib.Core.Path.{refl, sym, ◌∙◌}
use native.Mathlib.Omega.{arith}
use Rattle.lookups.specs.Lookups.{internal_of}
use Rattle.lookups.proofs.Inside.{within_bounds, has_next_bounds}
use Rattle.lookups.proofs.lookup.internal_at.Goals as goal

pub cell-requires : goal.cell-requires
cell-requires c =
    let h = has_next_bounds _ _ (sym c.has_next.ensures ∙ c.if-has_next.true) in
    let i = within_bounds _ _ (sym c.is_within.ensures ∙ c.if-is_within.true) in
    omega arith

pub returns-then-is_within : goal.returns-then-is_within
unfolding internal_of
returns-then-is_within c =
    simp (
      ← c.has_next.ensures,
      c.if-has_next.true,
      ← c.is_within.ensures,
      c.if-is_within.true,
    ) (c.value_at.ensures ∙ rw (c.cell.ensures.0, c.wide.ensures.0, c.wide-tasks.ensures.0) (refl))

pub returns-else-has_next : goal.returns-else-has_next
unfolding internal_of
returns-else-has_next c = search rules
