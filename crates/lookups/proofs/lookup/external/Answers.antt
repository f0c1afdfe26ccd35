-- `external` is `external_of`: the two tests decide which branch of it is due, and each that passed says what `cell` requires.
use Rattle.std.proofs.Common.{rules}
use mathlib.Core.Path.{refl, sym, ◌∙◌}
use native.Mathlib.Omega.{arith}
use Rattle.lookups.specs.Lookups.{external_of}
use Rattle.lookups.proofs.Inside.{within_bounds}
use Rattle.lookups.proofs.lookup.external.Goals as goal

pub cell-requires : goal.cell-requires
cell-requires c =
    let h = within_bounds _ _ (sym c.is_within.ensures ∙ c.if-is_within.true) in
    let i = within_bounds _ _ (sym c.is_within-then-is_within.ensures ∙ c.if-is_within-2.true) in
    omega arith

pub returns-then-is_within-2 : goal.returns-then-is_within-2
unfolding external_of
returns-then-is_within-2 c =
    simp (
      ← c.is_within.ensures,
      c.if-is_within.true,
      ← c.is_within-then-is_within.ensures,
      c.if-is_within-2.true,
    ) (c.value_at.ensures ∙ rw c.cell.ensures.0 (refl))

pub returns-else-is_within : goal.returns-else-is_within
unfolding external_of
returns-else-is_within c = search rules
