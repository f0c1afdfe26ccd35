-- `pair` is `pair_of`: the two tests decide which branch of it is due, and a part from start to end holds end - start bytes.
use mathlib.Core.Path.{sym, ◌∙◌}
use native.Mathlib.Nat.{add-sub_cancel_left}
use native.Mathlib.Omega.{arith}
use borrow.Author.Tests.{le-leb, lt-leb}
use Rattle.lookups.specs.Lookups.{pair_of}
use Rattle.lookups.proofs.Inside.{has_next_bounds}
use Rattle.lookups.proofs.lookup.pair.Goals as goal

pub pair_place-requires : goal.pair_place-requires
pair_place-requires c =
    let h = has_next_bounds _ _ (sym c.has_next.ensures ∙ c.if-not-has_next.false) in
    omega arith

pub returns-then-end-costs : goal.returns-then-end-costs
unfolding pair_of
returns-then-end-costs c =
    rw (← c.pair_place.ensures.0, ← c.wide-cores.ensures.0)
    (simp (
      ← c.has_next.ensures,
      c.if-not-has_next.false,
      le-leb _ _ c.if-end-costs.true,
      add-sub_cancel_left,
    ))

pub returns-then-not-has_next : goal.returns-then-not-has_next
unfolding pair_of
returns-then-not-has_next c = simp (← c.has_next.ensures, c.if-not-has_next.true)

pub returns-else-end-costs : goal.returns-else-end-costs
unfolding pair_of
returns-else-end-costs c =
    rw (← c.pair_place.ensures.0, ← c.wide-cores.ensures.0)
    (simp (← c.has_next.ensures, c.if-not-has_next.false, lt-leb _ _ c.if-end-costs.false))
