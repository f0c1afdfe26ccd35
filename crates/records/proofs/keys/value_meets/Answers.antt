-- `value_meets` is the `value_meets` of specs: each branch says what one more of its tests is.
use borrow.Author.Tests.{le-leb, lt-leb, eq-eqb, ne_eqb}
use Rattle.records.specs.Costs.{value_meets}
use Rattle.records.proofs.keys.value_meets.Goals as goal

pub returns-then-value-gt-MOST_VALUE : goal.returns-then-value-gt-MOST_VALUE
unfolding value_meets
returns-then-value-gt-MOST_VALUE c = simp (← c.value_at-value.ensures, lt-leb _ _ c.if-value-gt-MOST_VALUE.true)

pub returns-then-key-ne2 : goal.returns-then-key-ne2
unfolding value_meets
returns-then-key-ne2 c =
    simp (
      ← c.value_at-value.ensures,
      le-leb _ _ c.if-value-gt-MOST_VALUE.false,
      ne_eqb _ _ c.if-key-ne2.true,
    )

pub returns-then-flag-gt1 : goal.returns-then-flag-gt1
unfolding value_meets
returns-then-flag-gt1 c =
    simp (
      ← c.value_at-value.ensures,
      le-leb _ _ c.if-value-gt-MOST_VALUE.false,
      eq-eqb _ _ c.if-key-ne2.false,
      ← c.byte_at-flag.ensures.0,
      lt-leb _ _ c.if-flag-gt1.true,
    )

pub returns : goal.returns
unfolding value_meets
returns c =
    simp (
      ← c.value_at-value.ensures,
      le-leb _ _ c.if-value-gt-MOST_VALUE.false,
      eq-eqb _ _ c.if-key-ne2.false,
      ← c.byte_at-flag.ensures.0,
      le-leb _ _ c.if-flag-gt1.false,
      ← c.byte_at-limit.ensures.0,
      c.wide.ensures.0,
    )
