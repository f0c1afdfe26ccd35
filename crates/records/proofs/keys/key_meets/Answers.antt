-- `key_meets` is the `key_meets` of specs: each branch says what one more of its tests is.
use mathlib.Core.Path.{sym, ◌∙◌}
use borrow.Author.Tests.{eq-eqb, ne_eqb}
use Rattle.records.specs.Costs.{key_meets}
use Rattle.records.proofs.keys.key_meets.Goals as goal

pub returns-then-kind-key : goal.returns-then-kind-key
unfolding key_meets
returns-then-kind-key c = simp (← c.byte_at-kind.ensures.0, ne_eqb _ _ c.if-kind-key.true)

pub returns-then-not-task_meets : goal.returns-then-not-task_meets
unfolding key_meets
returns-then-not-task_meets c =
    simp (
      ← c.byte_at-kind.ensures.0,
      eq-eqb _ _ c.if-kind-key.false,
      ← c.task_meets.ensures,
      c.if-not-task_meets.true,
    )

pub returns-then-kind-eq2 : goal.returns-then-kind-eq2
unfolding key_meets
returns-then-kind-eq2 c =
    let two = sym c.if-kind-key.false ∙ c.if-kind-eq2.true in
    simp (
      ← c.byte_at-kind.ensures.0,
      eq-eqb _ _ c.if-kind-key.false,
      ← c.task_meets.ensures,
      c.if-not-task_meets.false,
      eq-eqb _ _ two,
    )

pub returns-then-a-key : goal.returns-then-a-key
unfolding key_meets
returns-then-a-key c =
    simp (
      ← c.byte_at-kind.ensures.0,
      eq-eqb _ _ c.if-kind-key.false,
      ← c.task_meets.ensures,
      c.if-not-task_meets.false,
      ne_eqb _ _ (λ e. c.if-kind-eq2.false (c.if-kind-key.false ∙ e)),
      ← c.byte_at-a.ensures.0,
      ne_eqb _ _ c.if-a-key.true,
    )

pub returns : goal.returns
unfolding key_meets
returns c =
    simp (
      ← c.byte_at-kind.ensures.0,
      eq-eqb _ _ c.if-kind-key.false,
      ← c.task_meets.ensures,
      c.if-not-task_meets.false,
      ne_eqb _ _ (λ e. c.if-kind-eq2.false (c.if-kind-key.false ∙ e)),
      ← c.byte_at-a.ensures.0,
      eq-eqb _ _ c.if-a-key.false,
      ← c.byte_at-b.ensures.0,
    )
