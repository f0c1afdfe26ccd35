-- `plain_fault` is `fault_at`: the key's number decides refusal 5 (`word_meets`, `word_other`), the value 6; no byte is free.
use native.Mathlib.Omega.{arith}
use borrow.Author.Tests.{ne_eqb, le-leb, lt-leb}
use Rattle.records.specs.Costs.{value_meets, fault_at}
use Rattle.records.proofs.Words.{word_meets, word_other, word_value}
use Rattle.records.proofs.runs.plain_fault.Goals as goal

pub returns-then-found-due : goal.returns-then-found-due
unfolding fault_at
returns-then-found-due c =
    let a = c.args in
    let pre = c.requires in
    simp (word_other a.costs.now a.n a.key pre.1 c.word_from-found.ensures c.if-found-due.true)

pub returns-then-value-gt-MOST_VALUE : goal.returns-then-value-gt-MOST_VALUE
unfolding fault_at value_meets
returns-then-value-gt-MOST_VALUE c =
    let a = c.args in
    let pre = c.requires in
    let v = word_value a.costs.now a.n c.word_from-value.ensures in
    simp (
      word_meets a.costs.now a.n a.key pre.1 c.word_from-found.ensures c.if-found-due.false,
      ← v,
      lt-leb _ _ c.if-value-gt-MOST_VALUE.true,
    )

pub returns-else-value-gt-MOST_VALUE : goal.returns-else-value-gt-MOST_VALUE
unfolding fault_at value_meets
returns-else-value-gt-MOST_VALUE c =
    let a = c.args in
    let pre = c.requires in
    let v = word_value a.costs.now a.n c.word_from-value.ensures in
    simp (
      word_meets a.costs.now a.n a.key pre.1 c.word_from-found.ensures c.if-found-due.false,
      ← v,
      le-leb _ _ c.if-value-gt-MOST_VALUE.false,
      ne_eqb a.key.kind 2 (λ z. omega arith),
    )
