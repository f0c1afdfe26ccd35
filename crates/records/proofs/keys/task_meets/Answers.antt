-- `task_meets` is the `task_meets` of specs: the kind decides whether the byte counts.
use borrow.Author.Tests.{eq-eqb, ne_eqb}
use Rattle.records.specs.Costs.{task_meets}
use Rattle.records.proofs.keys.task_meets.Goals as goal

pub returns-then-key-eq1 : goal.returns-then-key-eq1
unfolding task_meets
returns-then-key-eq1 c = simp (eq-eqb _ _ c.if-key-eq1.true)

pub returns : goal.returns
unfolding task_meets
returns c = simp (ne_eqb _ _ c.if-key-eq1.false, ← c.byte_at-task.ensures.0)
