-- `mark_of` is `mark`: the test decides which of the two it is.
use borrow.Author.Rules.{rules}
use Rattle.modules.proofs.cost.mark_of.Goals as goal

pub returns-then-replicable : goal.returns-then-replicable
returns-then-replicable c = (simp (← c.replicable.ensures, c.if-replicable.true), search rules)

pub returns-else-replicable : goal.returns-else-replicable
returns-else-replicable c = (simp (← c.replicable.ensures, c.if-replicable.false), search rules)
