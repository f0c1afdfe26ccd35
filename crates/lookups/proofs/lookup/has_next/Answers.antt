-- `has_next` is the `has_next` of specs.
use Rattle.std.proofs.Common.{rules}
use Rattle.lookups.specs.Lookups.{has_next}
use Rattle.lookups.proofs.lookup.has_next.Goals as goal

pub returns-then-task-ge1 : goal.returns-then-task-ge1
unfolding has_next
returns-then-task-ge1 c = search rules

pub returns-else-task-ge1 : goal.returns-else-task-ge1
unfolding has_next
returns-else-task-ge1 c = search rules
