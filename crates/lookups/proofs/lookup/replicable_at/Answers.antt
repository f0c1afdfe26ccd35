-- `replicable_at` is `replicable_of`.
use Rattle.std.proofs.Common.{rules}
use Rattle.lookups.specs.Lookups.{replicable_of}
use Rattle.lookups.proofs.lookup.replicable_at.Goals as goal

pub returns-then-is_within : goal.returns-then-is_within
unfolding replicable_of
returns-then-is_within c = search rules

pub returns-else-is_within : goal.returns-else-is_within
unfolding replicable_of
returns-else-is_within c = search rules
