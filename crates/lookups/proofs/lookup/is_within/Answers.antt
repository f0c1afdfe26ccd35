-- `is_within` is `within`.
use Rattle.std.proofs.Common.{rules}
use Rattle.lookups.specs.Lookups.{within}
use Rattle.lookups.proofs.lookup.is_within.Goals as goal

pub returns-then-i-ge1 : goal.returns-then-i-ge1
unfolding within
returns-then-i-ge1 c = search rules

pub returns-else-i-ge1 : goal.returns-else-i-ge1
unfolding within
returns-else-i-ge1 c = search rules
