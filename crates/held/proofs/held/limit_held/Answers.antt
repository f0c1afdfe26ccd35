-- A lookup in held costs is the lookup in their records: of the board only the tasks count.
use Rattle.lookups.specs.Lookups.{limit_of}
use Rattle.held.proofs.held.limit_held.Goals as goal

pub returns : goal.returns
unfolding limit_of
returns c = c.limit_at.ensures
