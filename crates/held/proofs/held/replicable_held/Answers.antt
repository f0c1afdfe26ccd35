-- A lookup in held costs is the lookup in their records: of the board only the tasks count.
use Rattle.lookups.specs.Lookups.{replicable_of}
use Rattle.held.proofs.held.replicable_held.Goals as goal

pub returns : goal.returns
unfolding replicable_of
returns c = c.replicable_at.ensures
