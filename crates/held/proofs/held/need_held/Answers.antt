-- A lookup in held costs is the lookup in their records: of the board only the tasks count.
use Rattle.lookups.specs.Lookups.{need_of}
use Rattle.held.proofs.held.need_held.Goals as goal

pub returns : goal.returns
unfolding need_of
returns c = c.need_at.ensures
