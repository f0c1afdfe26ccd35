-- `external_at` is `external_of` of the pair's part.
use Rattle.lookups.proofs.lookup.external_at.Goals as goal

pub returns : goal.returns
returns c = rw (← c.pair-part.ensures) c.external.ensures
