-- `value_at` is the `value_at` of specs, whichever way the bytes are read.
use Rattle.fields.specs.Fields.{value_at}
use Rattle.fields.proofs.bytes.value_at.Goals as goal

pub returns-then-start-costs : goal.returns-then-start-costs
unfolding value_at
returns-then-start-costs c = c.value_inside.ensures

pub returns-else-start-costs : goal.returns-else-start-costs
unfolding value_at
returns-else-start-costs c = c.value_cut.ensures
