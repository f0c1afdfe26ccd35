-- `unused_meet` is `unused_meets`.
use Rattle.std.proofs.Common.{rules}
use Rattle.laws.specs.Form.{unused_meets}
use Rattle.laws.proofs.form.unused_meet.Goals as goal

pub returns-then-form-ge2 : goal.returns-then-form-ge2
unfolding unused_meets
returns-then-form-ge2 c = search rules

pub returns-else-form-ge2 : goal.returns-else-form-ge2
unfolding unused_meets
returns-else-form-ge2 c = search rules

pub returns-else-zeros : goal.returns-else-zeros
unfolding unused_meets
returns-else-zeros c = search rules
