-- `form_meets` is the `form_meets` of specs.
use Rattle.std.proofs.Common.{rules}
use Rattle.laws.specs.Form.{form_meets}
use Rattle.laws.proofs.form.form_meets.Goals as goal

pub returns-then-form-eq0 : goal.returns-then-form-eq0
unfolding form_meets
returns-then-form-eq0 c = search rules

pub returns-else-form-eq0 : goal.returns-else-form-eq0
unfolding form_meets
returns-else-form-eq0 c = search rules
