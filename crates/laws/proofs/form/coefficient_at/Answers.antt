-- `coefficient_at` is `coefficient`.
use Rattle.laws.specs.Form.{coefficient}
use Rattle.laws.proofs.form.coefficient_at.Goals as goal

pub returns : goal.returns
unfolding coefficient
returns c = c.number_at.ensures
