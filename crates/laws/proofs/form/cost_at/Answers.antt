-- `cost_at` is the `cost_at` of specs, field by field.
use mathlib.Core.Path.{refl}
use Rattle.laws.specs.Form.{cost_at}
use Rattle.laws.proofs.form.cost_at.Goals as goal

pub returns : goal.returns
unfolding cost_at
returns c = rw (c.law_byte.ensures, c.law_byte-2.ensures, c.law_of.ensures) refl
