-- `law_of` is the `law_of` of specs: the form decides, and each coefficient is read where it stands.
use Rattle.std.proofs.Common.{rules}
use Rattle.laws.specs.Form.{law_of}
use Rattle.laws.proofs.form.law_of.Goals as goal

pub returns-in-0 : goal.returns-in-0
unfolding law_of
returns-in-0 c = search rules

pub returns-in-1 : goal.returns-in-1
unfolding law_of
returns-in-1 c = search rules

pub returns-in_default : goal.returns-in_default
unfolding law_of
returns-in_default c = search rules
