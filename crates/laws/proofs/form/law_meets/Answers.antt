-- `law_meets` is the `law_meets` of specs, test by test.
use Rattle.std.proofs.Common.{rules}
use Rattle.laws.specs.Form.{law_meets}
use Rattle.laws.proofs.form.law_meets.Goals as goal

pub returns-then-law_byte-eq0 : goal.returns-then-law_byte-eq0
unfolding law_meets
returns-then-law_byte-eq0 c = search rules

pub returns-else-law_byte-eq0 : goal.returns-else-law_byte-eq0
unfolding law_meets
returns-else-law_byte-eq0 c = search rules
