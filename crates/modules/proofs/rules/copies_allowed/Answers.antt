-- `copies_allowed` is the `copies_allowed` of specs.
use Rattle.std.proofs.Common.{rules}
use Rattle.modules.specs.Rules.{copies_allowed}
use Rattle.modules.proofs.rules.copies_allowed.Goals as goal

pub returns-then-r-le1 : goal.returns-then-r-le1
unfolding copies_allowed
returns-then-r-le1 c = search rules

pub returns-else-r-le1 : goal.returns-else-r-le1
unfolding copies_allowed
returns-else-r-le1 c = search rules
