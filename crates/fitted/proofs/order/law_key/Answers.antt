-- `law_key` is the `law_key` of specs: its tests are the definition's.
use Rattle.std.proofs.Common.{rules}
use Rattle.fitted.specs.Fill.{law_key}
use Rattle.fitted.proofs.order.law_key.Goals as goal

pub returns-then-i-tasks : goal.returns-then-i-tasks
unfolding law_key
returns-then-i-tasks c = search rules

pub returns-then-i-pairs : goal.returns-then-i-pairs
unfolding law_key
returns-then-i-pairs c = search rules

pub returns-else-i-pairs : goal.returns-else-i-pairs
unfolding law_key
returns-else-i-pairs c = search rules
