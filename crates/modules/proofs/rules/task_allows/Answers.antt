-- `task_allows` is `allows` at the task's limit.
use Rattle.std.proofs.Common.{rules}
use Rattle.modules.specs.Rules.{allows}
use Rattle.modules.proofs.rules.task_allows.Goals as goal

pub returns-then-limit-eq0 : goal.returns-then-limit-eq0
unfolding allows
returns-then-limit-eq0 c = search rules

pub returns-else-limit-eq0 : goal.returns-else-limit-eq0
unfolding allows
returns-else-limit-eq0 c = search rules
