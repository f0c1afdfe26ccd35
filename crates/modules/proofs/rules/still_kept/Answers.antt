-- `still_kept` is the `still_kept` of specs.
use Rattle.std.proofs.Common.{rules}
use Rattle.modules.specs.Rules.{still_kept}
use Rattle.modules.proofs.rules.still_kept.Goals as goal

pub returns-then-task_allows : goal.returns-then-task_allows
unfolding still_kept
returns-then-task_allows c = search rules

pub returns-else-task_allows : goal.returns-else-task_allows
unfolding still_kept
returns-else-task_allows c = search rules
