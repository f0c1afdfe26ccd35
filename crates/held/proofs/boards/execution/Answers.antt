-- `execution` is `execution_of`: of the board only the tasks and the cores count.
use Rattle.lookups.specs.Lookups.{execution_of}
use Rattle.std.proofs.Common.{rules}
use Rattle.held.proofs.boards.execution.Goals as goal

pub returns : goal.returns
unfolding execution_of
returns c = search rules
