-- `replicable` is `replicable_of`: of the board only the tasks and the cores count.
use Rattle.lookups.specs.Lookups.{replicable_of}
use Rattle.std.proofs.Common.{rules}
use Rattle.held.proofs.boards.replicable.Goals as goal

pub returns : goal.returns
unfolding replicable_of
returns c = search rules
