-- `internal` is `internal_of`: of the board only the tasks and the cores count.
use Rattle.lookups.specs.Lookups.{internal_of}
use Rattle.std.proofs.Common.{rules}
use Rattle.held.proofs.boards.internal.Goals as goal

pub returns : goal.returns
unfolding internal_of
returns c = search rules
