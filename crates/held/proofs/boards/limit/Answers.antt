-- `limit` is `limit_of`: of the board only the tasks and the cores count.
use Rattle.lookups.specs.Lookups.{limit_of}
use Rattle.std.proofs.Common.{rules}
use Rattle.held.proofs.boards.limit.Goals as goal

pub returns : goal.returns
unfolding limit_of
returns c = search rules
