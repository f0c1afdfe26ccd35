-- `need` is `need_of`: of the board only the tasks and the cores count.
use Rattle.lookups.specs.Lookups.{need_of}
use Rattle.std.proofs.Common.{rules}
use Rattle.held.proofs.boards.need.Goals as goal

pub returns : goal.returns
unfolding need_of
returns c = search rules
