-- `transfer` is `external_of` of the pair's part: of the board only the tasks and the cores count.
use Rattle.lookups.specs.Lookups.{pair_of}
use Rattle.std.proofs.Common.{rules}
use Rattle.held.proofs.boards.transfer.Goals as goal

pub returns : goal.returns
unfolding pair_of
returns c = search rules
