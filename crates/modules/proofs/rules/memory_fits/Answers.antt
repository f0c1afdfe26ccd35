-- `memory_fits` is the `memory_fits` of specs: on no cores nothing fits, else the sum of the shares decides.
use Rattle.std.proofs.Common.{rules}
use Rattle.modules.specs.Rules.{memory_fits}
use Rattle.modules.proofs.rules.memory_fits.Goals as goal

pub returns-then-p-ge1 : goal.returns-then-p-ge1
unfolding memory_fits
returns-then-p-ge1 c = search rules

pub returns-else-p-ge1 : goal.returns-else-p-ge1
unfolding memory_fits
returns-else-p-ge1 c = search rules
