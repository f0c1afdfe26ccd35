-- `handed` is the chain's: the copies decide whether the lookup counts.
use borrow.Author.Tests.{lt-ltb, le-ltb}
use Rattle.modules.specs.Model.{handed}
use Rattle.modules.proofs.cost.handed.Goals as goal

pub returns-then-r-gt1 : goal.returns-then-r-gt1
unfolding handed
returns-then-r-gt1 c = simp (lt-ltb _ _ c.if-r-gt1.true) c.hand_out.ensures

pub returns-else-r-gt1 : goal.returns-else-r-gt1
unfolding handed
returns-else-r-gt1 c = simp (le-ltb _ _ c.if-r-gt1.false)
