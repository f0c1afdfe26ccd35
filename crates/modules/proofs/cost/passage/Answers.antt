-- `passage` is the chain's: the body, what is sent and what handing out costs.
use mathlib.Core.Path.{refl}
use native.Mathlib.Omega.{arith}
use Rattle.modules.specs.Model.{passage}
use Rattle.modules.proofs.cost.passage.Goals as goal

pub returns : goal.returns
unfolding passage
returns c = (rw (c.body.ensures.0, c.handed-out.ensures, c.transfer-sent.ensures) (refl), omega arith)
