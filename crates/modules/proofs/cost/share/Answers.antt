-- `share` is the `share` of specs: the need that is looked up, divided and rounded up.
use mathlib.Core.Path.{◌∙◌, ap}
use Prim.Native.Nat.{ℕ}
use native.Mathlib.Omega.{arith}
use Rattle.rounding.specs.Rounding.{rounded_up}
use Rattle.modules.specs.Rules.{share as share_of}
use Rattle.modules.proofs.cost.share.Goals as goal

pub returns : goal.returns
unfolding share_of
returns c =
    let a = c.args in
    (c.rounded_up.ensures.0 ∙ ap (λ (x : ℕ). rounded_up x a.p) c.need-need.ensures, omega arith)
