-- `slowest_of` is `bottleneck`: the slowest of x and what is left is that of the whole, and x is the slower of two bounded.
use mathlib.Core.Path.{◌≡◌}
use Prim.Native.Nat.{◌+◌, ◌-◌, ◌<◌}
use Rattle.modules.specs.Model.{chain_of}
use Rattle.layout.specs.Layout.{modules_from}
use Rattle.figures.specs.Model.{slowest_from, bottleneck}
use Rattle.figures.specs.Plan.{cores_before}
use Rattle.figures.proofs.plan.slowest_of.Given as goal

abbrev pub invariant-loop-i : goal.invariant-loop-i
invariant-loop-i l =
    let k = chain_of l.costs l.board in
    (bottleneck k (modules_from l.plan 0 l.count) ≡ slowest_from k (cores_before l.plan l.i) (l.i + 1) l.x (modules_from l.plan l.i (l.count - l.i)))
    × (l.x.response < 8796093022208)
    × (l.x.copies < 256)
