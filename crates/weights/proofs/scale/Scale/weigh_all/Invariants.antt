-- `weigh_all` weighs one row after the other, each by those after it, which are right.
use Prim.Native.Nat.{◌-◌}
use lib.ListN.{length}
use mathlib.Core.Path.{◌≡◌}
use Rattle.weights.specs.Scales.{chain_in}
use Rattle.threshold.specs.Words.{KeptBeyond}
use Rattle.weights.specs.Places.{Tabled}
use Rattle.weights.specs.Cells.{ClosedTo, Reads, weight_on}
use Rattle.weights.proofs.scale.Scale.weigh_all.Given as goal

abbrev pub invariant-loop-t : goal.invariant-loop-t
invariant-loop-t l =
    let k = chain_in l.self in
    (length l.work ≡ length l.initial.work) × Tabled k l.self.board l.self.n l.work × ClosedTo k l.self.n l.work l.self.board.tasks × Reads k l.work (l.t - 1) (weight_on k l.self.n) × KeptBeyond l.initial.work l.work
