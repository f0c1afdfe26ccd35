-- `mark_all` closes one row after the other.
use Prim.Native.Nat.{◌-◌}
use lib.ListN.{length}
use mathlib.Core.Path.{◌≡◌}
use Rattle.weights.specs.Scales.{chain_in}
use Rattle.threshold.specs.Words.{KeptBeyond}
use Rattle.weights.specs.Places.{Tabled}
use Rattle.weights.specs.Cells.{ClosedTo}
use Rattle.weights.proofs.scale.Scale.mark_all.Given as goal

abbrev pub invariant-loop-t : goal.invariant-loop-t
invariant-loop-t l =
    (length l.work ≡ length l.initial.work) × Tabled (chain_in l.self) l.self.board l.self.n l.work × ClosedTo (chain_in l.self) l.self.n l.work (l.t - 1) × KeptBeyond l.initial.work l.work
