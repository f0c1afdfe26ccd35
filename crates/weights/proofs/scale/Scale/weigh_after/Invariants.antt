-- `weigh_after` weighs the cells one after the other; those of more cores are not on the board.
use Prim.Native.Nat.{◌<◌}
use mathlib.Core.Path.{◌≡◌}
use Rattle.weights.specs.Scales.{chain_in}
use Rattle.weights.specs.Places.{Tabled}
use Rattle.weights.specs.Cells.{Swept}
use Rattle.weights.proofs.scale.Scale.weigh_after.Given as goal

abbrev pub invariant-loop-q : goal.invariant-loop-q
invariant-loop-q l =
    Tabled (chain_in l.self) l.self.board l.self.n l.work × Swept (chain_in l.self) l.self.n l.t l.initial.work l.work (λ i j. (i ≡ l.s) × (j < l.q))
