-- `weigh_row` weighs the cells after modules of all cores but the board's, after which none has room.
use Prim.Native.Nat.{◌<◌}
use Rattle.weights.specs.Scales.{chain_in}
use Rattle.weights.specs.Places.{Tabled}
use Rattle.weights.specs.Cells.{Swept}
use Rattle.weights.proofs.scale.Scale.weigh_row.Given as goal

abbrev pub invariant-loop-s : goal.invariant-loop-s
invariant-loop-s l =
    Tabled (chain_in l.self) l.self.board l.self.n l.work × Swept (chain_in l.self) l.self.n l.t l.initial.work l.work (λ i j. i < l.s)
