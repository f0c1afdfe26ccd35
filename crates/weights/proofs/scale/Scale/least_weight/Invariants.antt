-- `least_weight` is the least over the first modules: those of more than the fewest cores add nothing.
use Prim.Native.Nat.{◌+◌, ◌≤◌}
use Rattle.weights.specs.Scales.{chain_in}
use Rattle.weights.specs.Cells.{Begun}
use Rattle.weights.proofs.scale.Scale.least_weight.Given as goal

abbrev pub invariant-loop-q : goal.invariant-loop-q
invariant-loop-q l =
    (l.q ≤ l.self.board.cores + 1) × Begun (chain_in l.self) l.self.n l.initial.work l.work l.q l.m
