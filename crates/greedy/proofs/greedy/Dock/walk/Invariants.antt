-- `walk` is `greedy_from`: what is left of the walk, from the latest assignment and the best so far, ends as the whole does.
use Prim.Native.Nat.{◌-◌}
use Rattle.layout.specs.Layout.{modules_of}
use Rattle.greedy.specs.Docks.{chain}
use Rattle.greedy.specs.Greedy.{greedy_from}
use Rattle.greedy.proofs.Walking.{Underway}
use Rattle.greedy.proofs.greedy.Dock.walk.Given as goal

abbrev pub invariant-loop : goal.invariant-loop
invariant-loop l =
    let ms = modules_of l.initial.latest l.self.board.tasks in
    Underway (chain l.self) (greedy_from (chain l.self) l.left ms ms) l.latest l.best l.time (l.left - l.counter)
