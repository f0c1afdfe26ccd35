-- `block_time` is the `block_time` of specs: what is added up and what is left of the time are the whole, twelve modules at most.
use mathlib.Core.Path.{◌≡◌}
use Prim.Native.Nat.{◌+◌, ◌-◌, ◌*◌, ◌≤◌}
use Rattle.modules.specs.Model.{chain_of}
use Rattle.layout.specs.Layout.{modules_from}
use Rattle.figures.specs.Model.{block_time}
use Rattle.figures.proofs.plan.block_time.Given as goal

abbrev pub invariant-loop-i : goal.invariant-loop-i
invariant-loop-i l =
    let c = chain_of l.costs l.board in
    (block_time c (modules_from l.plan 0 l.count) ≡ l.sum + block_time c (modules_from l.plan l.i (l.count - l.i))) × (l.sum ≤ l.i * 8796093022208)
