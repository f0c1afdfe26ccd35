-- `walk` is `greedy_from`: what is left of the walk, from the latest assignment and the best so far, ends as the whole does.
use mathlib.Core.Path.{◌≡◌}
use Prim.Native.Nat.{suc, ◌+◌, ◌-◌}
use native.Mathlib.Omega.{arith}
use Rattle.greedy.specs.Docks.{chain}
use Rattle.greedy.proofs.Walking.{walk_ended, walk_stopped, walk_better, walk_worse}
use Rattle.greedy.proofs.greedy.Dock.walk.Goals as goal
use Rattle.greedy.proofs.greedy.Dock.walk.Goals.{then-choice-time, else-choice-time}

pub invariant_of-next_of : goal.invariant_of-next_of
invariant_of-next_of c = record { assigned = c.loop.invariant.held; few = omega (arith, c.loop.invariant.room) }

pub returns-in_default : goal.returns-in_default
returns-in_default c = walk_stopped (chain c.args.self) c.loop.invariant c.next_of.result c.next_of.ensures c.in_default.is

pub loop-preserved : goal.loop-preserved
loop-preserved c =
    let left : c.args.left - c.loop.counter ≡ suc (c.args.left - (c.loop.counter + 1)) = omega arith in
    elim c.if-choice-time.branch [
      | then-choice-time w ↦ rw (w.best-is, w.time-is) (walk_better (chain c.args.self) c.loop.invariant c.in-Some.choice c.in-Some.ensures _ left w.if-choice-time.true)
      | else-choice-time w ↦ rw (w.best-is, w.time-is) (walk_worse (chain c.args.self) c.loop.invariant c.in-Some.choice c.in-Some.ensures _ left w.if-choice-time.false)
    ]

pub returns : goal.returns
returns c = walk_ended (chain c.args.self) c.loop.invariant (omega arith)
