-- `put_start` fills in the start, module by module; no module needs more than 33 cores, so the sum is at most 33 a module.
use mathlib.Core.Path.{◌≡◌}
use Prim.Native.Nat.{◌+◌, ◌-◌, ◌*◌, ◌≤◌, ◌<◌}
use lib.ListN.{length}
use Rattle.greedy.specs.Docks.{chain}
use Rattle.greedy.proofs.Filling.{Filled}
use Rattle.greedy.proofs.greedy.Dock.put_start.Given as goal

abbrev pub invariant-loop-first : goal.invariant-loop-first
invariant-loop-first l =
    (l.i < l.first) × (l.first ≤ l.k + 1) × (l.sum ≤ 33 * l.i) × (length l.plan ≡ length l.initial.plan) × Filled (chain l.self) l.grouping l.i l.first l.sum l.plan

abbrev pub decreases-loop-first : goal.decreases-loop-first
decreases-loop-first l = l.k + 1 - l.first
