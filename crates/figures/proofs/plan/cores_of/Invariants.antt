-- `cores_of` is the `cores_of` of specs: what is added up and what is left of the sum are the whole.
use mathlib.Core.Path.{◌≡◌}
use Prim.Native.Nat.{◌+◌, ◌-◌, ◌*◌, ◌≤◌}
use Rattle.layout.specs.Layout.{modules_from}
use Rattle.figures.specs.Model.{cores_of}
use Rattle.figures.proofs.plan.cores_of.Given as goal

abbrev pub invariant-loop-i : goal.invariant-loop-i
invariant-loop-i l =
    (cores_of (modules_from l.plan 0 l.count) ≡ l.sum + cores_of (modules_from l.plan l.i (l.count - l.i))) × (l.sum ≤ l.i * 65025)
