-- `cores_before` is the `cores_before` of specs: the record before the i-th is the one at i - 1.
use mathlib.Core.Path.{sym}
use Prim.Native.Nat.{◌-◌}
use native.Mathlib.Omega.{arith}
use Rattle.layout.proofs.Turns.{record_here}
use Rattle.figures.specs.Plan.{cores_before}
use Rattle.figures.proofs.Listed.{cores_before_some}
use Rattle.figures.proofs.plan.cores_before.Goals as goal

pub returns-then-i-eq0 : goal.returns-then-i-eq0
unfolding cores_before
returns-then-i-eq0 c = simp c.if-i-eq0.true

pub returns-else-i-eq0 : goal.returns-else-i-eq0
returns-else-i-eq0 c =
    let a = c.args in
    rw (c.module_at.ensures, record_here a.plan.now (a.i - 1) (omega arith)) (sym (cores_before_some a.plan.now a.i (omega arith)))
