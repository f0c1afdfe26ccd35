-- `cores_at` is the i-th module's cores where there is such a module: the test is the definition's.
use mathlib.Core.Path.{refl}
use native.Mathlib.Omega.{arith}
use borrow.Author.Tests.{lt-ltb}
use Rattle.layout.proofs.Turns.{record_here}
use Rattle.figures.proofs.plan.cores_at.Goals as goal

pub returns-then-i-count : goal.returns-then-i-count
returns-then-i-count c =
    let a = c.args in
    rw (lt-ltb _ _ c.if-i-count.true, c.module_at.ensures, record_here a.plan.now a.i (omega arith)) (refl)
