-- `tasks_fault` is the `tasks_fault` of specs: the length decides between a refusal and the walk.
use Prim.Native.Nat.{◌+◌, ◌*◌}
use native.Mathlib.Omega.{arith}
use lib.ListN.{length}
use borrow.Author.Tests.{eq-eqb, ne_eqb}
use Rattle.fitted.specs.Fill.{task_keys, tasks_fault}
use Rattle.fitted.proofs.first.tasks_fault.Goals as goal

pub returns-then-head-tasks : goal.returns-then-head-tasks
unfolding tasks_fault
returns-then-head-tasks c = simp (← c.wide-tasks.ensures.0, ne_eqb _ _ c.if-head-tasks.true)

pub returns : goal.returns
unfolding tasks_fault task_keys
returns c =
    let a = c.args in
    rw (eq-eqb (length a.head.now) (8 * (1 + a.board.tasks)) (omega (arith, c.wide-tasks.ensures.0))) c.read_tasks.ensures
