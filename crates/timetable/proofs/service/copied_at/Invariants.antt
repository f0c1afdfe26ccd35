-- `copied_at` is `first_failing` of `single_test`: what is found from the i-th module on is what is found from the first one on.
use mathlib.Core.Path.{◌≡◌}
use Prim.Native.Nat.{◌+◌, ◌-◌}
use Rattle.layout.specs.Layout.{modules_from}
use Rattle.judge.specs.Judge.{first_failing}
use Rattle.timetable.specs.Timetable.{single_test}
use Rattle.timetable.proofs.service.copied_at.Given as goal

abbrev pub invariant-loop-i : goal.invariant-loop-i
invariant-loop-i l =
    first_failing single_test 1 (modules_from l.plan 0 l.count) ≡ first_failing single_test (l.i + 1) (modules_from l.plan l.i (l.count - l.i))
