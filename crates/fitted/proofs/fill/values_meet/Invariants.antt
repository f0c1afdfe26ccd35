-- `values_meet` is the `values_meet` of specs. The loop's invariant: the test of the laws from record i on is the test of all.
use mathlib.Core.Path.{◌≡◌}
use Prim.Native.Nat.{◌-◌}
use Rattle.fitted.specs.Fill.{law_count, values_meet}
use Rattle.fitted.proofs.fill.values_meet.Given as goal

abbrev pub invariant-loop-i : goal.invariant-loop-i
invariant-loop-i l =
    values_meet l.laws l.p 0 (law_count l.k) ≡ values_meet l.laws l.p l.i (law_count l.k - l.i)
