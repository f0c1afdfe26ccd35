-- `put_costs` writes the records of all laws. The loop's invariant: those of the laws from i on, written behind those that are, make
-- the whole, and there is room for them.
use mathlib.Core.Path.{◌≡◌}
use mathlib.Core.Bool.{true}
use Prim.Native.Nat.{◌+◌, ◌-◌, ◌*◌, ◌≤◌}
use lib.ListN.{length}
use lib.Seq.{sets}
use Rattle.fitted.specs.Fill.{law_count, values_meet, records_from}
use Rattle.fitted.proofs.fill.put_costs.Given as goal

abbrev pub invariant-loop-i : goal.invariant-loop-i
invariant-loop-i l =
    (l.n ≤ 13 + 65535 * l.i) × (length l.out ≡ length l.initial.out) × (8 * l.n + length (records_from l.laws l.p l.i (law_count l.k - l.i)) ≤ length l.initial.out)
    × (values_meet l.laws l.p l.i (law_count l.k - l.i) ≡ true)
    × (sets l.initial.out (8 * (1 + l.k)) (records_from l.laws l.p 0 (law_count l.k)) ≡ sets l.out (8 * l.n) (records_from l.laws l.p l.i (law_count l.k - l.i)))
