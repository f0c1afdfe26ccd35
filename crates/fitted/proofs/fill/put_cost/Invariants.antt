-- `put_cost` writes the records of a cost. The loop's invariant: the records from j on, written behind those that are, make the
-- whole.
use mathlib.Core.Path.{◌≡◌}
use Prim.Native.Nat.{◌+◌, ◌*◌}
use lib.ListN.{length, drop}
use lib.Seq.{sets}
use Rattle.fitted.specs.Fill.{cost_keys, value_by, records_of, cost_records}
use Rattle.fitted.proofs.fill.put_cost.Given as goal

abbrev pub invariant-loop-j : goal.invariant-loop-j
invariant-loop-j l =
    (length l.out ≡ length l.initial.out)
    × (sets l.initial.out (8 * l.n) (cost_records l.cost l.p) ≡ sets l.out (8 * (l.n + l.j)) (records_of (value_by l.cost.law) (drop l.j (cost_keys l.cost.kind l.cost.task l.p))))
