-- `any_at` is what any copies leave: that of one, and the greatest so far over two copies and more, while they leave a rest that can be sent
-- to.
use Prim.Native.Nat.{◌+◌, ◌*◌, ◌-◌, ◌≤◌}
use mathlib.Core.Path.{◌≡◌}
use Rattle.slack.specs.Greatest.{larger, greatest}
use Rattle.slack.specs.Fill.{left_by, several}
use Rattle.offers.specs.Words.{time_at, row_of}
use Rattle.offers.proofs.ends.any_at.Given as goal

abbrev pub invariant-loop-used : goal.invariant-loop-used
invariant-loop-used l =
    (2 ≤ l.r) × (l.r ≤ l.b + 2) × (l.used ≡ l.r * l.q) × (l.used ≤ l.b + 32)
    × (l.m ≡ larger (left_by (time_at l.n) l.extra (row_of l.row) 0 l.q l.b 1) (greatest l.r (several (time_at l.n) l.extra (row_of l.row) 0 l.q l.b)))

abbrev pub decreases-loop-used : goal.decreases-loop-used
decreases-loop-used l = l.b + 64 - l.used
