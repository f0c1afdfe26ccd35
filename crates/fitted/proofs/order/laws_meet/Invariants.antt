-- `laws_meet` is the `laws_meet` of specs. The loop's invariant: the test of the records from n on is the test of all; the key by its place is the
-- list's.
use mathlib.Core.Path.{◌≡◌}
use lib.ListN.{drop}
use Rattle.fitted.specs.Fill.{law_keys, meet_from}
use Rattle.fitted.proofs.order.laws_meet.Given as goal

abbrev pub invariant-loop-n : goal.invariant-loop-n
invariant-loop-n l =
    meet_from l.laws 0 (law_keys l.k) ≡ meet_from l.laws l.n (drop l.n (law_keys l.k))
