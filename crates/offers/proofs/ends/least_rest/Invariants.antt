-- `least_rest` asks the rests that start with ever more cores: of those asked none with fewer than `least` cores has a slack, and a rest that
-- starts with as many has no fewer.
use Prim.Native.Nat.{ℕ, ◌+◌, ◌-◌, ◌≤◌, ◌<◌}
use mathlib.Core.Path.{◌≡◌}
use mathlib.Core.List.{List}
use lib.ListN.{get_or}
use Rattle.sketch.specs.Slacks.{slack_at}
use Rattle.offers.proofs.ends.least_rest.Given as goal

-- no rest that starts with fewer than q cores has a slack with fewer than `least`
abbrev pub Asked : (w : List ℕ) (l least q : ℕ) → Type 0
Asked w l least q = (p b : ℕ) → 1 ≤ p → p < q → p ≤ b → b < least → get_or w (slack_at l p b) 0 ≡ 0

abbrev pub invariant-loop-q : goal.invariant-loop-q
invariant-loop-q l =
    (1 ≤ l.q) × (l.q ≤ l.least + 1) × (l.least ≤ l.initial.least) × Asked l.work l.l l.least l.q

abbrev pub decreases-loop-q : goal.decreases-loop-q
decreases-loop-q l = l.least + 1 - l.q
