-- `offer` writes what one copy and what any copies leave for each number of cores that it passes; the two rows stand apart. With fewer cores
-- both leave nothing.
use Prim.Native.Nat.{ℕ, ◌+◌, ◌≤◌, ◌<◌}
use mathlib.Core.Path.{◌≡◌}
use mathlib.Core.List.{List}
use lib.ListN.{get_or, replicate}
use Rattle.slack.specs.Fill.{left_by, best_by}
use Rattle.offers.specs.Words.{time_at, row_of, NoneBelow}
use Rattle.offers.proofs.ends.offer.Given as goal

-- from q to b - 1 the list has one f from the start, and one g from 33 on
pub record Both (w : List ℕ) (q b : ℕ) (f g : ℕ → ℕ) : Type 0 where
  pub one : (j : ℕ) → q ≤ j → j < b → get_or w j 0 ≡ f j
  pub any : (j : ℕ) → q ≤ j → j < b → get_or w (33 + j) 0 ≡ g j

abbrev pub invariant-loop-b : goal.invariant-loop-b
invariant-loop-b l =
    NoneBelow l.row l.low → l.initial.left ≡ replicate 66 0
    → Both l.left l.q l.b (λ j. left_by (time_at l.n) l.extra (row_of l.row) 0 l.q j 1) (best_by (time_at l.n) l.extra (row_of l.row) 0 l.q)
