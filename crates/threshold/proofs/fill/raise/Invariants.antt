-- `raise` raises the words that it passes and leaves all others; a body above every word counts as the greatest number of 32 bits, which
-- leaves nothing either.
use Prim.Native.Nat.{ℕ, ◌+◌, ◌-◌, ◌≤◌, ◌<◌}
use mathlib.Core.Path.{◌≡◌}
use mathlib.Core.Logic.{◌⊎◌}
use mathlib.Core.List.{List}
use lib.ListN.{get_or}
use Rattle.slack.specs.Greatest.{larger}
use Rattle.threshold.proofs.fill.raise.Given as goal

-- the words from at + low to at + b - 1 are raised, and none from at + b on, nor any but those from at + low to at + high
pub record Passed (w w' : List ℕ) (row : ℕ → ℕ) (at own low high b : ℕ) : Type 0 where
  pub made : (j : ℕ) → low ≤ j → j < b → get_or w' (at + j) 0 ≡ larger (get_or w (at + j) 0) (row j - own)
  pub later : (j : ℕ) → at + b ≤ j → get_or w' j 0 ≡ get_or w j 0
  pub kept : (j : ℕ) → (j < at + low) ⊎ (at + high < j) → get_or w' j 0 ≡ get_or w j 0

abbrev pub invariant-loop-b : goal.invariant-loop-b
invariant-loop-b l =
    Passed l.initial.work l.work (λ j. get_or l.left (l.from + j) 0) l.at l.own l.low l.high l.b
