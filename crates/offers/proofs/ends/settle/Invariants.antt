-- `settle` keeps the least of the entries that it has passed, and writes it over each of them.
use Prim.Native.Nat.{ℕ, ◌≤◌, ◌<◌}
use mathlib.Core.Path.{◌≡◌}
use mathlib.Core.List.{List}
use lib.ListN.{get_or}
use Rattle.search.specs.Least.{least}
use Rattle.slack.specs.Fill.{lowest}
use Rattle.slack.specs.Problem.{none}
use Rattle.offers.specs.Words.{NoneBelow}
use Rattle.offers.proofs.ends.settle.Given as goal

-- of a row none of which is a transfer before `from` the entries before c are settled, and m is the least of them
pub record SettledBefore (row row' : List ℕ) (from c m : ℕ) : Type 0 where
  pub least_so_far : NoneBelow row from → m ≡ least none c (λ j. get_or row j 0)
  pub settled : NoneBelow row from → (j : ℕ) → j < c → get_or row' j 0 ≡ lowest none (λ i. get_or row i 0) j
  pub as_it_was : (j : ℕ) → c ≤ j → get_or row' j 0 ≡ get_or row j 0

abbrev pub invariant-loop-c : goal.invariant-loop-c
invariant-loop-c l = SettledBefore l.initial.row l.row l.from l.c l.m
