-- `first_served` passes over the slacks that are at most e.
use Prim.Native.Nat.{ℕ, ◌+◌, ◌≤◌, ◌<◌}
use lib.ListN.{get_or}
use Rattle.offers.proofs.ends.first_served.Given as goal

abbrev pub invariant-loop-c : goal.invariant-loop-c
invariant-loop-c l = (j : ℕ) → l.from ≤ j → j < l.c → get_or l.work (l.at + j) 0 ≤ l.e
