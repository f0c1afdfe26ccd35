-- What holds of cost records (document 01, "Cost records", refusals 1 to 6): the laws that a reader looks for, and that the
-- layers above cite. The definitions are in specs/Costs and specs/Format. Assumes nothing.
use mathlib.Core.Path.{◌≡◌, refl}
use mathlib.Core.List.{List}
use mathlib.Core.Logic.{◌↔◌}
use Prim.Native.Nat.{ℕ, ◌≤◌, ◌<◌}
use lib.ListN.{length, get_or}
use Rattle.records.specs.declared.Board.{Board}
use Rattle.records.specs.declared.Key.{Key}
use Rattle.records.specs.declared.refusal.Fault.{Fault}
use Rattle.records.specs.declared.refusal.Refusal.{Refusal}
use Rattle.records.specs.Refusals.{number_in, place_in}
use Rattle.records.specs.Filled.{count_in, filled_of}
use Rattle.records.proofs.Refusing.{none_is_read}
use Rattle.std.specs.Prelude.{Result, Ok, Err}
use Rattle.records.specs.Costs.{key, due_keys, due_key, count_of, fault_at, board_in, read_board, read_costs}
use Rattle.records.specs.Format.{Deserves, Ranged, Long, IsCosts, Opens, Finds, Finds.costs}
use Rattle.records.proofs.Exact as exact
use Rattle.records.proofs.Listing as listing
use Rattle.records.proofs.Same as same

-- ---- the due keys, for every k and P: as many as stated, the first is the board's, and each later one is the computed one

module _ (k p : ℕ) (none : Key) where
  pub keys_count : length (due_keys k p) ≡ count_of k p
  keys_count = listing.keys_count k p

  pub key_first : get_or (due_keys k p) 0 none ≡ key 1 0 p k
  unfolding due_keys
  key_first = refl

  pub key_at : (n : ℕ) → 1 ≤ n → n < count_of k p → get_or (due_keys k p) n none ≡ due_key k p n
  key_at = listing.key_at k p none

-- ---- one record: each of refusals 5 and 6 is due exactly under its condition

pub fault_exactly : (s : List ℕ) (n : ℕ) (d : Key) (f : Result Unit Fault) → (fault_at s n d ≡ f) ↔ Deserves s n d f
fault_exactly s n d f = (λ e. rw e at (exact.deserved s n d), exact.deserved_only s n d f)

-- ---- the first record: each of refusals 1 to 3 is due exactly under its condition

pub board_exactly : (s : List ℕ) (r : Result Board Refusal) → (read_board s ≡ r) ↔ Opens s r
board_exactly s r = (λ e. rw e at (exact.opens s), exact.opens_only s r)

-- ---- reading: exactly what document 01 describes is accepted, and each refusal is due exactly under its condition

pub read_exactly : (s : List ℕ) (r : Result Board Refusal) → (read_costs s ≡ r) ↔ Finds s r
read_exactly s r = (λ e. rw e at (exact.reads s), exact.reads_only s r)

pub read_accepts : (s : List ℕ) (b : Board) → (read_costs s ≡ Ok b) ↔ IsCosts s b
read_accepts s b = (λ e. exact.finds_costs s (Ok b) ((read_exactly s (Ok b)).0 e) refl, λ c. exact.reads_only s (Ok b) (costs b c))

-- there is no other refusal than 1 to 6
pub refused_most : (s : List ℕ) → number_in (read_costs s) ≤ 6
refused_most s = exact.finds_most s (read_costs s) (exact.reads s)

-- number 0 means accepted: the board is in range, and the length is that of its count
pub accepted_read : (s : List ℕ) → number_in (read_costs s) ≡ 0 → read_costs s ≡ Ok (board_in (read_costs s))
accepted_read s e = none_is_read (read_costs s) e

pub accepted_costs : (s : List ℕ) → number_in (read_costs s) ≡ 0 → IsCosts s (board_in (read_costs s))
accepted_costs s e = exact.finds_costs s (read_costs s) (exact.reads s) (accepted_read s e)

pub accepted_ranges : (s : List ℕ) → number_in (read_costs s) ≡ 0 → Ranged (board_in (read_costs s)) × Long s (board_in (read_costs s))
accepted_ranges s e = let c = accepted_costs s e in (c.ranged, c.long)

-- and what the first record alone says is that board
pub accepted_board : (s : List ℕ) → number_in (read_costs s) ≡ 0 → read_board s ≡ Ok (board_in (read_costs s))
accepted_board s e = exact.costs_board s (board_in (read_costs s)) (accepted_costs s e)

-- ---- M-106: "refusal 2 tests the kind only, and 5 passes over that byte": of two files that differ in the first record's task byte alone the
-- same is read

pub read_same : (s s' : List ℕ) → length s ≡ length s' → ((i : ℕ) → (i ≡ 1 → ⊥) → get_or s i 0 ≡ get_or s' i 0) → read_costs s ≡ read_costs s'
read_same = same.read_same

-- ---- an answer in numbers, as callers outside get it: its refusal, place and count are what the laws above say of the answer itself, so that a
-- refusal counts 0 there

pub filled_says : (a : Result ℕ Refusal) → ((filled_of a).refusal ≡ number_in a) × ((filled_of a).place ≡ place_in a) × ((filled_of a).count ≡ count_in a)
filled_says (Ok n) = (refl, refl, refl)
filled_says (Err e) = (refl, refl, refl)
