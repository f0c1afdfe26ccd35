-- The walk over the records against a list of keys: a turn leaves the rest as the whole, a fault decides, and the end is
-- clean; so the walk finds the first fault, and that only. Assumes nothing.
use mathlib.Core.Path.{◌≡◌, ◌∙◌}
use mathlib.Core.List.{List}
use mathlib.Core.Logic.{⊎_elim}
use Prim.Native.Nat.{ℕ, zero, suc, ◌+◌, ◌-◌, ◌≤◌, ◌<◌}
use native.Mathlib.Nat.{eq-or-lt_of_le}
use native.Mathlib.Numerals.{add-one}
use native.Mathlib.Omega.{arith}
use lib.ListN.{length, get_or, drop, drop_of_length-le}
use lib.Seq.{drop-cons}
use Rattle.std.specs.Prelude.{Result, Ok, Err}
use Rattle.records.specs.declared.refusal.Fault.{Fault}
use Rattle.records.specs.declared.refusal.Refusal.{Refusal}
use Rattle.records.specs.declared.refusal.Refusal.TheVariants.{Faulty}
use Rattle.records.specs.declared.Key.{Key}
use Rattle.records.specs.Costs.{key, fault_at, first_fault}
use Rattle.records.proofs.Cases.{fine_or_not}

abbrev none : Key
none = key 0 0 0 0

-- the fault of record i, whose key is the list's
abbrev pub fault_of : List ℕ → List Key → ℕ → Result Unit Fault
fault_of s keys i = fault_at s i (get_or keys i none)

-- the first fault from record n on
pub data Scanned (s : List ℕ) (keys : List Key) (n : ℕ) : Result Unit Refusal → Type 0 where
  clean : ((i : ℕ) → n ≤ i → i < length keys → fault_of s keys i ≡ Ok tt) → Scanned s keys n (Ok tt)
  found : (i : ℕ) → n ≤ i → i < length keys → ((j : ℕ) → n ≤ j → j < i → fault_of s keys j ≡ Ok tt) → (f : Fault) → fault_of s keys i ≡ Err f
      → Scanned s keys n (Err (Faulty f (i + 1)))

module _ (s : List ℕ) (keys : List Key) where
  pub walk_next : (n : ℕ) → n < length keys → fault_of s keys n ≡ Ok tt → first_fault s n (drop n keys) ≡ first_fault s (n + 1) (drop (n + 1) keys)
  unfolding first_fault
  walk_next n h e = rw (drop-cons keys n none h, add-one n) (simp e)

  pub walk_found : (n : ℕ) → n < length keys → (f : Fault) → fault_of s keys n ≡ Err f → first_fault s n (drop n keys) ≡ Err (Faulty f (n + 1))
  unfolding first_fault
  walk_found n h f e = rw (drop-cons keys n none h) (simp e)

  pub walk_end : (n : ℕ) → length keys ≤ n → first_fault s n (drop n keys) ≡ Ok tt
  unfolding first_fault
  walk_end n h = rw (drop_of_length-le keys h)

  walk_past : (n count : ℕ) → n + count ≤ length keys → ((j : ℕ) → n ≤ j → j < n + count → fault_of s keys j ≡ Ok tt)
      → first_fault s n (drop n keys) ≡ first_fault s (n + count) (drop (n + count) keys)
  walk_past n zero l h = let e : n + zero ≡ n = omega arith in rw e
  walk_past n (suc count) l h =
      let e : n + suc count ≡ n + 1 + count = omega arith in
      walk_next n (omega arith) (h n (omega arith) (omega arith))
      ∙ walk_past (n + 1) count (omega arith) (λ j p q. h j (omega arith) (omega arith))
      ∙ rw e

  longer : (n : ℕ) (f : Result Unit Refusal) → fault_of s keys n ≡ Ok tt → Scanned s keys (n + 1) f → Scanned s keys n f
  longer n f e (clean h) = clean (λ i l u. ⊎_elim (λ q. rw (← q) e) (λ q. h i (omega arith) u) (eq-or-lt_of_le l))
  longer n f e (found i l u h x b) = found i (omega arith) u (λ j p q. ⊎_elim (λ z. rw (← z) e) (λ z. h j (omega arith) q) (eq-or-lt_of_le p)) x b

  scanned_from : (left n : ℕ) → n + left ≡ length keys → Scanned s keys n (first_fault s n (drop n keys))
  scanned_from zero n e = rw (walk_end n (omega arith)) (clean (λ i l u. absurd (omega arith)))
  scanned_from (suc left) n e = ⊎_elim
      (λ (z : fault_of s keys n ≡ Ok tt).
      rw (walk_next n (omega arith) z) (longer n (first_fault s (n + 1) (drop (n + 1) keys)) z (scanned_from left (n + 1) (omega arith))))
      (λ (z : (f : Fault) × (fault_of s keys n ≡ Err f)).
      rw (walk_found n (omega arith) z.0 z.1) (found n (omega arith) (omega arith) (λ j p q. absurd (omega arith)) z.0 z.1))
      (fine_or_not (fault_of s keys n))

  pub scanned : (n : ℕ) → n ≤ length keys → Scanned s keys n (first_fault s n (drop n keys))
  scanned n h = scanned_from (length keys - n) n (omega arith)

  pub scanned_only : (n : ℕ) (f : Result Unit Refusal) → n ≤ length keys → Scanned s keys n f → first_fault s n (drop n keys) ≡ f
  scanned_only n f b (clean h) =
      walk_past n (length keys - n) (omega arith) (λ j p q. h j p (omega arith)) ∙ walk_end (n + (length keys - n)) (omega arith)
  scanned_only n f b (found i l u h x z) =
      let e : n + (i - n) ≡ i = omega arith in
      walk_past n (i - n) (omega arith) (λ j p q. h j p (omega arith)) ∙ rw e (walk_found i u x z)
