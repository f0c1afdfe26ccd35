-- The tests of a lookup's numbers against the board, and what they say. Assumes nothing.
use mathlib.Core.Path.{◌≡◌}
use mathlib.Core.Bool.{true}
use Prim.Native.Nat.{ℕ, ◌≤◌, ◌<◌}
use borrow.Author.Tests.{le-leb, lt-ltb, leb-true, ltb-true}
use Rattle.records.proofs.Cases.{and-true}
use Rattle.lookups.specs.Lookups.{within, has_next}

pub within_true : (i top : ℕ) → 1 ≤ i → i ≤ top → within i top ≡ true
unfolding within
within_true i top l u = simp (le-leb 1 i l, le-leb i top u)

pub within_bounds : (i top : ℕ) → within i top ≡ true → (1 ≤ i) × (i ≤ top)
unfolding within
within_bounds i top e = let h = and-true _ _ e in (leb-true _ _ h.0, leb-true _ _ h.1)

pub has_next_true : (t k : ℕ) → 1 ≤ t → t < k → has_next t k ≡ true
unfolding has_next
has_next_true t k l u = simp (le-leb 1 t l, lt-ltb t k u)

pub has_next_bounds : (t k : ℕ) → has_next t k ≡ true → (1 ≤ t) × (t < k)
unfolding has_next
has_next_bounds t k e = let h = and-true _ _ e in (leb-true _ _ h.0, ltb-true _ _ h.1)
