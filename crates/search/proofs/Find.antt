-- The first number of a range that passes a test: what it finds passes, nothing before it does, and what a loop that looks for it
-- keeps. By induction on the range.
use Prim.Native.Nat.{ℕ, zero, suc, ◌+◌, ◌≤◌, ◌<◌}
use native.Mathlib.Omega.{arith}
use native.Mathlib.Nat.{le_refl, eq-or-lt_of_le}
use mathlib.Core.Path.{◌≡◌}
use mathlib.Core.Bool.{Bool, not}
use mathlib.Core.Logic.{inl, inr}
use lib.Dec.{T, ltb→lt, lt→ltb, T_not}
use Rattle.search.specs.Find.{find, some}
use Rattle.search.proofs.Tests.{passed, failed, test}
use Rattle.search.proofs.Least.{pick_yes, pick_no}

-- ---- the first that passes

-- one step: the first number passes, or the rest is searched
find_hit : (n a : ℕ) (f : ℕ → Bool) → T (f a) → find (suc n) a f ≡ a
unfolding find
find_hit n a f t = pick_yes (f a) a (find n (a + 1) f) t

find_miss : (n a : ℕ) (f : ℕ → Bool) → T (not (f a)) → find (suc n) a f ≡ find n (a + 1) f
unfolding find
find_miss n a f t = pick_no (f a) a (find n (a + 1) f) t

-- what it finds passes
pub find_yes : (n a : ℕ) (f : ℕ → Bool) → find n a f < a + n → T (f (find n a f))
unfolding find
find_yes zero a f h = absurd (omega arith)
find_yes (suc n) a f h = elim (test (f a)) [
  | passed t ↦ rw (find_hit n a f t) t
  | failed t ↦ rw (find_miss n a f t) (find_yes n (a + 1) f (omega (arith, find_miss n a f t)))
]

-- it is not past anything that passes
pub find_le : (n a : ℕ) (f : ℕ → Bool) (i : ℕ) → a ≤ i → i < a + n → T (f i) → find n a f ≤ i
unfolding find
find_le zero a f i g h t = absurd (omega arith)
find_le (suc n) a f i g h t = elim (test (f a)) [
  | passed u ↦ rw (find_hit n a f u) g
  | failed u ↦ rw (find_miss n a f u) (elim (eq-or-lt_of_le g) [
    | inl e ↦ absurd (T_not (f a) u (rw e t))
    | inr l ↦ find_le n (a + 1) f i (omega arith) (omega arith) t
  ])
]

-- it is in the range
pub find_ge : (n a : ℕ) (f : ℕ → Bool) → a ≤ find n a f
unfolding find
find_ge zero a f = le_refl a
find_ge (suc n) a f = elim (test (f a)) [
  | passed t ↦ rw (find_hit n a f t) (le_refl a)
  | failed t ↦ rw (find_miss n a f t) (omega (arith, find_ge n (a + 1) f))
]

-- a loop that stops at the first that passes has found it, wherever its range would have ended
pub find_is : (n : ℕ) (f : ℕ → Bool) (i : ℕ) → i < n → T (f i) → ((j : ℕ) → j < i → T (not (f j))) → find n 0 f ≡ i
find_is n f i h t g =
    let d = find_le n 0 f i (omega arith) (omega arith) t in
    elim (eq-or-lt_of_le d) [
      | inl e ↦ e
      | inr l ↦ absurd (T_not (f (find n 0 f)) (g (find n 0 f) l) (find_yes n 0 f (omega arith)))
    ]

-- ---- some number below n passes

pub some_i : (n : ℕ) (f : ℕ → Bool) (i : ℕ) → i < n → T (f i) → T (some n f)
some_i n f i h t = lt→ltb (find n 0 f) n (omega (arith, find_le n 0 f i (omega arith) (omega arith) t))

pub some_e : (n : ℕ) (f : ℕ → Bool) → T (some n f) → T (f (find n 0 f))
some_e n f t = find_yes n 0 f (omega (arith, ltb→lt (find n 0 f) n t))

pub some_lt : (n : ℕ) (f : ℕ → Bool) → T (some n f) → find n 0 f < n
some_lt n f t = ltb→lt (find n 0 f) n t
