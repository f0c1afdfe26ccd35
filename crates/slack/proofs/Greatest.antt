-- The greater of two, and the greatest over a range: what bounds it, where it is attained, and what a loop for it keeps. By
-- induction on the range.
use Prim.Native.Nat.{ℕ, zero, suc, ◌+◌, ◌≤◌, ◌<◌, max}
use native.Mathlib.Omega.{arith}
use native.Mathlib.Numerals.{add-one}
use native.Mathlib.Nat.{le_of_suc-le-suc, not-suc-le-zero, le_refl, le_trans, le_antisymm, eq-or-lt_of_le}
use mathlib.Core.Path.{◌≡◌, refl, ◌∙◌}
use mathlib.Core.Logic.{◌⊎◌, inl, inr}
use mathlib.Core.Bool.{Bool}
use lib.Dec.{T, leb, leb→le, le→leb, nleb→lt}
use lib.Arith.{lt→nleb}
use Rattle.records.proofs.Cases.{lt_or_le}
use Rattle.search.specs.Least.{pick}
use Rattle.search.proofs.Tests.{passed, failed, test}
use Rattle.search.proofs.Least.{pick_yes, pick_no}
use Rattle.slack.specs.Greatest.{larger, greatest}

-- ---- numbers by what is below them

-- a number is at most another if what is below it is below the other
pub below_le : (a b : ℕ) → ((x : ℕ) → x < a → x < b) → a ≤ b
below_le zero b h = omega arith
below_le (suc a) b h = h a (le_refl (suc a))

-- numbers with the same below them are equal
pub below_eq : (a b : ℕ) → ((x : ℕ) → x < a → x < b) → ((x : ℕ) → x < b → x < a) → a ≡ b
below_eq a b f g = le_antisymm (below_le a b f) (below_le b a g)

-- what is below a choice that is 0 where its test fails
pub below_pick : (b : Bool) (x y : ℕ) → x < pick b y 0 → T b × (x < y)
below_pick b x y h = elim (test b) [
  | passed t ↦ (t, omega (arith, pick_yes b y 0 t))
  | failed t ↦ absurd (omega (arith, pick_no b y 0 t))
]

pub pick_below : (b : Bool) (x y : ℕ) → T b → x < y → x < pick b y 0
pick_below b x y t h = omega (arith, pick_yes b y 0 t)

-- ---- the greater of two

-- both are at most it, and it is one of the two
pub larger_ge : (a b : ℕ) → (a ≤ larger a b) × (b ≤ larger a b)
unfolding larger
larger_ge a b = elim (test (leb a b)) [
  | passed t ↦ rw (pick_yes (leb a b) b a t) (omega (arith, leb→le a b t))
  | failed t ↦ rw (pick_no (leb a b) b a t) (omega (arith, nleb→lt a b t))
]

pub larger_is : (a b : ℕ) → (larger a b ≡ a) ⊎ (larger a b ≡ b)
unfolding larger
larger_is a b = elim (test (leb a b)) [ passed t ↦ inr (pick_yes (leb a b) b a t) | failed t ↦ inl (pick_no (leb a b) b a t) ]

pub larger_high : (a b : ℕ) → a ≤ b → larger a b ≡ b
unfolding larger
larger_high a b h = pick_yes (leb a b) b a (le→leb a b h)

pub larger_low : (a b : ℕ) → b < a → larger a b ≡ a
unfolding larger
larger_low a b h = pick_no (leb a b) b a (lt→nleb a b h)

-- it is what std calls `max`
pub larger_max : (a b : ℕ) → max a b ≡ larger a b
larger_max a b = elim (larger_is a b) [ inl e ↦ omega (arith, e, (larger_ge a b).1) | inr e ↦ omega (arith, e, (larger_ge a b).0) ]

pub larger_zero : (a : ℕ) → larger a 0 ≡ a
larger_zero a = let u = larger_ge a 0 in elim (larger_is a 0) [ inl e ↦ e | inr e ↦ omega arith ]

-- what is below it is below one of the two
pub larger_below : (a b x : ℕ) → x < larger a b → (x < a) ⊎ (x < b)
larger_below a b x h = elim (larger_is a b) [ inl e ↦ inl (omega arith) | inr e ↦ inr (omega arith) ]

pub larger_assoc : (a b c : ℕ) → larger (larger a b) c ≡ larger a (larger b c)
larger_assoc a b c =
    let u = larger_ge a b in
    let v = larger_ge (larger a b) c in
    let w = larger_ge b c in
    let z = larger_ge a (larger b c) in
    below_eq (larger (larger a b) c) (larger a (larger b c))
    (λ x h. elim (larger_below (larger a b) c x h) [
      | inl g ↦ elim (larger_below a b x g) [ inl d ↦ omega arith | inr d ↦ omega arith ]
      | inr g ↦ omega arith
    ])
    (λ x h. elim (larger_below a (larger b c) x h) [
      | inl g ↦ omega arith
      | inr g ↦ elim (larger_below b c x g) [ inl d ↦ omega arith | inr d ↦ omega arith ]
    ])

-- ---- the greatest over a range

-- each value is at most it
pub greatest_ge : (n : ℕ) (f : ℕ → ℕ) (i : ℕ) → i < n → f i ≤ greatest n f
unfolding greatest
greatest_ge zero f i h = absurd (not-suc-le-zero h)
greatest_ge (suc n) f i h = elim (eq-or-lt_of_le (le_of_suc-le-suc h)) [
  | inl e ↦ rw e (larger_ge (greatest n f) (f n)).1
  | inr l ↦ omega (arith, greatest_ge n f i l, (larger_ge (greatest n f) (f n)).0)
]

-- what is below it is below a value
pub greatest_at : (n : ℕ) (f : ℕ → ℕ) (x : ℕ) → x < greatest n f → (i : ℕ) × (i < n) × (x < f i)
unfolding greatest
greatest_at zero f x h = absurd (not-suc-le-zero h)
greatest_at (suc n) f x h = elim (larger_is (greatest n f) (f n)) [
  | inr e ↦ (n, le_refl (suc n), omega arith)
  | inl e ↦ let (i, l, q) = greatest_at n f x (omega arith) in (i, omega arith, q)
]

-- one more value, as a loop takes it in
pub greatest_more : (i : ℕ) (f : ℕ → ℕ) (m r : ℕ) → m ≡ greatest i f → r ≡ larger m (f i) → r ≡ greatest (i + 1) f
unfolding greatest
greatest_more i f m r e d = rw add-one (d ∙ rw e)

-- it depends only on the values in the range
pub greatest_ext : (n : ℕ) (f g : ℕ → ℕ) → ((i : ℕ) → i < n → f i ≡ g i) → greatest n f ≡ greatest n g
unfolding greatest
greatest_ext zero f g h = refl
greatest_ext (suc n) f g h = rw (greatest_ext n f g (λ i l. h i (omega arith)), h n (le_refl (suc n)))

-- a bound of each value bounds it
pub greatest_le : (n : ℕ) (f : ℕ → ℕ) (v : ℕ) → ((i : ℕ) → i < n → f i ≤ v) → greatest n f ≤ v
greatest_le n f v h = below_le (greatest n f) v (λ x l. let (i, u, w) = greatest_at n f x l in omega (arith, h i u))

-- a loop may start where nothing before it counts
pub greatest_none : (n : ℕ) (f : ℕ → ℕ) → ((i : ℕ) → i < n → f i ≡ 0) → greatest n f ≡ 0
greatest_none n f h = let d = greatest_le n f 0 (λ i l. omega (arith, h i l)) in omega arith

-- and may stop where nothing after it counts
pub greatest_trim : (n m : ℕ) (f : ℕ → ℕ) → ((i : ℕ) → n ≤ i → f i ≡ 0) → ((i : ℕ) → m ≤ i → f i ≡ 0) → greatest n f ≡ greatest m f
greatest_trim n m f g h = below_eq (greatest n f) (greatest m f)
    (λ x u. let (i, l, v) = greatest_at n f x u in elim (lt_or_le i m) [
      | inl d ↦ le_trans v (greatest_ge m f i d)
      | inr d ↦ absurd (omega (arith, h i d))
    ])
    (λ x u. let (i, l, v) = greatest_at m f x u in elim (lt_or_le i n) [
      | inl d ↦ le_trans v (greatest_ge n f i d)
      | inr d ↦ absurd (omega (arith, g i d))
    ])
