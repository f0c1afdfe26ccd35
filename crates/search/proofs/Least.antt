-- The choice, the smaller of two, and the least over a range: what bounds it, where it is attained, and where a loop for it may
-- start and stop. By induction on the range.
use Prim.Native.Nat.{ℕ, zero, suc, ◌+◌, ◌≤◌, ◌<◌, min}
use native.Mathlib.Omega.{arith}
use native.Mathlib.Numerals.{add-one}
use native.Mathlib.Nat.{le_of_suc-le-suc, not-suc-le-zero, le_refl, le_antisymm, eq-or-lt_of_le}
use mathlib.Core.Path.{◌≡◌, refl, sym, ◌∙◌}
use mathlib.Core.Bool.{Bool, true, false, not}
use mathlib.Core.Logic.{◌⊎◌, inl, inr}
use lib.Dec.{T, leb, leb→le, le→leb, nleb→lt}
use lib.Arith.{lt→nleb}
use Rattle.records.proofs.Cases.{lt_or_le}
use Rattle.search.specs.Least.{pick, lesser, least}
use Rattle.search.proofs.Tests.{passed, failed, test}

-- ---- the choice

pub pick_yes : (b : Bool) (x y : ℕ) → T b → pick b x y ≡ x
unfolding pick
pick_yes true x y t = refl
pick_yes false x y t = absurd t

pub pick_no : (b : Bool) (x y : ℕ) → T (not b) → pick b x y ≡ y
unfolding pick
pick_no true x y t = absurd t
pick_no false x y t = refl

-- a choice below its second value took the first; a bound of both values bounds the choice; equal first values give equal choices
pub pick_low : (b : Bool) (x y : ℕ) → pick b x y < y → T b
unfolding pick
pick_low true x y h = tt
pick_low false x y h = absurd (omega arith)

pub pick_ge : (b : Bool) (x z v : ℕ) → (T b → v ≤ x) → v ≤ z → v ≤ pick b x z
unfolding pick
pick_ge true x z v h g = h tt
pick_ge false x z v h g = g

pub pick_le : (b : Bool) (x z v : ℕ) → x ≤ v → z ≤ v → pick b x z ≤ v
unfolding pick
pick_le true x z v h g = h
pick_le false x z v h g = g

pub pick_ext : (b : Bool) (x y z : ℕ) → (T b → x ≡ y) → pick b x z ≡ pick b y z
unfolding pick
pick_ext true x y z h = h tt
pick_ext false x y z h = refl

-- ---- the smaller of two

-- it is at most both, and one of the two
pub lesser_le : (a b : ℕ) → (lesser a b ≤ a) × (lesser a b ≤ b)
unfolding lesser
lesser_le a b = elim (test (leb a b)) [
  | passed t ↦ rw (pick_yes (leb a b) a b t) (omega (arith, leb→le a b t))
  | failed t ↦ rw (pick_no (leb a b) a b t) (omega (arith, nleb→lt a b t))
]

pub lesser_is : (a b : ℕ) → (lesser a b ≡ a) ⊎ (lesser a b ≡ b)
unfolding lesser
lesser_is a b = elim (test (leb a b)) [ passed t ↦ inl (pick_yes (leb a b) a b t) | failed t ↦ inr (pick_no (leb a b) a b t) ]

pub lesser_low : (a b : ℕ) → a ≤ b → lesser a b ≡ a
unfolding lesser
lesser_low a b h = pick_yes (leb a b) a b (le→leb a b h)

pub lesser_high : (a b : ℕ) → b < a → lesser a b ≡ b
unfolding lesser
lesser_high a b h = pick_no (leb a b) a b (lt→nleb a b h)

-- it is what std calls `min`
pub lesser_min : (a b : ℕ) → min a b ≡ lesser a b
lesser_min a b = elim (lesser_is a b) [ inl e ↦ omega (arith, e, (lesser_le a b).1) | inr e ↦ omega (arith, e, (lesser_le a b).0) ]

pub lesser_no_more : (a b : ℕ) → b ≤ a → lesser a b ≡ b
lesser_no_more a b h = elim (eq-or-lt_of_le h) [ inl e ↦ lesser_low a b (omega arith) ∙ sym e | inr l ↦ lesser_high a b l ]

-- ---- the least over a range

-- it is at most the cap, and at most each value
pub least_cap : (cap n : ℕ) (f : ℕ → ℕ) → least cap n f ≤ cap
unfolding least
least_cap cap zero f = le_refl cap
least_cap cap (suc n) f = omega (arith, least_cap cap n f, lesser_le (least cap n f) (f n))

pub least_le : (cap n : ℕ) (f : ℕ → ℕ) (i : ℕ) → i < n → least cap n f ≤ f i
unfolding least
least_le cap zero f i h = absurd (not-suc-le-zero h)
least_le cap (suc n) f i h = elim (eq-or-lt_of_le (le_of_suc-le-suc h)) [
  | inl e ↦ rw e (lesser_le (least cap n f) (f n)).1
  | inr l ↦ omega (arith, least_le cap n f i l, (lesser_le (least cap n f) (f n)).0)
]

pub least_more : (cap i : ℕ) (f : ℕ → ℕ) (m r : ℕ) → m ≡ least cap i f → r ≡ lesser m (f i) → r ≡ least cap (i + 1) f
unfolding least
least_more cap i f m r e d = rw add-one (d ∙ rw e)

-- where the least is below the cap, it is attained
pub least_at : (cap n : ℕ) (f : ℕ → ℕ) → least cap n f < cap → (i : ℕ) × (i < n) × (f i ≡ least cap n f)
unfolding least
least_at cap zero f h = absurd (omega arith)
least_at cap (suc n) f h = elim (lesser_is (least cap n f) (f n)) [
  | inr e ↦ (n, le_refl (suc n), sym e)
  | inl e ↦ let (i, l, q) = least_at cap n f (omega arith) in (i, omega arith, q ∙ sym e)
]

-- a bound from below of the cap and of each value is one of the least
pub least_ge : (cap n : ℕ) (f : ℕ → ℕ) (v : ℕ) → v ≤ cap → ((i : ℕ) → i < n → v ≤ f i) → v ≤ least cap n f
unfolding least
least_ge cap zero f v h g = h
least_ge cap (suc n) f v h g = elim (lesser_is (least cap n f) (f n)) [
  | inl e ↦ rw e (least_ge cap n f v h (λ i l. g i (omega arith)))
  | inr e ↦ rw e (g n (le_refl (suc n)))
]

-- it depends only on the values in the range
pub least_ext : (cap n : ℕ) (f g : ℕ → ℕ) → ((i : ℕ) → i < n → f i ≡ g i) → least cap n f ≡ least cap n g
unfolding least
least_ext cap zero f g h = refl
least_ext cap (suc n) f g h = rw (least_ext cap n f g (λ i l. h i (omega arith)), h n (le_refl (suc n)))

-- a loop may start where nothing before it is below the cap
pub least_none : (cap n : ℕ) (f : ℕ → ℕ) → ((i : ℕ) → i < n → cap ≤ f i) → least cap n f ≡ cap
least_none cap n f h = le_antisymm (least_cap cap n f) (least_ge cap n f cap (le_refl cap) h)

-- and may stop where nothing after it is below what it has
pub least_stop : (cap n m : ℕ) (f : ℕ → ℕ) → n ≤ m → ((i : ℕ) → n ≤ i → i < m → least cap n f ≤ f i) → least cap m f ≡ least cap n f
least_stop cap n m f h g =
    le_antisymm (least_ge cap n f (least cap m f) (least_cap cap m f) (λ i l. least_le cap m f i (omega arith)))
    (least_ge cap m f (least cap n f) (least_cap cap n f) (λ i l. elim (lt_or_le i n) [
      | inl u ↦ least_le cap n f i u
      | inr u ↦ g i u l
    ]))
