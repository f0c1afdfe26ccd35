-- The fewest copies by one division: they are enough, and no fewer are. By cases on the load of one copy, with the law of a
-- division rounded up.
use Prim.Native.Nat.{ℕ, ◌*◌, ◌≤◌, ◌<◌}
use native.Mathlib.Omega.{arith}
use native.Mathlib.Nat.{mul-le-mul_right}
use mathlib.Core.Path.{◌≡◌, ap}
use mathlib.Core.Bool.{Bool, ◌&&◌, ◌||◌}
use mathlib.Core.Logic.{inl, inr}
use lib.Dec.{T, leb, leb→le, le→leb, T_not, not_T}
use lib.Arith.{lt→nleb}
use Rattle.rounding.specs.Rounding.{rounded_up}
use Rattle.rounding.proofs.Laws.{rounded_least, rounded_reaches}
use Rattle.records.proofs.Cases.{lt_or_le}
use Rattle.search.specs.Least.{pick}
use Rattle.search.specs.Copies.{load_of, enough, fewest}
use Rattle.search.proofs.Tests.{passed, failed, test, and_l, and_r, and_i, or_e, or_l, or_r}
use Rattle.search.proofs.Least.{pick_yes, pick_no}

-- ---- the fewest copies

module _ (rep : Bool) (a b n : ℕ) where
  -- the three cases: one copy is enough, more are tried, or none are enough
  pub fewest_one : a ≤ n → fewest rep a b n ≡ 1
  unfolding fewest
  fewest_one h = pick_yes (leb a n) 1 _ (le→leb a n h)

  pub fewest_more : n < a → T rep → 1 ≤ n → fewest rep a b n ≡ rounded_up b n
  unfolding fewest
  fewest_more h t g =
      rw (
        pick_no (leb a n) 1 (pick (rep && leb 1 n) (rounded_up b n) 0) (lt→nleb a n h),
        pick_yes (rep && leb 1 n) (rounded_up b n) 0 (and_i rep (leb 1 n) t (le→leb 1 n g)),
      )

  pub fewest_none : n < a → (T rep → 1 ≤ n → ⊥) → fewest rep a b n ≡ 0
  unfolding fewest
  fewest_none h g =
      let no_more = not_T (rep && leb 1 n) (λ t. g (and_l rep (leb 1 n) t) (leb→le 1 n (and_r rep (leb 1 n) t))) in
      rw (
        pick_no (leb a n) 1 (pick (rep && leb 1 n) (rounded_up b n) 0) (lt→nleb a n h),
        pick_no (rep && leb 1 n) (rounded_up b n) 0 no_more,
      )

  enough_i : (r : ℕ) → T (rep || leb r 1) → load_of a b r ≤ n * r → T (enough rep a b n r)
  enough_i r t h = and_i (rep || leb r 1) (leb (load_of a b r) (n * r)) t (le→leb _ _ h)

  -- where more copies are dearer than one
  module _ (rise : a ≤ b) where
    more_than_one : n < a → 1 ≤ n → (1 < rounded_up b n) × (b ≤ n * rounded_up b n)
    more_than_one h g =
        let e = rounded_reaches b n g in (
          elim (lt_or_le 1 (rounded_up b n)) [
            | inl u ↦ u
            | inr u ↦ absurd (omega (arith, mul-le-mul_right n u))
          ],
          omega arith,
        )

    -- they are enough
    pub fewest_enough : 1 ≤ fewest rep a b n → T (enough rep a b n (fewest rep a b n))
    fewest_enough h = elim (lt_or_le n a) [
      | inr g ↦ rw (fewest_one g) (enough_i 1 (or_r rep (leb 1 1) tt) (rw (pick_yes (leb 1 1) a b tt) (omega arith)))
      | inl g ↦ elim (test (rep && leb 1 n)) [
        | passed v ↦
            let y = and_l rep (leb 1 n) v in
            let z = leb→le 1 n (and_r rep (leb 1 n) v) in
            let m = more_than_one g z in
            let e = pick_no (leb (rounded_up b n) 1) a b (lt→nleb (rounded_up b n) 1 m.0) in
            rw (fewest_more g y z) (enough_i (rounded_up b n) (or_l rep (leb (rounded_up b n) 1) y) (rw e m.1))
        | failed v ↦ absurd (omega (arith, fewest_none g (λ t e. T_not (rep && leb 1 n) v (and_i rep (leb 1 n) t (le→leb 1 n e)))))
      ]
    ]

    -- and no fewer are
    pub fewest_least : (i : ℕ) → 1 ≤ i → T (enough rep a b n i) → (1 ≤ fewest rep a b n) × (fewest rep a b n ≤ i)
    fewest_least i h t = elim (lt_or_le n a) [
      | inr g ↦ rw (fewest_one g) (omega arith)
      | inl g ↦
          let d : load_of a b i ≤ n * i = leb→le _ _ (and_r (rep || leb i 1) (leb (load_of a b i) (n * i)) t) in
          elim (test (leb i 1)) [
            | passed v ↦
                let e : i ≡ 1 = omega (arith, leb→le i 1 v) in
                absurd (omega (arith, pick_yes (leb i 1) a b v, ap (λ x. n * x) e))
            | failed v ↦
                let c : b ≤ n * i = omega (arith, pick_no (leb i 1) a b v) in
                let z : 1 ≤ n = positive g c in
                let y : T rep = elim (or_e rep (leb i 1) (and_l (rep || leb i 1) (leb (load_of a b i) (n * i)) t)) [
                  | inl x ↦ x
                  | inr x ↦ absurd (T_not (leb i 1) v x)
                ] in
                let m = more_than_one g z in
                rw (fewest_more g y z) (omega arith, (rounded_least b n i z).1 (omega arith))
          ]
    ]
      where
        positive : n < a → b ≤ n * i → 1 ≤ n
        positive x y = elim (lt_or_le 0 n) [
          | inl w ↦ w
          | inr w ↦ let e : n ≡ 0 = omega arith in absurd (omega (arith, ap (λ z. z * i) e))
        ]
