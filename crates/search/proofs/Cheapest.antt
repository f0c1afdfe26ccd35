-- The fewest copies of a module by one division instead of a loop: where some copies fit at a threshold, the fewest that are enough fit too, and
-- they are no more.
use Prim.Native.Nat.{ℕ, ◌+◌, ◌*◌, ◌≤◌, ◌<◌}
use native.Mathlib.Omega.{arith}
use native.Mathlib.Nat.{mul-le-mul_right}
use mathlib.Core.Path.{◌≡◌}
use mathlib.Core.Bool.{Bool, ◌&&◌, ◌||◌}
use lib.Dec.{T, lt→ltb, leb, leb→le, le→leb}
use Rattle.search.specs.Copies.{load_of, enough, fewest}
use Rattle.search.specs.Plan.{Problem}
use Rattle.search.specs.Bottleneck.{rules, within}
use Rattle.search.specs.Best.{fits_at}
use Rattle.search.proofs.Tests.{and_l, and_r, and_i}
use Rattle.search.proofs.Copies.{fewest_enough, fewest_least}
use Rattle.search.proofs.Plan.{tight_fits, tight_room, tight_i}

-- For a problem whose rule on copies is a flag, and whose load is a for one copy and b for more.
module _ (X : Problem) (n s t q l q' : ℕ) (c rep : Bool) (a b : ℕ)
    (allows : (i : ℕ) → X.allowed s t l i q q' ≡ (c && (rep || leb i 1)))
    (loads : (i : ℕ) → X.response s t l i q q' * X.grain ≡ load_of a b i)
    (later : t < l) (inside : l ≤ X.tasks) (pos : 1 ≤ q) where
  at_split : (i : ℕ) → T (fits_at X n s t l i q q') → (1 ≤ i) × T c × T (enough rep a b n i) × (s + i * q + q' ≤ X.board)
  at_split i u =
      let load = leb (X.response s t l i q q' * X.grain) (n * i) in
      let v : T (within X n s t l i q q') = tight_fits X.board (within X n) s t l i q q' u in
      let y : T (rules X s t l i q q') = and_l (rules X s t l i q q') load v in
      let z : T (leb (load_of a b i) (n * i)) = rw (loads i) at (and_r (rules X s t l i q q') load v) in
      let d : T (X.allowed s t l i q q') = search (and_l, and_r) in
      let e : T (c && (rep || leb i 1)) = rw (allows i) at d in (
        leb→le 1 i (search (and_l, and_r)),
        and_l c (rep || leb i 1) e,
        and_i (rep || leb i 1) (leb (load_of a b i) (n * i)) (and_r c (rep || leb i 1) e) z,
        tight_room X.board (within X n) s t l i q q' u,
      )

  pub at_join : (i : ℕ) → 1 ≤ i → T c → T (enough rep a b n i) → s + i * q + q' ≤ X.board → T (fits_at X n s t l i q q')
  at_join i h u v g =
      let load = leb (X.response s t l i q q' * X.grain) (n * i) in
      let y : T (rep || leb i 1) = and_l (rep || leb i 1) (leb (load_of a b i) (n * i)) v in
      let e : T (X.allowed s t l i q q') = rw (allows i) (and_i c (rep || leb i 1) u y) in
      let z : T load = rw (loads i) (and_r (rep || leb i 1) (leb (load_of a b i) (n * i)) v) in
      let d : T (rules X s t l i q q') = search (and_i, e, lt→ltb t l later, le→leb l X.tasks inside, le→leb 1 i h, le→leb 1 q pos) in
      tight_i X.board (within X n) s t l i q q' (and_i (rules X s t l i q q') load d z) g

  -- where i copies fit at the threshold n the fewest that are enough fit too, and they are no more
  pub fewest_fit : a ≤ b → (i : ℕ) → T (fits_at X n s t l i q q') → T (fits_at X n s t l (fewest rep a b n) q q') × (fewest rep a b n ≤ i)
  fewest_fit rise i u =
      let w = at_split i u in
      let e = fewest_least rep a b n rise i w.0 w.2 in
      (at_join (fewest rep a b n) e.0 w.1 (fewest_enough rep a b n rise e.0) (omega (arith, w.3, mul-le-mul_right q e.1)), e.1)
