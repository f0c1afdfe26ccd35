-- The search for the fewest cores: found in this turn, or what is left gives the same as the whole; and by induction on what is left,
-- it finds the least number that the module's memory allows. Assumes nothing.
use mathlib.Core.Path.{◌≡◌}
use mathlib.Core.Bool.{Bool, true, false}
use mathlib.Core.Logic.{◌↔◌, ⊎_elim}
use Prim.Native.Nat.{ℕ, zero, suc, ◌+◌, ◌-◌, ◌≤◌, ◌<◌}
use native.Mathlib.Omega.{arith}
use Rattle.records.proofs.Cases.{lt_or_le, true_or_false, true_not_false}
use Rattle.modules.specs.Model.{Chain}
use Rattle.modules.specs.Rules.{memory_fits, fewest_from, fewest_cores}
use Rattle.modules.specs.Claims.{IsFewest}

-- ---- one turn

-- with all counts below q tried
module _ (c : Chain) (first last q top : ℕ) where
  pub fewest_here : {t : Bool} → 1 ≤ q → q ≤ top → t ≡ memory_fits c first last q → t ≡ true → fewest_from c first last (q - 1) (top + 1 - q) ≡ q
  unfolding fewest_from
  fewest_here some h e y =
      let d : top + 1 - q ≡ suc (top - q) = omega arith in
      let n : q - 1 + 1 ≡ q = omega arith in
      rw (d, n, ← e, y)

  pub fewest_next : {t : Bool} → 1 ≤ q → q ≤ top → t ≡ memory_fits c first last q → t ≡ false
      → fewest_from c first last (q - 1) (top + 1 - q) ≡ fewest_from c first last (q + 1 - 1) (top + 1 - (q + 1))
  unfolding fewest_from
  fewest_next some h e f =
      let d : top + 1 - q ≡ suc (top + 1 - (q + 1)) = omega arith in
      let n : q - 1 + 1 ≡ q = omega arith in
      let m : q + 1 - 1 ≡ q = omega arith in
      rw (d, n, m, ← e, f)

  pub fewest_end : q ≡ top + 1 → fewest_from c first last (q - 1) (top + 1 - q) ≡ q
  unfolding fewest_from
  fewest_end e = let d : top + 1 - q ≡ 0 = omega arith in rw d (omega arith)

-- ---- what is found

module _ (c : Chain) (first last : ℕ) where
  -- q cores hold the module's memory, or do not
  abbrev Fits : ℕ → Type 0
  Fits q = memory_fits c first last q ≡ true

  abbrev TooFew : ℕ → Type 0
  TooFew q = memory_fits c first last q ≡ false

  -- x is the least that fits of the n numbers after p, else the one behind them
  record Found (p n x : ℕ) : Type 0 where
    after : p < x
    within : x ≤ p + n + 1
    fits : x ≤ p + n → Fits x
    none_below : (q : ℕ) → p < q → q < x → TooFew q

  found_here : (p n : ℕ) → Fits (p + 1) → Found p (suc n) (p + 1)
  found_here p n t = record { after = omega arith; within = omega arith; fits = λ h. t; none_below = λ q a b. absurd (omega arith) }

  found_later : (p n x : ℕ) → TooFew (p + 1) → Found (p + 1) n x → Found p (suc n) x
  found_later p n x t f = record {
    after = omega arith;
    within = omega arith;
    fits = λ h. f.fits (omega arith);
    none_below = λ q a b. ⊎_elim
        (λ l. f.none_below q l b)
        (λ l. let e : q ≡ p + 1 = omega arith in rw e t)
        (lt_or_le (p + 1) q);
  }

  fewest_found : (n p : ℕ) → Found p n (fewest_from c first last p n)
  unfolding fewest_from
  fewest_found zero p = record { after = omega arith; within = omega arith; fits = λ h. absurd (omega arith); none_below = λ q a b. absurd (omega arith) }
  fewest_found (suc n) p = ⊎_elim
      (λ (t : Fits (p + 1)). rw t (found_here p n t))
      (λ (t : TooFew (p + 1)). rw t (found_later p n (fewest_from c first last (p + 1) n) t (fewest_found n (p + 1))))
      (true_or_false (memory_fits c first last (p + 1)))

  cores_found : Found 0 c.board (fewest_cores c first last)
  unfolding fewest_cores
  cores_found = fewest_found c.board 0

  -- ---- the fewest cores, both ways round

  abbrev found : ℕ
  found = fewest_cores c first last

  pub fewest_some : 1 ≤ found
  fewest_some = cores_found.after

  pub fewest_most : found ≤ c.board + 1
  fewest_most = omega (arith, cores_found.within)

  -- on the board they hold the memory, and no count that holds it is below them
  pub fewest_fits : found ≤ c.board → Fits found
  fewest_fits h = cores_found.fits (omega arith)

  pub fewest_low : (p : ℕ) → 1 ≤ p → Fits p → found ≤ p
  fewest_low p a t = ⊎_elim (λ l. true_not_false (memory_fits c first last p) t (cores_found.none_below p a l)) (λ l. l) (lt_or_le p found)

  pub fewest_none : (found ≡ c.board + 1) ↔ ((p : ℕ) → 1 ≤ p → p ≤ c.board → TooFew p)
  fewest_none =
      let f = cores_found in (
        λ e p a b. f.none_below p a (omega arith),
        λ n. ⊎_elim
            (λ l. true_not_false (memory_fits c first last found) (f.fits (omega arith)) (n found f.after (omega arith)))
            (λ l. omega arith)
            (lt_or_le found (c.board + 1)),
      )

  pub fewest_least : (p : ℕ) → p ≤ c.board → (found ≡ p) ↔ IsFewest c first last p
  fewest_least p h =
      let f = cores_found in (
        λ e. record { some = omega arith; board = h; fits = rw e at (f.fits (omega arith)); none_below = λ q a b. f.none_below q a (omega arith) },
        λ k. ⊎_elim
            (λ l. true_not_false (memory_fits c first last found) (f.fits (omega arith)) (k.none_below found f.after l))
            (λ l. ⊎_elim
            (λ m. true_not_false (memory_fits c first last p) k.fits (f.none_below p k.some m))
            (λ m. omega arith)
            (lt_or_le p found))
            (lt_or_le found p),
      )
