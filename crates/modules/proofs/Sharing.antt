-- Memory split task by task (document 02, M-103): what a share is, how shares add up as a module grows, when they fit, that fewer tasks
-- and more cores never make a module unfit, and which modules fit on no cores at all. By comparing the sums task by task. Assumes nothing.
use mathlib.Core.Path.{◌≡◌}
use mathlib.Core.Bool.{true, false}
use mathlib.Core.Logic.{◌↔◌, ⊎_elim}
use Prim.Native.Nat.{ℕ, ◌+◌, ◌-◌, ◌*◌, ◌≤◌, ◌<◌}
use native.Mathlib.Omega.{arith}
use lib.Dec.{leb}
use borrow.Author.Tests.{le-leb, leb-true, eq-eqb, ne_eqb}
use Rattle.rounding.proofs.Laws.{rounded_least, rounded_falls}
use Rattle.records.proofs.Cases.{lt_or_le, and-true, false_unless, true_not_false}
use Rattle.modules.specs.Model.{Chain, nothing}
use Rattle.modules.specs.Rules.{share, shares, memory_fits}
use Rattle.modules.specs.Claims.{needy, needing}
use Rattle.modules.proofs.Amounts.{gather_part, gather_less}
use Rattle.modules.proofs.Sums.{gather_none, gather_last}

-- ---- a share

module _ (c : Chain) where
  -- the least that, p times over, holds the need
  pub share_least : (t p n : ℕ) → 1 ≤ p → (share c t p ≤ n) ↔ (c.need t ≤ n * p)
  unfolding share
  share_least t p n = rounded_least (c.need t) p n

  share_falls : (p q : ℕ) → 1 ≤ p → p ≤ q → (t : ℕ) → share c t q ≤ share c t p
  unfolding share
  share_falls p q h i t = rounded_falls (c.need t) p q h i

  -- at least 1 for a task that needs memory, and no more on as many cores as it needs KiB
  share_some : (p : ℕ) → 1 ≤ p → (t : ℕ) → needy c t ≤ share c t p
  share_some p h t = ⊎_elim
      (λ l. rw (ne_eqb (c.need t) 0 (λ e. omega arith)) (⊎_elim (λ z. absurd (omega (arith, (share_least t p 0 h).0 (omega arith)))) (λ z. z) (lt_or_le (share c t p) 1)))
      (λ l. rw (eq-eqb (c.need t) 0 (omega arith)) (omega arith))
      (lt_or_le 0 (c.need t))

  share_one : (p : ℕ) → 1 ≤ p → ((t : ℕ) → c.need t ≤ p) → (t : ℕ) → share c t p ≤ needy c t
  share_one p h m t = ⊎_elim
      (λ l. rw (ne_eqb (c.need t) 0 (λ e. omega arith)) ((share_least t p 1 h).1 (omega (arith, m t))))
      (λ l. rw (eq-eqb (c.need t) 0 (omega arith)) ((share_least t p 0 h).1 (omega arith)))
      (lt_or_le 0 (c.need t))

module _ (c : Chain) (first last : ℕ) where
  -- ---- added up

  pub shares_none : (p : ℕ) → last < first → shares c first last p ≡ 0
  unfolding shares
  shares_none p = gather_none (λ t. share c t p) nothing first last

  pub shares_more : (p : ℕ) → 1 ≤ first → first ≤ last → shares c first last p ≡ shares c first (last - 1) p + share c last p
  unfolding shares
  shares_more p = gather_last (λ t. share c t p) first last

  -- ---- the test

  pub memory_exactly : (p : ℕ) → (memory_fits c first last p ≡ true) ↔ ((1 ≤ p) × (shares c first last p ≤ c.capacity))
  unfolding memory_fits
  memory_exactly p = (
    λ e. let t = and-true (leb 1 p) (leb (shares c first last p) c.capacity) e in (leb-true 1 p t.0, leb-true (shares c first last p) c.capacity t.1),
    λ h. simp (le-leb 1 p h.0, le-leb (shares c first last p) c.capacity h.1),
  )

  pub memory_more : (p q : ℕ) → p ≤ q → memory_fits c first last p ≡ true → memory_fits c first last q ≡ true
  unfolding shares
  memory_more p q h e =
      let t = (memory_exactly p).0 e in
      (memory_exactly q).1 (omega arith, omega (arith, gather_less (λ t. share c t q) (λ t. share c t p) (share_falls c p q t.0 h) first last))

  -- ---- on no cores at all

  needing_least : (p : ℕ) → 1 ≤ p → needing c first last ≤ shares c first last p
  unfolding shares
  needing_least p h = gather_less (needy c) (λ t. share c t p) (share_some c p h) first last

  needing_most : (p : ℕ) → 1 ≤ p → ((t : ℕ) → c.need t ≤ p) → shares c first last p ≤ needing c first last
  unfolding shares
  needing_most p h m = gather_less (λ t. share c t p) (needy c) (share_one c p h m) first last

  pub memory_never : (most : ℕ) → ((t : ℕ) → c.need t ≤ most) → ((p : ℕ) → memory_fits c first last p ≡ false) ↔ (c.capacity < needing c first last)
  memory_never most m = (
    λ n. ⊎_elim
        (λ l. l)
        (λ l.
        let fits = (memory_exactly (most + 1)).1 (omega arith, omega (arith, needing_most (most + 1) (omega arith) (λ t. omega (arith, m t)))) in
        true_not_false (memory_fits c first last (most + 1)) fits (n (most + 1)))
        (lt_or_le c.capacity (needing c first last)),
    λ h p. false_unless (memory_fits c first last p) (memory_exactly p).0 (λ t. omega (arith, needing_least p t.0)),
  )

-- ---- dropping tasks at an end

module _ (c : Chain) (first last from to : ℕ) (h : first ≤ from) (i : to ≤ last) where
  pub memory_drop : (p : ℕ) → memory_fits c first last p ≡ true → memory_fits c from to p ≡ true
  unfolding shares
  memory_drop p e =
      let t = (memory_exactly c first last p).0 e in
      (memory_exactly c from to p).1 (t.0, omega (arith, t.1, gather_part (λ t. share c t p) nothing first last from to h i))
