-- The test of values against M-101's direct statement: all are in range exactly where no law gives more, at any number of cores.
-- Assumes nothing.
use mathlib.Core.Path.{◌≡◌, refl, sym, subst, ◌∙◌}
use mathlib.Core.Bool.{true}
use mathlib.Core.List.{List, [], ◌∷◌}
use mathlib.Core.Logic.{⊎_elim}
use Prim.Native.Nat.{ℕ, zero, suc, ◌+◌, ◌-◌, ◌/◌, ◌%◌, ◌≤◌, ◌<◌}
use native.Mathlib.Omega.{arith}
use lib.ListN.{length, get_or}
use borrow.Author.Tests.{eq-eqb, ne_eqb, le-leb}
use Rattle.records.specs.declared.Key.{Key}
use Rattle.records.specs.Costs.{most_value}
use Rattle.records.proofs.Cases.{lt_or_le, and-true}
use Rattle.lookups.specs.Lookups.{cell_of}
use Rattle.lookups.proofs.Places.{cell_of_lt, cell_of_div, cell_of_mod}
use Rattle.laws.specs.declared.Cost.{Cost}
use Rattle.laws.specs.Laws.{law_at}
use Rattle.laws.specs.Form.{law_of, cost_at}
use Rattle.laws.specs.Claims.{States}
use Rattle.fitted.specs.Fill.{law_count, cost_keys, cost_count, a_of, b_of, value_by, keys_within, cost_within, values_meet}
use Rattle.fitted.specs.Claims.{IsLaws, InBounds}
use Rattle.fitted.proofs.Keys.{no_key, cost_count_lem, cost_key, square_places, row_places}
use Rattle.fitted.proofs.Walks.{within_at}
use Rattle.fitted.proofs.Stated.{execution_at_lem, internal_at_lem, external_at}

-- ---- one cost

all_within : (f : Key → ℕ) (ds : List Key) → ((j : ℕ) → j < length ds → f (get_or ds j no_key) ≤ most_value) → keys_within f ds ≡ true
unfolding keys_within
all_within f [] h = refl
all_within f (d ∷ ds) h = simp (le-leb (f d) most_value (h 0 (omega arith)), all_within f ds (λ j b. h (suc j) (omega arith)))

module _ (c : Cost) (p : ℕ) where
  -- the value at place j
  at : ℕ → ℕ
  at j = law_at c.law (a_of c.kind p j) (b_of c.kind p j)

  places_bounded : cost_within c p ≡ true → (j : ℕ) → j < cost_count c.kind p → at j ≤ most_value
  unfolding at
  places_bounded e j h =
      let w = within_at (value_by c.law) (cost_keys c.kind c.task p) e j (omega (arith, cost_count_lem c.kind c.task p)) in
      rw (cost_key c.kind c.task p j h) at w

  places_within : ((j : ℕ) → j < cost_count c.kind p → at j ≤ most_value) → cost_within c p ≡ true
  unfolding at
  places_within h =
      all_within (value_by c.law) (cost_keys c.kind c.task p) (λ j b.
      let u : j < cost_count c.kind p = omega (arith, cost_count_lem c.kind c.task p) in
      rw (cost_key c.kind c.task p j u) (h j u))

  module _ (other : c.kind ≡ 5 → ⊥) where
    row_bounded : cost_within c p ≡ true → (a : ℕ) → 1 ≤ a → a ≤ p → law_at c.law a 0 ≤ most_value
    unfolding at cost_count a_of b_of
    row_bounded e a l u =
        let n = ne_eqb c.kind 5 other in
        let z : a - 1 + 1 ≡ a = omega arith in
        let h : at (a - 1) ≤ most_value = places_bounded e (a - 1) (rw n (omega arith)) in
        rw (n, z) at h

    row_within : ((a : ℕ) → 1 ≤ a → a ≤ p → law_at c.law a 0 ≤ most_value) → cost_within c p ≡ true
    unfolding at a_of b_of
    row_within h = places_within (λ j b. let u = row_places c.kind p j other b in rw (ne_eqb c.kind 5 other) (h (j + 1) (omega arith) (omega arith)))

  module _ (external : c.kind ≡ 5) where
    square_bounded : cost_within c p ≡ true → (s q : ℕ) → 1 ≤ s → s ≤ p → 1 ≤ q → q ≤ p → law_at c.law s q ≤ most_value
    unfolding at cost_count a_of b_of
    square_bounded e s q a b d f =
        let n = eq-eqb c.kind 5 external in
        let h : at (cell_of p s q) ≤ most_value = places_bounded e (cell_of p s q) (rw n (cell_of_lt p p s q a b d f)) in
        rw (n, cell_of_div p s q a d f, cell_of_mod p s q d f) at h

    square_within : ((s q : ℕ) → 1 ≤ s → s ≤ p → 1 ≤ q → q ≤ p → law_at c.law s q ≤ most_value) → cost_within c p ≡ true
    unfolding at a_of b_of
    square_within h =
        places_within (λ j b. let u = square_places c.kind p j external b in
        rw (eq-eqb c.kind 5 external) (h (j / p + 1) (j % p + 1) (omega arith) (omega (arith, u.0)) (omega arith) (omega (arith, u.1))))

-- ---- all costs

module _ (l : List ℕ) (p : ℕ) where
  each_within : (i n : ℕ) → values_meet l p i n ≡ true → (m : ℕ) → i ≤ m → m < i + n → cost_within (cost_at l m) p ≡ true
  unfolding values_meet
  each_within i zero e m a b = absurd (omega arith)
  each_within i (suc n) e m a b =
      let h = and-true (cost_within (cost_at l i) p) (values_meet l p (i + 1) n) e in
      ⊎_elim (λ u. let z : m ≡ i = omega arith in rw z h.0) (λ u. each_within (i + 1) n h.1 m u (omega arith)) (lt_or_le m (i + 1))

  all_meet : (i n : ℕ) → ((m : ℕ) → i ≤ m → m < i + n → cost_within (cost_at l m) p ≡ true) → values_meet l p i n ≡ true
  unfolding values_meet
  all_meet i zero h = refl
  all_meet i (suc n) h = simp (h i (omega arith) (omega arith), all_meet (i + 1) n (λ m a b. h m (omega arith) (omega arith)))

module _ (l : List ℕ) (k p : ℕ) (some : 1 ≤ k) (h : IsLaws l k) where
  not_external : (n kind task : ℕ) → (kind ≡ 5 → ⊥) → States l n kind task → (cost_at l n).kind ≡ 5 → ⊥
  unfolding cost_at
  not_external n kind task o s e = o (sym s.kind_is ∙ e)

  pub meet_bounds : values_meet l p 0 (law_count k) ≡ true → InBounds l k p
  unfolding cost_at
  meet_bounds e = record {
    executions = λ t a b c d f.
        row_bounded (cost_at l (t - 1)) p (not_external (t - 1) 3 t (λ z. omega arith) (h.executions t b c))
        (each_within l p 0 (law_count k) e (t - 1) (omega arith) (omega arith)) a d f;
    internals = λ t a b c d f.
        row_bounded (cost_at l (k + (t - 1))) p (not_external (k + (t - 1)) 4 t (λ z. omega arith) (h.internals t b c))
        (each_within l p 0 (law_count k) e (k + (t - 1)) (omega arith) (omega arith)) a d f;
    externals = λ t s q b c.
        square_bounded (cost_at l (k + (k - 1) + (t - 1))) p (h.externals t b c).kind_is
        (each_within l p 0 (law_count k) e (k + (k - 1) + (t - 1)) (omega arith) (omega arith)) s q;
  }

  pub bounds_meet : InBounds l k p → values_meet l p 0 (law_count k) ≡ true
  unfolding cost_at
  bounds_meet v = all_meet l p 0 (law_count k) (λ m a u. ⊎_elim (execution m) (λ b. ⊎_elim (internal m b) (external m u b) (lt_or_le m (k + (k - 1)))) (lt_or_le m k))
    where
      execution : (m : ℕ) → m < k → cost_within (cost_at l m) p ≡ true
      execution m b =
          let z : m + 1 - 1 ≡ m = omega arith in
          row_within (cost_at l m) p (not_external m 3 (m + 1) (λ e. omega arith) (execution_at_lem l k h m b))
          (λ x d f. subst (λ (i : ℕ). law_at (law_of l i) x 0 ≤ most_value) z (v.executions (m + 1) x (omega arith) (omega arith) d f))

      internal : (m : ℕ) → k ≤ m → m < k + (k - 1) → cost_within (cost_at l m) p ≡ true
      internal m b c =
          let z : k + (m - k + 1 - 1) ≡ m = omega arith in
          row_within (cost_at l m) p (not_external m 4 (m - k + 1) (λ e. omega arith) (internal_at_lem l k h m b c))
          (λ x d f. subst (λ (i : ℕ). law_at (law_of l i) x 0 ≤ most_value) z (v.internals (m - k + 1) x (omega arith) (omega arith) d f))

      external : (m : ℕ) → m < 0 + law_count k → k ≤ m → k + (k - 1) ≤ m → cost_within (cost_at l m) p ≡ true
      external m u b c =
          let z : k + (k - 1) + (m - (k + (k - 1)) + 1 - 1) ≡ m = omega arith in
          square_within (cost_at l m) p (external_at l k h m (k + (k - 1)) refl c (omega arith)).kind_is
          (λ x y d f g j. subst (λ (i : ℕ). law_at (law_of l i) x y ≤ most_value) z (v.externals (m - (k + (k - 1)) + 1) x y (omega arith) (omega arith) d f g j))
