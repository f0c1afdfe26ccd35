-- The cheapest transfers of a row, read from words: a transfer is put where the first rest that it can be sent to starts, and the
-- least of the words up to c is then the cheapest transfer to a rest of at most c cores. By the laws of the least over a range,
-- because the slack does not fall with more cores.
use Prim.Native.Nat.{ℕ, suc, ◌+◌, ◌≤◌, ◌<◌}
use native.Mathlib.Omega.{arith}
use native.Mathlib.Nat.{le_antisymm}
use mathlib.Core.Path.{◌≡◌, sym, subst, ◌∙◌, ap}
use mathlib.Core.Bool.{◌&&◌, ◌||◌}
use mathlib.Core.Logic.{inl, inr}
use lib.Dec.{T, ltb, ltb→lt, lt→ltb, eqb, eqb→eq, eqb_refl, T_not, not_T}
use Rattle.records.proofs.Cases.{lt_or_le}
use Rattle.search.specs.Least.{lesser, least}
use Rattle.search.proofs.Tests.{passed, failed, test, and_l, and_i, or_e, or_l, or_r, eq→eqb}
use Rattle.search.proofs.Least.{pick_yes, pick_no, lesser_le, lesser_is, lesser_low, least_cap, least_le, least_ge, least_ext, least_none, least_more, least_stop}
use Rattle.slack.specs.Slack.{Slack}
use Rattle.slack.specs.Fill.{chance, cheapest, lowest}

-- ---- the least of a row's words

-- a word that is lowered lowers the least
least_put : (cap n : ℕ) (g g' : ℕ → ℕ) (f v : ℕ) → f < n → g' f ≡ lesser (g f) v → ((j : ℕ) → j < n → (j ≡ f → ⊥) → g' j ≡ g j)
    → least cap n g' ≡ lesser (least cap n g) v
least_put cap n g g' f v h e same =
    let a = least cap n g in
    let a' = least cap n g' in
    let w = lesser_le (g f) v in
    let z = lesser_le a v in
    let at : (j : ℕ) → j < n → a' ≤ g j = λ j d. elim (test (eqb j f)) [
      | passed t ↦ subst (λ i. a' ≤ g i) (sym (eqb→eq j f t)) (omega (arith, least_le cap n g' f h))
      | failed t ↦ omega (arith, least_le cap n g' j d, same j d (λ c. T_not (eqb j f) t (eq→eqb j f c)))
    ] in
    let low : a' ≤ a = least_ge cap n g a' (least_cap cap n g') at in
    le_antisymm
    (elim (lesser_is a v) [ inl c ↦ omega arith | inr c ↦ omega (arith, least_le cap n g' f h) ])
    (least_ge cap n g' (lesser a v) (omega (arith, least_cap cap n g)) (λ j d. elim (test (eqb j f)) [
      | passed t ↦ subst (λ i. lesser a v ≤ g' i) (sym (eqb→eq j f t)) (elim (lesser_is (g f) v) [
        | inl c ↦ omega (arith, least_le cap n g f h)
        | inr c ↦ omega arith
      ])
      | failed t ↦ omega (arith, least_le cap n g j d, same j d (λ c. T_not (eqb j f) t (eq→eqb j f c)))
    ]))

-- ---- before the last task

module _ (k none : ℕ) (send : (l p q : ℕ) → ℕ) (R : Slack) (l q : ℕ) (before : l < k) where
  -- a rest that the transfer can be sent to, and one that it cannot
  chance_yes : (c i : ℕ) → send l q i < R l i c → chance k none send R l q c i ≡ send l q i
  unfolding chance
  chance_yes c i h = pick_yes ((eqb l k && eqb i 0) || ltb (send l q i) (R l i c)) _ none
      (or_r (eqb l k && eqb i 0) (ltb (send l q i) (R l i c)) (lt→ltb _ _ h))

  chance_no : (c i : ℕ) → R l i c ≤ send l q i → chance k none send R l q c i ≡ none
  unfolding chance
  chance_no c i h =
      let e = eqb l k && eqb i 0 in
      let o = ltb (send l q i) (R l i c) in
      pick_no (e || o) _ none (not_T (e || o) (λ t. elim (or_e e o t) [
        | inl u ↦ absurd (omega (arith, eqb→eq l k (and_l (eqb l k) (eqb i 0) u)))
        | inr u ↦ absurd (omega (arith, ltb→lt (send l q i) (R l i c) u))
      ]))

  -- a row that holds nothing: there is no rest of no module
  pub row_start : (row : ℕ → ℕ) (c : ℕ) → ((j : ℕ) → j ≤ c → row j ≡ none) → R l 0 c ≤ send l q 0
      → lowest none row c ≡ least none 1 (chance k none send R l q c)
  unfolding lowest
  row_start row c h z =
      least_none none (suc c) row (λ j d. omega (arith, h j (omega arith)))
      ∙ sym (least_none none 1 (chance k none send R l q c) (λ j d.
      let e : j ≡ 0 = omega arith in
      subst (λ i. none ≤ chance k none send R l q c i) (sym e) (omega (arith, chance_no c 0 z))))

  -- with a next module of i cores that no rest of the row can have
  pub row_same : (row : ℕ → ℕ) (i e end : ℕ) → e ≡ send l q i → ((c : ℕ) → c ≤ end → R l i c ≤ e)
      → ((c : ℕ) → c ≤ end → lowest none row c ≡ least none i (chance k none send R l q c))
      → (c : ℕ) → c ≤ end → lowest none row c ≡ least none (i + 1) (chance k none send R l q c)
  row_same row i e end s none_from so c d =
      let f = chance k none send R l q c in
      least_more none i f (lowest none row c) (lowest none row c) (so c d)
      (sym (lesser_low (lowest none row c) (f i) (omega (arith, so c d, least_cap none i f, chance_no c i (omega (arith, none_from c d))))))

  -- where the row holds all the words, a cell of it is the cheapest transfer
  pub row_end : (i c : ℕ) → c < i → ((q' : ℕ) → c < q' → R l q' c ≡ 0)
      → least none i (chance k none send R l q c) ≡ cheapest k none send R l q c
  unfolding cheapest
  row_end i c h z =
      let f = chance k none send R l q c in
      least_stop none (suc c) i f h (λ j d u. omega (arith, least_cap none (suc c) f, chance_no c j (omega (arith, z j d))))

  module _ (rises : (q' b b' : ℕ) → b ≤ b' → R l q' b ≤ R l q' b') where
    -- with a next module of i cores that a rest of f cores or more can have
    pub row_next : (row row' : ℕ → ℕ) (i e f end : ℕ) → e ≡ send l q i → e < R l i f → ((c : ℕ) → c < f → R l i c ≤ e)
        → row' f ≡ lesser (row f) e → ((j : ℕ) → j ≤ end → (j ≡ f → ⊥) → row' j ≡ row j)
        → ((c : ℕ) → c ≤ end → lowest none row c ≡ least none i (chance k none send R l q c))
        → (c : ℕ) → c ≤ end → lowest none row' c ≡ least none (i + 1) (chance k none send R l q c)
    unfolding lowest
    row_next row row' i e f end s first none_before put same so c d = elim (lt_or_le c f) [
      | inl u ↦
          let g = chance k none send R l q c in
          let a = least none (suc c) row in
          least_ext none (suc c) row' row (λ j v. same j (omega arith) (λ z. absurd (omega arith)))
          ∙ least_more none i g a a (so c d)
          (sym (lesser_low a (g i) (omega (arith, so c d, least_cap none i g, chance_no c i (omega (arith, none_before c u))))))
      | inr u ↦
          let g = chance k none send R l q c in
          let y : g i ≡ e = chance_yes c i (omega (arith, rises i f c u)) ∙ sym s in
          least_put none (suc c) row row' f e (omega arith) put (λ j v. same j (omega arith))
          ∙ least_more none i g (least none (suc c) row) (lesser (least none (suc c) row) e) (so c d)
          (ap (λ z. lesser (least none (suc c) row) z) (sym y))
    ]

-- ---- at the last task

-- there is nothing to send
pub cheapest_last : (k none : ℕ) (send : (l p q : ℕ) → ℕ) (R : Slack) (q c : ℕ) → send k q 0 ≡ 0 → cheapest k none send R k q c ≡ 0
unfolding cheapest chance
cheapest_last k none send R q c e =
    let f = chance k none send R k q c in
    let g = (eqb k k && eqb 0 0) || ltb (send k q 0) (R k 0 c) in
    let t : T g = or_l (eqb k k && eqb 0 0) (ltb (send k q 0) (R k 0 c)) (and_i (eqb k k) (eqb 0 0) (eqb_refl k) tt) in
    omega (arith, least_le none (suc c) f 0 (omega arith), pick_yes g (send k q 0) none t)
