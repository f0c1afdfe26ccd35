-- A module in its place at a threshold: the test as its facts, and what is left of it once the code has made the other tests; the same for
-- a module of a plan of the fewest cores. Assumes nothing.
use mathlib.Core.Path.{◌≡◌, sym, ◌∙◌}
use mathlib.Core.Bool.{Bool, true, false, ◌&&◌, and-true, and-false}
use mathlib.Core.Logic.{inl, inr}
use Prim.Native.Nat.{ℕ, ◌+◌, ◌-◌, ◌*◌, ◌≤◌, ◌<◌}
use native.Mathlib.Nat.{mul-le-mul_right}
use native.Mathlib.Omega.{arith}
use lib.Dec.{T, leb}
use borrow.Author.Tests.{lt-ltb, le-leb, ltb-true, leb-true}
use Rattle.records.proofs.Cases as cases
use Rattle.records.proofs.Cases.{false_unless, true_not_false}
use Rattle.modules.specs.Model.{Chain, response, transfer}
use Rattle.modules.specs.Rules.{module_rules}
use Rattle.modules.proofs.Laws.{reach_inside, rules_reach}
use Rattle.search.specs.Best.{fits_at}
use Rattle.search.proofs.Tests.{bool_eq}
use Rattle.search.proofs.Sparing.{sparing_fits, sparing_spares}
use Rattle.slack.specs.Problem.{grain, problem, Reached, enough_on, need_on, sparing_on}
use Rattle.slack.proofs.Enough.{enough_needs}
use Rattle.rests.specs.Words.{served_in}

-- a module that ends within its reach ends in the chain
pub reached_inside : {c : Chain} {t l : ℕ} → Reached c t l → l ≤ c.tasks
reached_inside {c} {t} h = omega (arith, h.within, reach_inside c (t + 1))

module _ (c : Chain) (n s t l r p q : ℕ) where
  -- the module of tasks t + 1 to l fits between modules of s and q cores
  pub record Fits : Type 0 where
    pub later : t < l
    pub inside : l ≤ c.tasks
    pub one_copy : 1 ≤ r
    pub one_core : 1 ≤ p
    pub keeps : module_rules c (t + 1) l r p ≡ true
    pub within : response c s (t + 1) l r p q * grain ≤ n * r
    pub room : s + r * p + q ≤ c.board

  pub fits_facts : fits_at (problem c) n s t l r p q ≡ true → Fits
  fits_facts e =
      let h₆ = cases.and-true _ _ e in
      let h₅ = cases.and-true _ _ h₆.0 in
      let h₄ = cases.and-true _ _ h₅.0 in
      let h₃ = cases.and-true _ _ h₄.0 in
      let h₂ = cases.and-true _ _ h₃.0 in
      let h₁ = cases.and-true _ _ h₂.0 in
      record {
        later = ltb-true _ _ h₁.0;
        inside = leb-true _ _ h₁.1;
        one_copy = leb-true _ _ h₂.1;
        one_core = leb-true _ _ h₃.1;
        keeps = h₄.1;
        within = leb-true _ _ h₅.1;
        room = leb-true _ _ h₆.1;
      }

  -- it ends within its reach (M-102)
  pub fits_reached : Fits → Reached c t l
  fits_reached f =
      let few = mul-le-mul_right {m = 1} {n = r} p f.one_copy in
      record { later = f.later; within = rules_reach c (t + 1) l (omega arith) (omega (arith, f.later)) f.inside r p f.one_core (omega (arith, f.room)) f.keeps }

  pub fits_not : (Fits → ⊥) → fits_at (problem c) n s t l r p q ≡ false
  fits_not h = false_unless (fits_at (problem c) n s t l r p q) fits_facts h

  pub fits_kept_not : {x : Bool} → x ≡ module_rules c (t + 1) l r p → x ≡ false → fits_at (problem c) n s t l r p q ≡ false
  fits_kept_not {x} e h = fits_not (λ f. true_not_false x (e ∙ f.keeps) h)

  -- where all else holds, it is the threshold that decides
  pub fits_within : {x : Bool} {y : ℕ} → Reached c t l → 1 ≤ r → 1 ≤ p → x ≡ module_rules c (t + 1) l r p → x ≡ true → s + r * p + q ≤ c.board
      → y ≡ response c s (t + 1) l r p q → leb (y * grain) (n * r) ≡ fits_at (problem c) n s t l r p q
  fits_within {x} reached copies cores e h room d =
      simp (lt-ltb t l reached.later, le-leb l c.tasks (reached_inside reached), le-leb 1 r copies, le-leb 1 p cores, ← e, h, le-leb (s + r * p + q) c.board room, and-true, d)

  -- ---- in a plan of the fewest cores

  -- it has a place in one: it fits, has no more than the fewest cores, and after it nothing is to come, or a module that has some of the
  -- cores that it leaves, and no more
  pub record Spares : Type 0 where
    pub is : T (sparing_on c n s t l r p q)
    pub tight : T (fits_at (problem c) n s t l r p q)
    pub fits : Fits
    pub few : r * p ≤ need_on c n s t p
    pub enough : T (enough_on c n p l q (need_on c n s t p - r * p))
    pub beside : s + p + q ≤ c.board
    pub ends : l ≡ c.tasks → q ≡ 0
    pub goes : l < c.tasks → 1 ≤ q
    pub most : q ≤ need_on c n s t p - r * p

  pub spares_facts : T (sparing_on c n s t l r p q) → Spares
  spares_facts u =
      let b = need_on c n s t p - r * p in
      let v = sparing_fits (problem c) n (enough_on c n) s t l r p q u in
      let f = fits_facts (bool_eq (fits_at (problem c) n s t l r p q) true (λ _. tt) (λ _. v)) in
      let (few, enough) = sparing_spares (problem c) n (enough_on c n) s t l r p q u in
      let one = mul-le-mul_right {m = 1} {n = r} p f.one_copy in
      record {
        is = u;
        tight = v;
        fits = f;
        few = few;
        enough = enough;
        beside = omega (arith, f.room);
        ends = λ e. elim (enough_needs c n p l q b enough) [ inl a ↦ a.1 | inr a ↦ absurd (omega (arith, a.0)) ];
        goes = λ h. elim (enough_needs c n p l q b enough) [ inl a ↦ absurd (omega (arith, a.0)) | inr a ↦ a.1 ];
        most = elim (enough_needs c n p l q b enough) [ inl a ↦ omega (arith, a.1) | inr a ↦ a.2 ];
      }

  -- where it has no more than the fewest cores, and what it leaves of them is known, it is what it sends that decides, and whether it fits
  module _ {b e : ℕ} {x : Bool} (few : r * p ≤ need_on c n s t p) (left : b ≡ need_on c n s t p - r * p) (sent : e ≡ transfer c l p q) (served : x ≡ served_in c n l q b e) where
    spares_by : (fits_at (problem c) n s t l r p q && x) ≡ sparing_on c n s t l r p q
    spares_by = rw (le-leb (r * p) (need_on c n s t p) few, served, left, sent)

    pub spares_unserved : x ≡ false → false ≡ sparing_on c n s t l r p q
    spares_unserved h = sym (and-false (fits_at (problem c) n s t l r p q)) ∙ rw (← h) spares_by

    pub spares_served : {y : Bool} → x ≡ true → y ≡ fits_at (problem c) n s t l r p q → y ≡ sparing_on c n s t l r p q
    spares_served h d = d ∙ sym (and-true (fits_at (problem c) n s t l r p q)) ∙ rw (← h) spares_by
