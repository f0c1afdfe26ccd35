-- The test of one record of laws against M-101's direct statement: it holds exactly where the record is the law that is due. Assumes
-- nothing.
use mathlib.Core.Path.{◌≡◌, refl, ◌∙◌}
use mathlib.Core.Bool.{true, false, cond, ◌&&◌}
use mathlib.Core.List.{List}
use mathlib.Core.Logic.{⊎_elim}
use Prim.Native.Nat.{ℕ, ◌+◌}
use lib.Dec.{eqb}
use borrow.Author.Tests.{eq-eqb, ne_eqb, eqb-true, eqb-false}
use Rattle.records.specs.declared.Key.{Key}
use Rattle.records.proofs.Cases.{true_or_false, and-true, or_right}
use Rattle.laws.specs.Form.{law_byte, coefficient, form_meets, unused_meets, law_meets}
use Rattle.laws.specs.Claims.{Formed, Formed.constant, Formed.three_terms, Formed.five_terms, States}

module _ (l : List ℕ) (n kind : ℕ) where
  zero_both : (i : ℕ) → (eqb (coefficient l n i) 0 && eqb (coefficient l n (i + 1)) 0) ≡ true → (coefficient l n i ≡ 0) × (coefficient l n (i + 1) ≡ 0)
  zero_both i e =
      let h = and-true (eqb (coefficient l n i) 0) (eqb (coefficient l n (i + 1)) 0) e in
      (eqb-true (coefficient l n i) 0 h.0, eqb-true (coefficient l n (i + 1)) 0 h.1)

  unused_of_constant : unused_meets l n 0 ≡ true
      → (coefficient l n 2 ≡ 0) × (coefficient l n 3 ≡ 0) × (coefficient l n 4 ≡ 0) × (coefficient l n 5 ≡ 0)
  unfolding unused_meets
  unused_of_constant e =
      let h = and-true (eqb (coefficient l n 2) 0 && eqb (coefficient l n 3) 0) (eqb (coefficient l n 4) 0 && eqb (coefficient l n 5) 0) e in
      let a = zero_both 2 h.0 in
      let b = zero_both 4 h.1 in
      (a.0, a.1, b.0, b.1)

  unused_of_three : unused_meets l n 1 ≡ true → (coefficient l n 4 ≡ 0) × (coefficient l n 5 ≡ 0)
  unfolding unused_meets
  unused_of_three e = zero_both 4 e

  formed : (form : ℕ) → law_byte l n 2 ≡ form → form_meets kind form ≡ true → unused_meets l n form ≡ true → Formed l n kind
  unfolding form_meets
  formed form e f u = ⊎_elim
      (λ (t : eqb form 0 ≡ true). let z = eqb-true form 0 t in let h = unused_of_constant (rw z at u) in constant (e ∙ z) h.0 h.1 h.2 h.3)
      (λ (t : eqb form 0 ≡ false). let o = or_right (eqb form 0) (eqb form (cond (eqb kind 5) 2 1)) f t in ⊎_elim
      (λ (k : eqb kind 5 ≡ true). five_terms (eqb-true kind 5 k) (e ∙ eqb-true form 2 (rw k at o)))
      (λ (k : eqb kind 5 ≡ false). let z = eqb-true form 1 (rw k at o) in let h = unused_of_three (rw z at u) in three_terms (eqb-false kind 5 k) (e ∙ z) h.0 h.1)
      (true_or_false (eqb kind 5)))
      (true_or_false (eqb form 0))

  form_of : Formed l n kind → form_meets kind (law_byte l n 2) ≡ true
  unfolding form_meets
  form_of (constant f a b c d) = rw f (refl)
  form_of (three_terms k f c d) = rw (f, ne_eqb kind 5 k) (refl)
  form_of (five_terms k f) = rw (f, k) (refl)

  unused_of : Formed l n kind → unused_meets l n (law_byte l n 2) ≡ true
  unfolding unused_meets
  unused_of (constant f a b c d) = rw (f, a, b, c, d) (refl)
  unused_of (three_terms k f c d) = rw (f, c, d) (refl)
  unused_of (five_terms k f) = rw f (refl)

module _ (l : List ℕ) (n : ℕ) (d : Key) where
  pub meets_states : law_meets l n d ≡ true → States l n d.kind d.task
  unfolding law_meets
  meets_states e =
      let h₄ = and-true _ _ e in
      let h₃ = and-true _ _ h₄.0 in
      let h₂ = and-true _ _ h₃.0 in
      let h₁ = and-true _ _ h₂.0 in
      record {
        kind_is = eqb-true _ _ h₁.0;
        task_is = eqb-true _ _ h₁.1;
        form_is = formed l n d.kind (law_byte l n 2) refl h₂.1 h₄.1;
        zero_is = eqb-true _ _ h₃.1;
      }

  pub states_meets : States l n d.kind d.task → law_meets l n d ≡ true
  unfolding law_meets
  states_meets h =
      simp (eq-eqb (law_byte l n 0) d.kind h.kind_is, eq-eqb (law_byte l n 1) d.task h.task_is, form_of l n d.kind h.form_is, eq-eqb (law_byte l n 3) 0 h.zero_is)
      (unused_of l n d.kind h.form_is)
