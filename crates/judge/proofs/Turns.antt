-- One turn of each search: what is found now, or what is left gives the same as the whole. A turn has the module that it
-- read and the test's result. Assumes nothing.
use mathlib.Core.Path.{◌≡◌, refl, sym, ◌∙◌}
use mathlib.Core.Bool.{Bool, true, false, cond, not}
use lib.Dec.{eqb}
use Rattle.std.specs.Prelude.{Option, None, Some}
use mathlib.Core.List.{List}
use Prim.Native.Nat.{ℕ, ◌+◌, ◌-◌, ◌≤◌, ◌<◌}
use borrow.Author.Tests.{eq-eqb, ne_eqb, not-true, not-false}
use Rattle.modules.specs.declared.Module.{Module}
use Rattle.modules.proofs.Left.{left_some, left_none}
use Rattle.layout.specs.Layout.{module_at, modules_from}
use Rattle.judge.specs.Judge.{is_blank, is_module, blank_fault, shape_fault, first_failing, at_place}

module _ (w : List ℕ) (i n : ℕ) where
  pub blank_end : n ≤ i → blank_fault w i (n - i) ≡ 0
  unfolding blank_fault
  blank_end h = rw (left_none h)

  pub shape_end : (k due : ℕ) → n ≤ i → shape_fault k w due i (n - i) ≡ i + 1
  unfolding shape_fault
  shape_end k due h = rw (left_none h)

  pub failing_end : (f : Module → Bool) → n ≤ i → first_failing f (i + 1) (modules_from w i (n - i)) ≡ 0
  unfolding first_failing modules_from
  failing_end f h = rw (left_none h)

  module _ {m : Module} (h : i < n) (e : m ≡ module_at w i) where
    pub blank_here : {t : Bool} → t ≡ is_blank m → not t ≡ true → blank_fault w i (n - i) ≡ i + 1
    unfolding blank_fault
    blank_here {t} b f = rw (left_some h) (simp (sym (rw e at b) ∙ not-true t f))

    pub blank_next : {t : Bool} → t ≡ is_blank m → not t ≡ false → blank_fault w i (n - i) ≡ blank_fault w (i + 1) (n - (i + 1))
    unfolding blank_fault
    blank_next {t} b f = rw (left_some h) (simp (sym (rw e at b) ∙ not-false t f))

    module _ (k due : ℕ) {t : Bool} (b : t ≡ is_module k due m) where
      pub shape_here : not t ≡ true → shape_fault k w due i (n - i) ≡ i + 1
      unfolding shape_fault
      shape_here f = rw (left_some h) (simp (sym (rw e at b) ∙ not-true t f))

      pub shape_last : not t ≡ false → m.last ≡ k → shape_fault k w due i (n - i) ≡ blank_fault w (i + 1) (n - (i + 1))
      unfolding shape_fault
      shape_last f l = rw (left_some h) (simp (sym (rw e at b) ∙ not-false t f, eq-eqb (module_at w i).last k (rw e at l)))

      pub shape_next : not t ≡ false → (m.last ≡ k → ⊥)
          → shape_fault k w due i (n - i) ≡ shape_fault k w (m.last + 1) (i + 1) (n - (i + 1))
      unfolding shape_fault
      shape_next f l = rw (left_some h, e) (simp (sym (rw e at b) ∙ not-false t f, ne_eqb (module_at w i).last k (rw e at l)))

    module _ (f : Module → Bool) {t : Bool} (b : t ≡ f m) where
      pub failing_here : not t ≡ true → first_failing f (i + 1) (modules_from w i (n - i)) ≡ i + 1
      unfolding first_failing modules_from
      failing_here g = rw (left_some h) (simp (sym (rw e at b) ∙ not-true t g))

      pub failing_next : not t ≡ false
          → first_failing f (i + 1) (modules_from w i (n - i)) ≡ first_failing f (i + 1 + 1) (modules_from w (i + 1) (n - (i + 1)))
      unfolding first_failing modules_from
      failing_next g = rw (left_some h) (simp (sym (rw e at b) ∙ not-false t g))

-- ---- places

not_some : {p : ℕ} → ◌≡◌ {A = Option ℕ} (Some p) None → ⊥
not_some h = cc

same_some : {n p : ℕ} → ◌≡◌ {A = Option ℕ} (Some n) (Some p) → n ≡ p
same_some h = cc

pub at_some : {n x : ℕ} → n ≡ x → (n ≡ 0 → ⊥) → Some n ≡ at_place x
at_some {n} e h = rw (← e) (simp (ne_eqb n 0 h))

pub at_none : {x : ℕ} → x ≡ 0 → None ≡ at_place x
at_none {x} e = simp (eq-eqb x 0 e)

-- a place that is there is the number, which is not 0
pub some_value : (n : ℕ) {p : ℕ} {r : Option ℕ} → r ≡ at_place n → r ≡ Some p → n ≡ p
some_value n {p} e h = placed (eqb n 0) (sym e ∙ h)
  where
    placed : (t : Bool) → cond t None (Some n) ≡ Some p → n ≡ p
    placed true g = absurd (not_some (sym g))
    placed false g = same_some g

pub some_there : (n : ℕ) {p : ℕ} {r : Option ℕ} → r ≡ at_place n → r ≡ Some p → eqb p 0 ≡ false
some_there n {p} e h = placed (eqb n 0) refl (sym e ∙ h)
  where
    placed : (t : Bool) → eqb n 0 ≡ t → cond t None (Some n) ≡ Some p → eqb p 0 ≡ false
    placed true f g = absurd (not_some (sym g))
    placed false f g = rw (← same_some g) f

-- and of none the number is 0
pub no_place : (n : ℕ) {r : Option ℕ} → r ≡ at_place n → r ≡ None → eqb n 0 ≡ true
no_place n e h = placed (eqb n 0) refl (sym e ∙ h)
  where
    placed : (t : Bool) → eqb n 0 ≡ t → cond t None (Some n) ≡ None → eqb n 0 ≡ true
    placed true f g = f
    placed false f g = absurd (not_some g)
