-- The bottleneck that is defined is the first module that reaches the greatest response ÷ copies. By induction along the plan:
-- the slowest so far is a top of what was passed. Assumes nothing.
use mathlib.Core.Path.{◌≡◌, refl, sym, ap, subst}
use mathlib.Core.Bool.{true, false}
use mathlib.Core.List.Memᴰ
use mathlib.Core.List.{List, [], ◌∷◌, Memᴰ}
use mathlib.Core.Logic.{◌⊎◌, inl, inr, ⊎_elim}
use Prim.Native.Nat.{ℕ, ◌+◌, ◌*◌, ◌≤◌, ◌<◌}
use native.Mathlib.Nat.{le_refl}
use native.Mathlib.Omega.{arith}
use lib.Dec.{ltb}
use borrow.Author.Tests.{ltb-true, ltb-false}
use Rattle.records.proofs.Cases.{true_or_false}
use Rattle.modules.specs.declared.Module.{Module}
use Rattle.modules.specs.Model.{Chain}
use Rattle.figures.specs.declared.Slowest.{Slowest}
use Rattle.figures.specs.Model.{response_of, slower_of, slowest_from, bottleneck}
use Rattle.figures.specs.Rules.{covers}
use Rattle.figures.specs.Claims.{loads, AtMost, Below, IsBottleneck}
use Rattle.figures.proofs.Covering.{covers_head}
use Rattle.figures.proofs.Fractions.{le_le, le_lt, lt_le}

-- the slowest of x and the list, from the left
unfoldable pub top : Slowest → List Slowest → Slowest
top x [] = x
top x (y ∷ ys) = top (slower_of x y) ys

-- numbers rise along the list, and each has a copy
abbrev pub Rising : ℕ → List Slowest → Type 0
Rising n [] = Unit {0}
Rising n (y ∷ ys) = (n < y.number) × (1 ≤ y.copies) × Rising y.number ys

rising_weaker : (m n : ℕ) (ys : List Slowest) → m ≤ n → Rising n ys → Rising m ys
rising_weaker m n [] h r = tt
rising_weaker m n (y ∷ ys) h r = (omega arith, r.1, r.2)

slower_cases : (x y : Slowest) → ((slower_of x y ≡ y) × Below x y) ⊎ ((slower_of x y ≡ x) × AtMost y x)
unfolding slower_of
slower_cases x y = ⊎_elim
    (λ (t : ltb (x.response * y.copies) (y.response * x.copies) ≡ true). inl (simp t, ltb-true _ _ t))
    (λ (t : ltb (x.response * y.copies) (y.response * x.copies) ≡ false). inr (simp t, ltb-false _ _ t))
    (true_or_false (ltb (x.response * y.copies) (y.response * x.copies)))

copied : (x : Slowest) (ys : List Slowest) → 1 ≤ x.copies → Rising x.number ys → 1 ≤ (top x ys).copies
unfolding top
copied x [] p r = p
copied x (y ∷ ys) p r = ⊎_elim
    (λ s. subst (λ (v : Slowest). 1 ≤ (top v ys).copies) (sym s.0) (copied y ys r.1 r.2))
    (λ s. subst (λ (v : Slowest). 1 ≤ (top v ys).copies) (sym s.0) (copied x ys p (rising_weaker x.number y.number ys (omega arith) r.2)))
    (slower_cases x y)

module _ (x y z : Slowest) (ys : List Slowest) (px : 1 ≤ x.copies) (py : 1 ≤ y.copies) (pz : 1 ≤ z.copies) (rises : x.number < y.number) where
  -- z is the top of y and the rest, and x is below y
  past_slower : Below x y → IsBottleneck (y ∷ ys) z → IsBottleneck (x ∷ (y ∷ ys)) z
  past_slower b t =
      let h = lt_le x.response x.copies y.response y.copies z.response z.copies py b (t.most y (Memᴰ.head refl)) pz in
      record {
        one = Memᴰ.tail t.one;
        most = λ w m. ⊎_elim (λ d. rw d (omega arith)) (t.most w) (Memᴰ.cases_cons m);
        first = λ w m l. ⊎_elim (λ d. rw d h) (λ n. t.first w n l) (Memᴰ.cases_cons m);
      }

  past_faster : AtMost y x → IsBottleneck (x ∷ ys) z → IsBottleneck (x ∷ (y ∷ ys)) z
  past_faster b t = record {
    one = ⊎_elim (λ e. Memᴰ.head e) (λ n. Memᴰ.tail (Memᴰ.tail n)) (Memᴰ.cases_cons t.one);
    most = λ w m. ⊎_elim
        (λ d. rw d (t.most x (Memᴰ.head refl)))
        (λ (n : Memᴰ w (y ∷ ys)). ⊎_elim (λ d. rw d (le_le y.response y.copies x.response x.copies z.response z.copies px b (t.most x (Memᴰ.head refl))))
        (λ o. t.most w (Memᴰ.tail o)) (Memᴰ.cases_cons n))
        (Memᴰ.cases_cons m);
    first = λ w m l. ⊎_elim
        (λ d. rw d (t.first x (Memᴰ.head refl) (omega (arith, ap (λ (v : Slowest). v.number) d))))
        (λ (n : Memᴰ w (y ∷ ys)). ⊎_elim
        (λ d. rw d (le_lt y.response y.copies x.response x.copies z.response z.copies px b
        (t.first x (Memᴰ.head refl) (omega (arith, ap (λ (v : Slowest). v.number) d))) py))
        (λ o. t.first w (Memᴰ.tail o) l) (Memᴰ.cases_cons n))
        (Memᴰ.cases_cons m);
  }

top_is : (x : Slowest) (ys : List Slowest) → 1 ≤ x.copies → Rising x.number ys → IsBottleneck (x ∷ ys) (top x ys)
unfolding top
top_is x [] p r = record {
  one = Memᴰ.head refl;
  most = λ y m. ⊎_elim (λ e. rw e (le_refl _)) (λ n. absurd (Memᴰ.not-nil n)) (Memᴰ.cases_cons m);
  first = λ y m l. ⊎_elim (λ e. absurd (omega (arith, ap (λ (z : Slowest). z.number) e))) (λ n. absurd (Memᴰ.not-nil n)) (Memᴰ.cases_cons m);
}
top_is x (y ∷ ys) p r = ⊎_elim
    (λ s. subst (λ (v : Slowest). IsBottleneck (x ∷ (y ∷ ys)) (top v ys)) (sym s.0) (past_slower x y (top y ys) ys p r.1 (copied y ys r.1 r.2) r.0 s.1 (top_is y ys r.1 r.2)))
    (λ s. let u = rising_weaker x.number y.number ys (omega arith) r.2 in
    subst (λ (v : Slowest). IsBottleneck (x ∷ (y ∷ ys)) (top v ys)) (sym s.0) (past_faster x y (top x ys) ys p r.1 (copied x ys p u) r.0 s.1 (top_is x ys p u)))
    (slower_cases x y)

-- ---- the modules of a plan

slowest_top : (c : Chain) (ms : List Module) (s n : ℕ) (x : Slowest) → slowest_from c s n x ms ≡ top x (loads c s n ms)
unfolding slowest_from loads top
slowest_top c [] s n x = refl
slowest_top c (m ∷ ms) s n x = slowest_top c ms m.cores (n + 1) (slower_of x (record { number = n; response = response_of c s m ms; copies = m.copies }))

loads_rise : (c : Chain) (k t : ℕ) (ms : List Module) (s n : ℕ) → covers k t ms ≡ true → Rising n (loads c s (n + 1) ms)
unfolding loads
loads_rise c k t [] s n e = tt
loads_rise c k t (m ∷ ms) s n e = let h = covers_head k t m ms e in (omega arith, h.3, loads_rise c k (m.last + 1) ms m.cores (n + 1) h.5)

pub bottleneck_is : (c : Chain) (k t : ℕ) (m : Module) (ms : List Module) → covers k t (m ∷ ms) ≡ true → IsBottleneck (loads c 0 1 (m ∷ ms)) (bottleneck c (m ∷ ms))
unfolding bottleneck loads
bottleneck_is c k t m ms e =
    let x : Slowest = record { number = 1; response = response_of c 0 m ms; copies = m.copies } in
    let h = covers_head k t m ms e in
    rw (slowest_top c ms m.cores 2 x) (top_is x (loads c m.cores 2 ms) h.3 (loads_rise c k (m.last + 1) ms m.cores 1 h.5))
