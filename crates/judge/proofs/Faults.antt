-- Judge's places: each walk finds the first record or module at fault, and that only. Assumes nothing.
use mathlib.Core.Path.{◌≡◌, refl, sym, ap, subst, ◌∙◌}
use mathlib.Core.Bool.{Bool, true, false}
use mathlib.Core.List.{List, [], ◌∷◌}
use mathlib.Core.Logic.{◌↔◌, ⊎_elim}
use Prim.Native.Nat.{ℕ, zero, suc, ◌+◌, ◌≤◌, ◌<◌}
use native.Mathlib.Numerals.{add-one}
use native.Mathlib.Omega.{arith}
use lib.ListN.{length, get_or}
use lib.Dec.{eqb}
use borrow.Author.Tests.{eqb-true, eqb-false}
use Rattle.records.proofs.Cases.{true_or_false, true_not_false, lt_or_le}
use Rattle.modules.specs.declared.Module.{Module}
use Rattle.layout.specs.Layout.{most_modules, module_at}
use Rattle.judge.specs.Judge.{is_blank, is_module, blank_fault, shape_fault, first_failing}
use Rattle.judge.specs.Claims.{due_task, Ended, RightRecord, RightShape, WrongShape, no_module, AllPass, FailsAt}
use Rattle.judge.proofs.Shapes.{module_true}

-- ---- the shape of the records

-- 0 where the shape is right, else the place of the first record at fault, counted from 1
pub data Shaped (k : ℕ) (w : List ℕ) : ℕ → Type 0 where
  right : RightShape k w → Shaped k w 0
  wrong : (i : ℕ) → WrongShape k w i → Shaped k w (i + 1)

module _ (k : ℕ) (w : List ℕ) where
  right_more : (i : ℕ) → ((j : ℕ) → j < i → RightRecord k w j) → RightRecord k w i → (j : ℕ) → j < suc i → RightRecord k w j
  right_more i h r j l = ⊎_elim (λ m. h j m) (λ m. let e : j ≡ i = omega arith in rw e r) (lt_or_le j i)

  blank_from : (n i : ℕ) → i + n ≡ most_modules → ((j : ℕ) → j < i → RightRecord k w j) → Ended k w i → Shaped k w (blank_fault w i n)
  unfolding blank_fault
  blank_from zero i e h d = right (record { right = λ j l. h j (omega arith) })
  blank_from (suc n) i e h d = ⊎_elim
      (λ (t : is_blank (module_at w i) ≡ true).
      let r : RightRecord k w i = record { behind = λ _. t; up_to = λ x. absurd (x d) } in
      rw (t, add-one i) (blank_from n (suc i) (omega arith) (right_more i h r) (record { at = d.at; before = omega (arith, d.before); ends = d.ends })))
      (λ (t : is_blank (module_at w i) ≡ false).
      rw t (wrong i (record { there = omega arith; before = h; wrong = λ r. true_not_false _ (r.behind d) t })))
      (true_or_false (is_blank (module_at w i)))

  not_ended : (i : ℕ) → (Ended k w i → ⊥) → ((module_at w i).last ≡ k → ⊥) → Ended k w (suc i) → ⊥
  not_ended i h e d = ⊎_elim
      (λ l. h (record { at = d.at; before = l; ends = d.ends }))
      (λ l. let q : d.at ≡ i = omega (arith, d.before) in e (ap (λ (j : ℕ). (module_at w j).last) (sym q) ∙ d.ends))
      (lt_or_le d.at i)

  shape_from : k ≤ most_modules → (n i : ℕ) → i + n ≡ most_modules → ((j : ℕ) → j < i → RightRecord k w j) → (Ended k w i → ⊥) → i + 1 ≤ due_task w i → due_task w i ≤ k
      → Shaped k w (shape_fault k w (due_task w i) i n)
  unfolding shape_fault due_task
  shape_from b zero i e h d u v = absurd (omega arith)
  shape_from b (suc n) i e h d u v = ⊎_elim
      (λ (t : is_module k (due_task w i) (module_at w i) ≡ true).
      let r : RightRecord k w i = record { behind = λ x. absurd (d x); up_to = λ _. t } in
      let z = module_true k (due_task w i) (module_at w i) t in
      ⊎_elim
      (λ (q : eqb (module_at w i).last k ≡ true).
      rw (t, q, add-one i) (blank_from n (suc i) (omega arith) (right_more i h r) (record { at = i; before = omega arith; ends = eqb-true _ _ q })))
      (λ (q : eqb (module_at w i).last k ≡ false).
      let p = eqb-false (module_at w i).last k q in
      rw (t, q, add-one i) (shape_from b n (suc i) (omega arith) (right_more i h r) (not_ended i d p) (omega (arith, z.0, z.1)) (omega (arith, z.2))))
      (true_or_false (eqb (module_at w i).last k)))
      (λ (t : is_module k (due_task w i) (module_at w i) ≡ false).
      rw t (wrong i (record { there = omega arith; before = h; wrong = λ r. true_not_false _ (r.up_to d) t })))
      (true_or_false (is_module k (due_task w i) (module_at w i)))

  pub shaped : 1 ≤ k → k ≤ most_modules → Shaped k w (shape_fault k w 1 0 most_modules)
  unfolding due_task
  shaped a b = shape_from b most_modules 0 (omega arith) (λ j l. absurd (omega arith)) (λ d. omega (arith, d.before)) (omega arith) a

  -- one answer fits
  pub shaped_one : (a b : ℕ) → Shaped k w a → Shaped k w b → a ≡ b
  shaped_one a b (right r) (right q) = refl
  shaped_one a b (right r) (wrong j q) = absurd (q.wrong (r.right j q.there))
  shaped_one a b (wrong i r) (right q) = absurd (r.wrong (q.right i r.there))
  shaped_one a b (wrong i r) (wrong j q) = ⊎_elim
      (λ l. absurd (r.wrong (q.before i l)))
      (λ l. ⊎_elim (λ m. absurd (q.wrong (r.before j m))) (λ m. omega arith) (lt_or_le j i))
      (lt_or_le i j)

-- ---- a test of each module

-- 0 where every module passes, else the number of the first that does not, counted from n
pub data Failing (f : Module → Bool) (ms : List Module) (n : ℕ) : ℕ → Type 0 where
  none : AllPass f ms → Failing f ms n 0
  first : (i : ℕ) → FailsAt f ms i → Failing f ms n (n + i)

module _ (f : Module → Bool) where
  pub pass_rest : (m : Module) (ms : List Module) → AllPass f (m ∷ ms) → AllPass f ms
  pass_rest m ms a = record { passes = λ i l. a.passes (suc i) (omega arith) }

  pass_more : (m : Module) (ms : List Module) → f m ≡ true → AllPass f ms → AllPass f (m ∷ ms)
  pass_more m ms t a = record { passes = at }
    where
      at : (i : ℕ) → i < length (m ∷ ms) → f (get_or (m ∷ ms) i no_module) ≡ true
      at zero l = t
      at (suc i) l = a.passes i (omega arith)

  fails_later : (m : Module) (ms : List Module) (i : ℕ) → f m ≡ true → FailsAt f ms i → FailsAt f (m ∷ ms) (suc i)
  fails_later m ms i t a = record { there = omega (arith, a.there); before = at; fails = a.fails }
    where
      at : (j : ℕ) → j < suc i → f (get_or (m ∷ ms) j no_module) ≡ true
      at zero l = t
      at (suc j) l = a.before j (omega arith)

  failing_later : (m : Module) (ms : List Module) (n a : ℕ) → f m ≡ true → Failing f ms (n + 1) a → Failing f (m ∷ ms) n a
  failing_later m ms n a t (none h) = none (pass_more m ms t h)
  failing_later m ms n a t (first i h) = let e : n + 1 + i ≡ n + suc i = omega arith in rw e (first (suc i) (fails_later m ms i t h))

  failing_here : (m : Module) (ms : List Module) (n : ℕ) → f m ≡ false → Failing f (m ∷ ms) n n
  failing_here m ms n t =
      let e : n ≡ n + 0 = omega arith in
      let h : FailsAt f (m ∷ ms) 0 = record { there = omega arith; before = λ j l. absurd (omega arith); fails = t } in
      subst (Failing f (m ∷ ms) n) (sym e) (first 0 h)

  pub failing : (ms : List Module) (n : ℕ) → Failing f ms n (first_failing f n ms)
  unfolding first_failing
  failing [] n = none (record { passes = λ i l. absurd (omega arith) })
  failing (m ∷ ms) n = ⊎_elim
      (λ (t : f m ≡ true). rw t (failing_later m ms n (first_failing f (n + 1) ms) t (failing ms (n + 1))))
      (λ (t : f m ≡ false). rw t (failing_here m ms n t))
      (true_or_false (f m))

  pub failing_one : (ms : List Module) (n a b : ℕ) → Failing f ms n a → Failing f ms n b → a ≡ b
  failing_one ms n a b (none h) (none i) = refl
  failing_one ms n a b (none h) (first j i) = true_not_false _ (h.passes j i.there) i.fails
  failing_one ms n a b (first j h) (none i) = true_not_false _ (i.passes j h.there) h.fails
  failing_one ms n a b (first i h) (first j g) = ⊎_elim
      (λ l. true_not_false _ (g.before i l) h.fails)
      (λ l. ⊎_elim (λ m. true_not_false _ (h.before j m) g.fails) (λ m. omega arith) (lt_or_le j i))
      (lt_or_le i j)

  pub first_fails : (ms : List Module) (i : ℕ) → (first_failing f 1 ms ≡ i + 1) ↔ FailsAt f ms i
  first_fails ms i = (
    λ e. at (first_failing f 1 ms) e (failing ms 1),
    λ h. failing_one ms 1 (first_failing f 1 ms) (1 + i) (failing ms 1) (first i h) ∙ omega arith,
  )
    where
      at : (a : ℕ) → a ≡ i + 1 → Failing f ms 1 a → FailsAt f ms i
      at a e (none h) = absurd (omega arith)
      at a e (first j h) = let d : j ≡ i = omega arith in rw (← d) h

  pub none_fails : (ms : List Module) → (first_failing f 1 ms ≡ 0) ↔ AllPass f ms
  none_fails ms = (λ e. passing (first_failing f 1 ms) e (failing ms 1), λ h. failing_one ms 1 (first_failing f 1 ms) 0 (failing ms 1) (none h))
    where
      passing : (a : ℕ) → a ≡ 0 → Failing f ms 1 a → AllPass f ms
      passing a e (none h) = h
      passing a e (first i h) = absurd (omega arith)
