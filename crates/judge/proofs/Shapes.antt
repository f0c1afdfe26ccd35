-- Refusal 12 and plan bytes: bytes of the right shape say modules that cover the chain, and encode to the same bytes; the bytes of
-- modules that cover the chain have the right shape. By induction along the records. Assumes nothing.
use mathlib.Core.Path.{◌≡◌, refl, ap, ◌∙◌}
use mathlib.Core.Bool.{Bool, true, false, cond}
use mathlib.Core.List.{List, [], ◌∷◌}
use mathlib.Core.Logic.{⊎_elim}
use Prim.Native.Nat.{ℕ, zero, suc, ◌+◌, ◌*◌, ◌≤◌}
use native.Mathlib.Omega.{arith}
use lib.ListN.{length, get_or, take, drop}
use lib.Dec.{eqb}
use borrow.Author.Tests.{eq-eqb, ne_eqb, le-leb, eqb-true, eqb-false, leb-true}
use Rattle.records.proofs.Cases.{true_or_false, and-true}
use Rattle.modules.specs.declared.Module.{Module}
use Rattle.layout.specs.Layout.{most_modules, plan_bytes, module_at, modules_of, encode, encode_plan}
use Rattle.figures.specs.Rules.{covers}
use Rattle.figures.proofs.Covering.{covers_head, covers_end, covers_cons, covers_nil, covers_length}
use Rattle.figures.proofs.Decoding.{take_record, rest, rest_here, rest_next, rest_all, record_is, decode_plan}
use Rattle.judge.specs.Judge.{is_blank, is_module, blank_fault, shape_fault}

-- ---- from bytes to modules

blank_true : (m : Module) → is_blank m ≡ true → (m.first ≡ 0) × (m.last ≡ 0) × (m.copies ≡ 0) × (m.cores ≡ 0)
unfolding is_blank
blank_true m e =
    let h₃ = and-true _ _ e in
    let h₂ = and-true _ _ h₃.0 in
    let h₁ = and-true _ _ h₂.0 in
    (eqb-true _ _ h₁.0, eqb-true _ _ h₁.1, eqb-true _ _ h₂.1, eqb-true _ _ h₃.1)

pub module_true : (k due : ℕ) (m : Module) → is_module k due m ≡ true → (m.first ≡ due) × (m.first ≤ m.last) × (m.last ≤ k) × (1 ≤ m.copies) × (1 ≤ m.cores)
unfolding is_module
module_true k due m e =
    let h₄ = and-true _ _ e in
    let h₃ = and-true _ _ h₄.0 in
    let h₂ = and-true _ _ h₃.0 in
    let h₁ = and-true _ _ h₂.0 in
    (eqb-true _ _ h₁.0, leb-true _ _ h₁.1, leb-true _ _ h₂.1, leb-true _ _ h₃.1, leb-true _ _ h₄.1)

-- a fault is not 0
test_holds : (t : Bool) (x i : ℕ) → cond t x (i + 1) ≡ 0 → (t ≡ true) × (x ≡ 0)
test_holds true x i e = (refl, e)
test_holds false x i e = absurd (omega arith)

blank_bytes : (w : List ℕ) (n i : ℕ) → 4 * (i + n) ≤ length w → blank_fault w i n ≡ 0 → encode n [] ≡ take (4 * n) (drop (4 * i) w)
unfolding blank_fault encode
blank_bytes w zero i h e = refl
blank_bytes w (suc n) i h e =
    let t = test_holds (is_blank (module_at w i)) (blank_fault w (i + 1) n) i e in
    let z = blank_true (module_at w i) t.0 in
    rw (take_record w i n (omega arith), z.0, z.1, z.2, z.3, blank_bytes w n (i + 1) (omega arith) t.1)

module _ (w : List ℕ) (k : ℕ) where
  -- the shape is right, so the modules cover the tasks from the due one on, and encode to the bytes
  shape_modules : (n due i : ℕ) → 4 * (i + n) ≤ length w → shape_fault k w due i n ≡ 0
      → (covers k due (rest w k i n) ≡ true) × (encode n (rest w k i n) ≡ take (4 * n) (drop (4 * i) w))
  unfolding shape_fault encode
  shape_modules zero due i h e = absurd (omega arith)
  shape_modules (suc n) due i h e =
      let m = module_at w i in
      let t = test_holds (is_module k due m) (cond (eqb m.last k) (blank_fault w (i + 1) n) (shape_fault k w (m.last + 1) (i + 1) n)) i e in
      let z = module_true k due m t.0 in
      ⊎_elim
      (λ (u : eqb m.last k ≡ true).
      let l = eqb-true m.last k u in
      let b : blank_fault w (i + 1) n ≡ 0 = simp u at t.1 in
      rw (rest_here w k i n l) (
        covers_cons k due m [] z.0 z.1 z.2 z.3 z.4 (covers_nil k (m.last + 1) (omega arith)),
        rw (take_record w i n (omega arith), blank_bytes w n (i + 1) (omega arith) b),
      ))
      (λ (u : eqb m.last k ≡ false).
      let l = eqb-false m.last k u in
      let b : shape_fault k w (m.last + 1) (i + 1) n ≡ 0 = simp u at t.1 in
      let g = shape_modules n (m.last + 1) (i + 1) (omega arith) b in
      rw (rest_next w k i n l) (
        covers_cons k due m (rest w k (i + 1) n) z.0 z.1 z.2 z.3 z.4 g.0,
        rw (take_record w i n (omega arith), g.1),
      ))
      (true_or_false (eqb m.last k))

  -- ---- from modules to bytes

  bytes_blank : (n i : ℕ) → 4 * (i + n) ≤ length w → encode n [] ≡ take (4 * n) (drop (4 * i) w) → blank_fault w i n ≡ 0
  unfolding blank_fault encode is_blank
  bytes_blank zero i h e = refl
  bytes_blank (suc n) i h e =
      let d = e ∙ take_record w i n (omega arith) in
      let a₀ : 0 ≡ get_or w (4 * i) 0 = cc in
      let a₁ : 0 ≡ get_or w (4 * i + 1) 0 = cc in
      let a₂ : 0 ≡ get_or w (4 * i + 2) 0 = cc in
      let a₃ : 0 ≡ get_or w (4 * i + 3) 0 = cc in
      let t : encode n [] ≡ take (4 * n) (drop (4 * (i + 1)) w) = cc in
      simp (← a₀, ← a₁, ← a₂, ← a₃) (bytes_blank n (i + 1) (omega arith) t)

  module_holds : (due : ℕ) (m : Module) → m.first ≡ due → m.first ≤ m.last → m.last ≤ k → 1 ≤ m.copies → 1 ≤ m.cores → is_module k due m ≡ true
  unfolding is_module
  module_holds due m a b c d e = simp (eq-eqb m.first due a, le-leb m.first m.last b, le-leb m.last k c, le-leb 1 m.copies d, le-leb 1 m.cores e)

  -- the bytes of modules that cover the tasks from the due one on have the right shape
  modules_shape : (ms : List Module) (n due i : ℕ) → 4 * (i + n) ≤ length w → covers k due ms ≡ true → due ≤ k → length ms ≤ n
      → encode n ms ≡ take (4 * n) (drop (4 * i) w) → shape_fault k w due i n ≡ 0
  unfolding shape_fault encode
  modules_shape [] n due i h c d l e = absurd (omega (arith, covers_end k due c))
  modules_shape (m ∷ []) zero due i h c d l e = absurd (omega arith)
  modules_shape (m ∷ (x ∷ ms)) zero due i h c d l e = absurd (omega arith)
  modules_shape (m ∷ []) (suc n) due i h c d l e =
      let z = covers_head k due m [] c in
      let r = record_is w k m (encode n []) n i (omega arith) e in
      let q : (module_at w i).last ≡ k = omega (arith, ap (λ (y : Module). y.last) r.0, covers_end k (m.last + 1) z.5) in
      simp (ap (is_module k due) r.0, module_holds due m z.0 z.1 z.2 z.3 z.4, eq-eqb (module_at w i).last k q) (bytes_blank n (i + 1) (omega arith) r.1)
  modules_shape (m ∷ (x ∷ ms)) (suc n) due i h c d l e =
      let z = covers_head k due m (x ∷ ms) c in
      let y = covers_head k (m.last + 1) x ms z.5 in
      let r = record_is w k m (encode n (x ∷ ms)) n i (omega arith) e in
      let last = ap (λ (v : Module). v.last) r.0 in
      let q : (module_at w i).last ≡ k → ⊥ = λ p. omega (arith, last, y.0, y.1, y.2) in
      let g = modules_shape (x ∷ ms) n (m.last + 1) (i + 1) (omega arith) z.5 (omega (arith, y.0, y.1, y.2)) (omega arith) r.1 in
      simp (ap (is_module k due) r.0, module_holds due m z.0 z.1 z.2 z.3 z.4, ne_eqb (module_at w i).last k q) (rw last g)

-- ---- whole plan bytes

module _ (k : ℕ) (w : List ℕ) (long : plan_bytes ≤ length w) where
  pub shape_plan : shape_fault k w 1 0 most_modules ≡ 0 → (covers k 1 (modules_of w k) ≡ true) × (encode_plan (modules_of w k) ≡ take plan_bytes w)
  shape_plan e = rw (rest_all w k) at (shape_modules w k most_modules 1 0 long e)

  pub plan_shape : (ms : List Module) → 1 ≤ k → k ≤ most_modules → covers k 1 ms ≡ true → encode_plan ms ≡ take plan_bytes w → (shape_fault k w 1 0 most_modules ≡ 0) × (modules_of w k ≡ ms)
  plan_shape ms h i c e = (modules_shape w k ms most_modules 1 0 long c h (omega (arith, covers_length k 1 ms c)) e, decode_plan k w long ms h c i e)
