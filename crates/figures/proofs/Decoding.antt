-- Plan bytes back to modules: the bytes of modules that cover the chain say those modules. By induction along the records. Assumes
-- nothing.
use mathlib.Core.Path.{◌≡◌, refl, sym, ap, ◌∙◌}
use mathlib.Core.Bool.{true}
use mathlib.Core.List.{List, [], ◌∷◌}
use mathlib.Core.Logic.{⊎_elim}
use Prim.Native.Nat.{ℕ, zero, suc, ◌+◌, ◌-◌, ◌*◌, ◌≤◌, ◌<◌}
use native.Mathlib.Numerals.{add-one}
use native.Mathlib.Omega.{arith}
use lib.ListN.{length, get_or, take, drop}
use lib.Seq.{drop-cons, take_all}
use lib.Dec.{eqb}
use borrow.Author.Tests.{eqb-true, eqb-false}
use Rattle.records.proofs.Cases.{true_or_false}
use Rattle.modules.specs.declared.Module.{Module}
use Rattle.layout.specs.Layout.{most_modules, plan_bytes, module_at, count_from, module_count, modules_from, modules_of, encode, encode_plan}
use Rattle.layout.proofs.Placing.{encode_length}
use Rattle.layout.proofs.Turns.{count_found, count_on}
use Rattle.figures.specs.Rules.{covers}
use Rattle.figures.proofs.Covering.{covers_head, covers_end, covers_length}

-- ---- four bytes at a time

take_byte : (w : List ℕ) (n j i : ℕ) → j < length w → j + 1 ≡ i → take (suc n) (drop j w) ≡ get_or w j 0 ∷ take n (drop i w)
take_byte w n j i h e = rw (drop-cons w j 0 h, ← e, add-one j)

pub take_record : (w : List ℕ) (i n : ℕ) → 4 * i + 4 ≤ length w
    → take (4 * suc n) (drop (4 * i) w) ≡ get_or w (4 * i) 0 ∷ (get_or w (4 * i + 1) 0 ∷ (get_or w (4 * i + 2) 0 ∷ (get_or w (4 * i + 3) 0 ∷ take (4 * n) (drop (4 * (i + 1)) w))))
take_record w i n h =
    let m = 4 * n in
    let e : 4 * suc n ≡ suc (suc (suc (suc m))) = omega arith in
    ap (λ (x : ℕ). take x (drop (4 * i) w)) e
    ∙ take_byte w (suc (suc (suc m))) (4 * i) (4 * i + 1) (omega arith) refl
    ∙ ap (λ (x : List ℕ). get_or w (4 * i) 0 ∷ x) (take_byte w (suc (suc m)) (4 * i + 1) (4 * i + 2) (omega arith) (omega arith)
    ∙ ap (λ (x : List ℕ). get_or w (4 * i + 1) 0 ∷ x) (take_byte w (suc m) (4 * i + 2) (4 * i + 3) (omega arith) (omega arith)
    ∙ ap (λ (x : List ℕ). get_or w (4 * i + 2) 0 ∷ x) (take_byte w m (4 * i + 3) (4 * (i + 1)) (omega arith) (omega arith))))

-- ---- the records up to the one that ends at k

module _ (w : List ℕ) (k : ℕ) where
  count_ge : (n i : ℕ) → i ≤ count_from w k i n
  unfolding count_from
  count_ge zero i = omega arith
  count_ge (suc n) i = ⊎_elim
      (λ t. let e = eqb-true (module_at w i).last k t in omega (arith, count_found w k i n e))
      (λ t. let e = eqb-false (module_at w i).last k t in omega (arith, count_on w k i n e, count_ge n (i + 1)))
      (true_or_false (eqb (module_at w i).last k))

  -- the modules from record i on, of which there are n
  abbrev pub rest : ℕ → ℕ → List Module
  rest i n = modules_from w i (count_from w k i n - i)

  pub rest_here : (i n : ℕ) → (module_at w i).last ≡ k → rest i (suc n) ≡ module_at w i ∷ []
  unfolding modules_from
  rest_here i n e = let d : count_from w k i (suc n) - i ≡ 1 = omega (arith, count_found w k i n e) in rw d

  pub rest_next : (i n : ℕ) → ((module_at w i).last ≡ k → ⊥) → rest i (suc n) ≡ module_at w i ∷ rest (i + 1) n
  unfolding modules_from
  rest_next i n e =
      let d : count_from w k i (suc n) - i ≡ suc (count_from w k (i + 1) n - (i + 1)) = omega (arith, count_on w k i n e, count_ge n (i + 1)) in
      rw d

  pub rest_all : rest 0 most_modules ≡ modules_of w k
  unfolding modules_of module_count
  rest_all = let d : count_from w k 0 most_modules - 0 ≡ count_from w k 0 most_modules = omega arith in rw d

  -- a record that is the module m
  pub record_is : (m : Module) (bytes : List ℕ) (n i : ℕ) → 4 * i + 4 ≤ length w → m.first ∷ (m.last ∷ (m.copies ∷ (m.cores ∷ bytes))) ≡ take (4 * suc n) (drop (4 * i) w)
      → (module_at w i ≡ m) × (bytes ≡ take (4 * n) (drop (4 * (i + 1)) w))
  record_is m bytes n i h e =
      let d = e ∙ take_record w i n h in
      let a₀ : get_or w (4 * i) 0 ≡ m.first = cc in
      let a₁ : get_or w (4 * i + 1) 0 ≡ m.last = cc in
      let a₂ : get_or w (4 * i + 2) 0 ≡ m.copies = cc in
      let a₃ : get_or w (4 * i + 3) 0 ≡ m.cores = cc in
      (λ j. record { first = a₀ j; last = a₁ j; copies = a₂ j; cores = a₃ j }, cc)

  -- the bytes of modules that cover the tasks from the due one on say those modules
  modules_rest : (ms : List Module) (n due i : ℕ) → 4 * (i + n) ≤ length w → covers k due ms ≡ true → due ≤ k → length ms ≤ n
      → encode n ms ≡ take (4 * n) (drop (4 * i) w) → rest i n ≡ ms
  unfolding encode
  modules_rest [] n due i h c d l e = absurd (omega (arith, covers_end k due c))
  modules_rest (m ∷ []) zero due i h c d l e = absurd (omega arith)
  modules_rest (m ∷ (x ∷ ms)) zero due i h c d l e = absurd (omega arith)
  modules_rest (m ∷ []) (suc n) due i h c d l e =
      let z = covers_head k due m [] c in
      let r = record_is m (encode n []) n i (omega arith) e in
      rest_here i n (omega (arith, ap (λ (y : Module). y.last) r.0, covers_end k (m.last + 1) z.5)) ∙ ap (λ (y : Module). y ∷ []) r.0
  modules_rest (m ∷ (x ∷ ms)) (suc n) due i h c d l e =
      let z = covers_head k due m (x ∷ ms) c in
      let y = covers_head k (m.last + 1) x ms z.5 in
      let r = record_is m (encode n (x ∷ ms)) n i (omega arith) e in
      let q : (module_at w i).last ≡ k → ⊥ = λ p. omega (arith, ap (λ (v : Module). v.last) r.0, y.0, y.1, y.2) in
      let g = modules_rest (x ∷ ms) n (m.last + 1) (i + 1) (omega arith) z.5 (omega (arith, y.0, y.1, y.2)) (omega arith) r.1 in
      rest_next i n q ∙ (λ j. r.0 j ∷ g j)

-- ---- whole plan bytes

pub decode_plan : (k : ℕ) (w : List ℕ) → plan_bytes ≤ length w → (ms : List Module) → 1 ≤ k → covers k 1 ms ≡ true → k ≤ most_modules
    → encode_plan ms ≡ take plan_bytes w → modules_of w k ≡ ms
decode_plan k w long ms h c i e = rw (rest_all w k) at (modules_rest w k ms most_modules 1 0 long c h (omega (arith, covers_length k 1 ms c)) e)

-- encoding then decoding gives the modules back
pub decode_encode : (k : ℕ) (ms : List Module) → 1 ≤ k → k ≤ most_modules → covers k 1 ms ≡ true → modules_of (encode_plan ms) k ≡ ms
decode_encode k ms h i c =
    let l = encode_length most_modules ms in
    decode_plan k (encode_plan ms) (omega arith) ms h c i (sym (take_all plan_bytes (encode_plan ms) (omega arith)))
