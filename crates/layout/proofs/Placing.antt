-- Plans and modules placed in plan bytes: one module more after the others, by induction along the records, and a whole plan at the
-- start of lent bytes. Assumes nothing.
use mathlib.Core.Path.{◌≡◌, refl, ap}
use mathlib.Core.List.{List, [], ◌∷◌, ◌++◌}
use Prim.Native.Nat.{ℕ, zero, suc, ◌*◌, ◌≤◌, ◌<◌}
use native.Mathlib.Omega.{arith}
use lib.ListN.{length, drop}
use lib.Seq.{sets}
use borrow.Author.Tests.{lt-ltb, le-leb}
use Rattle.modules.specs.declared.Module.{Module}
use Rattle.layout.specs.Layout.{most_modules, plan_bytes, encode, encode_plan, put_module, put_plan}

pub encode_length : (n : ℕ) (ms : List Module) → length (encode n ms) ≡ 4 * n
unfolding encode
encode_length zero ms = refl
encode_length (suc n) [] = omega (arith, encode_length n [])
encode_length (suc n) (m ∷ ms) = omega (arith, encode_length n ms)

-- ---- a module after the others

four_more : (i : ℕ) → 4 * suc i ≡ suc (suc (suc (suc (4 * i))))
four_more i = omega arith

put_next : (m : Module) (n : ℕ) (ms : List Module) → length ms < n
    → sets (encode n ms) (4 * length ms) (m.first ∷ (m.last ∷ (m.copies ∷ (m.cores ∷ [])))) ≡ encode n (ms ++ (m ∷ []))
unfolding encode
put_next m zero ms h = absurd (omega arith)
put_next m (suc n) [] h = refl
put_next m (suc n) (x ∷ ms) h =
    rw (four_more (length ms)) (ap (λ (t : List ℕ). x.first ∷ (x.last ∷ (x.copies ∷ (x.cores ∷ t)))) (put_next m n ms (omega arith)))

pub put_bytes : (m : Module) (ms : List Module) (i : ℕ) → length ms ≡ i → i < most_modules → put_module (encode_plan ms) i m ≡ encode_plan (ms ++ (m ∷ []))
unfolding put_module
put_bytes m ms i e h =
    let l = encode_length most_modules ms in
    rw (← e) (simp (lt-ltb (length ms) most_modules (omega arith), le-leb plan_bytes (length (encode_plan ms)) (omega arith)) (put_next m most_modules ms (omega arith)))

-- ---- a whole plan

pub put_room : (v w : List ℕ) → plan_bytes ≤ length w → put_plan v w ≡ v ++ drop plan_bytes w
unfolding put_plan
put_room v w h = rw (le-leb plan_bytes (length w) h) (refl)
