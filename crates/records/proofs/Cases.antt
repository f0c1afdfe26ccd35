-- Cases on numbers and tests. Assumes nothing.
use mathlib.Core.Path.{◌≡◌, refl, sym}
use mathlib.Core.Bool.{Bool, true, false, ◌&&◌, ◌||◌}
use mathlib.Core.Logic.{◌⊎◌, inl, inr}
use Rattle.std.specs.Prelude.{Result, Ok, Err}
use Prim.Native.Nat.{ℕ, zero, suc, ◌*◌, ◌≤◌, ◌<◌}
use native.Mathlib.Nat.{mul-zero}
use native.Mathlib.Decide.{dec_lt}
use native.Mathlib.Omega.{arith}

pub lt_or_le : (a b : ℕ) → (a < b) ⊎ (b ≤ a)
lt_or_le a b = elim (dec_lt a b) [ yes h ↦ inl h | no h ↦ inr (omega arith) ]

pub pos_of_lt_mul : (n k p : ℕ) → n < k * p → 1 ≤ p
pos_of_lt_mul n k zero h = absurd (omega (arith, mul-zero k))
pos_of_lt_mul n k (suc p) h = omega arith

pub true_or_false : (t : Bool) → (t ≡ true) ⊎ (t ≡ false)
true_or_false true = inl refl
true_or_false false = inr refl

pub true_not_false : {A : Type 0} (t : Bool) → t ≡ true → t ≡ false → A
true_not_false t p q = let z : ◌≡◌ {A = ℕ} 0 1 = cc in absurd (omega arith)

-- a test that a claim makes true is false where the claim fails
pub false_unless : {A : Type 0} (t : Bool) → (t ≡ true → A) → (A → ⊥) → t ≡ false
false_unless true f n = absurd (n (f refl))
false_unless false f n = refl

-- tests that hold together are the same
pub same_test : (t u : Bool) → (t ≡ true → u ≡ true) → (u ≡ true → t ≡ true) → t ≡ u
same_test true u f g = sym (f refl)
same_test false u f g = sym (false_unless u g (λ e. true_not_false false e refl))

pub and-true : (t u : Bool) → (t && u) ≡ true → (t ≡ true) × (u ≡ true)
and-true true u e = (refl, e)
and-true false u e = true_not_false false e refl

pub or_right : (t u : Bool) → (t || u) ≡ true → t ≡ false → u ≡ true
or_right true u e f = true_not_false true refl f
or_right false u e f = e

pub or_unless : (t u : Bool) → (t ≡ false → u ≡ true) → (t || u) ≡ true
or_unless true u h = refl
or_unless false u h = h refl

-- an outcome without a value, or an error
pub fine_or_not : {E : Type 0} (r : Result Unit E) → (r ≡ Ok tt) ⊎ ((e : E) × (r ≡ Err e))
fine_or_not (Ok u) = inl refl
fine_or_not (Err e) = inr (e, refl)

-- and not both
pub not_fine : {A E : Type 0} {x : A} {e : E} → ◌≡◌ {A = Result A E} (Ok x) (Err e) → ⊥
not_fine h = cc

pub same_value : {A E : Type 0} {x y : A} → ◌≡◌ {A = Result A E} (Ok x) (Ok y) → x ≡ y
same_value h = cc

pub same_error : {A E : Type 0} {x y : E} → ◌≡◌ {A = Result A E} (Err x) (Err y) → x ≡ y
same_error h = cc
