-- Tests and their outcomes: conjunctions, disjunctions, choices, and equality of tests. By cases on the outcome.
use Prim.Native.Nat.{ℕ}
use mathlib.Core.Path.{◌≡◌, refl}
use mathlib.Core.Bool.{Bool, true, false, ◌&&◌, ◌||◌, not, cond}
use mathlib.Core.Logic.{◌⊎◌, inl, inr}
use lib.Dec.{T, eqb, eqb→eq, eqb_refl, not_T}

-- a test's two outcomes, with what each says
pub data Tested (b : Bool) : Type 0 where
  passed : T b → Tested b
  failed : T (not b) → Tested b

pub test : (b : Bool) → Tested b
test true = passed tt
test false = failed tt

-- a conjunction gives its parts, and the parts give it
pub and_l : (a b : Bool) → T (a && b) → T a
and_l true b t = tt
and_l false b t = t

pub and_r : (a b : Bool) → T (a && b) → T b
and_r true b t = t
and_r false b t = absurd t

pub and_i : (a b : Bool) → T a → T b → T (a && b)
and_i true b x y = y
and_i false b x y = x

-- a disjunction gives a part, and a part gives it
pub or_e : (a b : Bool) → T (a || b) → T a ⊎ T b
or_e true b t = inl tt
or_e false b t = inr t

pub or_l : (a b : Bool) → T a → T (a || b)
or_l true b t = tt
or_l false b t = absurd t

pub or_r : (a b : Bool) → T b → T (a || b)
or_r true b t = tt
or_r false b t = t

-- two tests that pass together are equal
pub bool_eq : (a b : Bool) → (T a → T b) → (T b → T a) → a ≡ b
bool_eq true true f g = refl
bool_eq true false f g = absurd (f tt)
bool_eq false true f g = absurd (g tt)
bool_eq false false f g = refl

-- what holds of both branches, each under its outcome, holds of the choice
pub cond_case : {A : Type 0} (b : Bool) (Q : A → Type 0) (x y : A) → (T b → Q x) → (T (not b) → Q y) → Q (cond b x y)
cond_case true Q x y f g = f tt
cond_case false Q x y f g = g tt

pub cond_yes : {A : Type 0} (b : Bool) (x y : A) → T b → cond b x y ≡ x
cond_yes true x y t = refl
cond_yes false x y t = absurd t

pub cond_no : {A : Type 0} (b : Bool) (x y : A) → T (not b) → cond b x y ≡ y
cond_no true x y t = absurd t
cond_no false x y t = refl

-- equal numbers pass the test of equality, and unequal ones fail it
pub eq→eqb : (x y : ℕ) → x ≡ y → T (eqb x y)
eq→eqb x y e = rw e (eqb_refl y)

pub ne→neqb : (x y : ℕ) → (x ≡ y → ⊥) → T (not (eqb x y))
ne→neqb x y h = not_T (eqb x y) (λ u. h (eqb→eq x y u))
