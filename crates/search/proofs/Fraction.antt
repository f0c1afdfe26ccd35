-- Fractions by cross-multiplication: the greater of two, transitivity, and two fractions on either side of a threshold n / g.
-- By the laws of products.
use Prim.Native.Nat.{ℕ, suc, ◌*◌, ◌≤◌, ◌<◌}
use native.Mathlib.Omega.{arith}
use native.Mathlib.Nat.{mul-le-mul_right, mul-lt-mul_of_pos_right, lt_of_mul-lt-mul_left, lt_of_not-le}
use lib.Dec.{leb, leb→le, nleb→lt}
use Rattle.figures.proofs.Fractions.{le_le, le_lt}
use Rattle.search.specs.Fraction.{Frac, AtMost, Below, Under, greater}
use Rattle.search.proofs.Tests.{cond_case}

-- what holds of both where each is the greater one holds of the greater
pub greater_case : (x y : Frac) (Q : Frac → Type 0) → (AtMost x y → Q y) → (AtMost y x → Q x) → Q (greater x y)
unfolding greater
greater_case x y Q f g =
    cond_case (leb (x.num * y.den) (y.num * x.den)) Q y x (λ u. f (leb→le _ _ u))
    (λ u. g (omega (arith, nleb→lt (x.num * y.den) (y.num * x.den) u)))

pub greater_ge : (x y : Frac) → AtMost x (greater x y) × AtMost y (greater x y)
greater_ge x y = greater_case x y (λ z. AtMost x z × AtMost y z) (λ h. omega arith) (λ h. omega arith)

pub AtMost-trans : (x y z : Frac) → 1 ≤ y.den → AtMost x y → AtMost y z → AtMost x z
AtMost-trans x y z h a b = le_le x.num x.den y.num y.den z.num z.den h a b

pub Under-down : (g n : ℕ) (x z : Frac) → AtMost x z → 1 ≤ z.den → Under g n z → Under g n x
Under-down g n x z h p u = le_le x.num x.den z.num z.den n g p h u

-- a fraction above n / g is above each that is not
pub above : (g n : ℕ) (x y : Frac) → 1 ≤ g → 1 ≤ x.den → Under g n x → (Under g n y → ⊥) → Below x y
above g n x y pg px u v = le_lt x.num x.den n g y.num y.den pg u (lt_of_not-le v) px

-- of two fractions of small denominators, one at most (n + 1) / g is at most one above n / g
pub close_le : (g n : ℕ) (x y : Frac) → x.den * y.den ≤ g → 1 ≤ x.den → Under g (suc n) x → (Under g n y → ⊥) → AtMost x y
close_le g n x y small px u v =
    let w : n * y.den < y.num * g = lt_of_not-le v in
    let d : x.num * y.den < suc (y.num * x.den) =
    lt_of_mul-lt-mul_left g (omega (arith, mul-le-mul_right y.den u, mul-lt-mul_of_pos_right w px)) in
    omega arith
