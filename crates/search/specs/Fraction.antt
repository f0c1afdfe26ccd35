-- Fractions of natural numbers, compared by cross-multiplication. Assumes nothing.
use Rattle.std.specs.Prelude.{ℕ, ◌+◌, ◌*◌, ◌≤◌, ◌<◌, ◌≡◌, cond, leb}

-- num / den
pub record Frac : Type 0 where
  pub num : ℕ
  pub den : ℕ

-- x is at most y
abbrev pub AtMost : Frac → Frac → Type 0
AtMost x y = x.num * y.den ≤ y.num * x.den

-- x is below y
abbrev pub Below : Frac → Frac → Type 0
Below x y = x.num * y.den < y.num * x.den

-- x equals y
abbrev pub Same : Frac → Frac → Type 0
Same x y = x.num * y.den ≡ y.num * x.den

-- x is at most n / g
abbrev pub Under : (g n : ℕ) → Frac → Type 0
Under g n x = x.num * g ≤ n * x.den

-- the greater of two, the second where they are equal
unfoldable pub greater : Frac → Frac → Frac
greater x y = cond (leb (x.num * y.den) (y.num * x.den)) y x

-- y plus the whole number m
abbrev pub plus : Frac → ℕ → Frac
plus y m = record { num = y.num + m * y.den; den = y.den }
