-- A choice between two numbers, the smaller of two, and the least over a range. Assumes nothing.
use Rattle.std.specs.Prelude.{ℕ, zero, suc, Bool, true, false, leb}

-- the first number where the test passes, else the second
unfoldable pub pick : Bool → ℕ → ℕ → ℕ
pick true x y = x
pick false x y = y

-- the smaller of two
unfoldable pub lesser : ℕ → ℕ → ℕ
unfolding pick
lesser a b = pick (leb a b) a b

-- the least of cap and f 0 .. f (n - 1)
unfoldable pub least : ℕ → ℕ → (ℕ → ℕ) → ℕ
least cap zero f = cap
least cap (suc n) f = lesser (least cap n f) (f n)
