-- A quotient of whole numbers, rounded up (document 02: "each quotient is rounded up", M-101; "each need ÷ p rounded up", M-103).
-- Assumes nothing.
use Rattle.std.specs.Prelude.{ℕ, ◌+◌, ◌-◌, ◌/◌}

-- x ÷ y rounded up; 0 where y is 0
unfoldable pub rounded_up : ℕ → ℕ → ℕ
rounded_up x y = (x + (y - 1)) / y
