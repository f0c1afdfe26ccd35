-- The cost laws of document 000, section 5, in whole ticks (document 02, M-101): C1 + C2/p + C3·p for an execution and an internal
-- transfer, C1 + C2/s + C3/q + C4·s + C5·q for an external one, or a constant. Assumes nothing.
use Rattle.std.specs.Prelude.{ℕ, ◌+◌, ◌*◌}
use Rattle.rounding.specs.Rounding.{rounded_up}
use Rattle.laws.specs.declared.Law.{Law}
use Rattle.laws.specs.declared.Law.TheVariants.{Constant, Three, Five}

-- the ticks that a law gives, at s sending and q receiving cores or, of three terms, at s cores; each quotient is rounded up by itself
unfoldable pub law_at : Law → ℕ → ℕ → ℕ
law_at (Constant c1) s q = c1
law_at (Three c1 c2 c3) s q = c1 + rounded_up c2 s + c3 * s
law_at (Five c1 c2 c3 c4 c5) s q = c1 + rounded_up c2 s + rounded_up c3 q + c4 * s + c5 * q
