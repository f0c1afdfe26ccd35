-- `offer` writes what one copy and what any copies leave for each number of cores that it passes; the two rows stand apart. With fewer cores
-- both leave nothing.
use Prim.Native.Nat.{ℕ, ◌+◌, ◌<◌}
use native.Mathlib.Omega.{arith}
use mathlib.Core.Path.{◌≡◌, sym, ap, ◌∙◌}
use mathlib.Core.List.{List}
use lib.ListN.{get_or, replicate, get_or-replicate}
use Rattle.offers.specs.Words.{row_of}
use Rattle.offers.proofs.Offering.{one_bare, any_bare}
use Rattle.offers.proofs.ends.offer.Goals as goal

-- a list of zeros
zeros_at : (w : List ℕ) (j : ℕ) → w ≡ replicate 66 0 → j < 66 → get_or w j 0 ≡ 0
zeros_at w j e h = ap (λ x. get_or x j 0) e ∙ get_or-replicate {A = ℕ} 66 j 0 0 h

pub loop-b-init : goal.loop-b-init
loop-b-init c =
    let a = c.args in
    λ bare blank. record {
      one = λ j p l. zeros_at a.left.now j blank (omega arith) ∙ sym (one_bare a.n a.extra (row_of a.row.now) 0 a.q j a.low c.requires.0 c.requires.1 (omega arith) bare l);
      any = λ j p l. zeros_at a.left.now (33 + j) blank (omega arith) ∙ sym (any_bare a.n a.extra (row_of a.row.now) 0 a.q j a.low c.requires.0 c.requires.1 (omega arith) bare l);
    }
