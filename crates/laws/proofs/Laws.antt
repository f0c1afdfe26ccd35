-- What holds of laws and of their records (document 02, M-101): the laws that a reader looks for. The definitions are in specs/Laws,
-- specs/Form and specs/Claims. Assumes nothing.
use mathlib.Core.Path.{◌≡◌, refl}
use mathlib.Core.Bool.{true}
use mathlib.Core.List.{List}
use mathlib.Core.Logic.{◌↔◌}
use Prim.Native.Nat.{ℕ, ◌+◌, ◌*◌}
use Rattle.rounding.specs.Rounding.{rounded_up}
use Rattle.records.specs.declared.Key.{Key}
use Rattle.laws.specs.Laws.{law_at}
use Rattle.laws.specs.Form.{law_byte, coefficient, law_of, law_meets}
use Rattle.laws.specs.Claims.{States}
use Rattle.laws.proofs.Stated as stated

-- ---- the laws of document 000, section 5

-- what record n of the laws gives, by its form: which coefficient stands where
module _ (l : List ℕ) (n s q : ℕ) where
  pub constant_law : law_byte l n 2 ≡ 0 → law_at (law_of l n) s q ≡ coefficient l n 1
  unfolding law_of law_at
  constant_law e = rw e (refl)

  pub three_law : law_byte l n 2 ≡ 1 → law_at (law_of l n) s q ≡ coefficient l n 1 + rounded_up (coefficient l n 2) s + coefficient l n 3 * s
  unfolding law_of law_at
  three_law e = rw e (refl)

  pub five_law : law_byte l n 2 ≡ 2
      → law_at (law_of l n) s q ≡ coefficient l n 1 + rounded_up (coefficient l n 2) s + rounded_up (coefficient l n 3) q + coefficient l n 4 * s + coefficient l n 5 * q
  unfolding law_of law_at
  five_law e = rw e (refl)

-- ---- records of laws

-- a record passes exactly if it is the law of the due kind and task, with a form that the kind takes, the zero, and unused ones zero
pub law_exactly : (l : List ℕ) (n : ℕ) (d : Key) → (law_meets l n d ≡ true) ↔ States l n d.kind d.task
law_exactly l n d = (stated.meets_states l n d, stated.states_meets l n d)
