-- What a record of laws is to be (document 02, M-101) as a direct statement, beside the definitions of `Form` that run. Assumes nothing.
use Rattle.std.specs.Prelude.{◌≡◌, List, ℕ}
use Rattle.laws.specs.Form.{law_byte, coefficient}

-- record n has a form that the kind takes, and the coefficients that it does not use are zero
pub data Formed (l : List ℕ) (n kind : ℕ) : Type 0 where
  constant : law_byte l n 2 ≡ 0 → coefficient l n 2 ≡ 0 → coefficient l n 3 ≡ 0 → coefficient l n 4 ≡ 0 → coefficient l n 5 ≡ 0 → Formed l n kind
  three_terms : (kind ≡ 5 → ⊥) → law_byte l n 2 ≡ 1 → coefficient l n 4 ≡ 0 → coefficient l n 5 ≡ 0 → Formed l n kind
  five_terms : kind ≡ 5 → law_byte l n 2 ≡ 2 → Formed l n kind

-- record n is a law for that kind and task
pub record States (l : List ℕ) (n kind task : ℕ) : Type 0 where
  pub kind_is : law_byte l n 0 ≡ kind
  pub task_is : law_byte l n 1 ≡ task
  pub form_is : Formed l n kind
  pub zero_is : law_byte l n 3 ≡ 0
