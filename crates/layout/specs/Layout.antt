-- Plan bytes (document 01, "Plan bytes"). Assumes nothing.
use Rattle.std.specs.Prelude.{ℕ, zero, suc, ◌+◌, ◌*◌, List, [], ◌∷◌, ◌++◌, cond, ◌&&◌, length, get_or, drop, leb, ltb, eqb}
use Rattle.std.proofs.lemmas.List.Edits.{sets}
use Rattle.modules.specs.declared.Module.{Module}

-- the most modules of a plan, and the bytes that they take
abbrev pub most_modules : ℕ
most_modules = 12

abbrev pub plan_bytes : ℕ
plan_bytes = 48

-- record i of plan bytes, counted from 0: first task, last task, r, p; zeros past the end
abbrev pub module_at : List ℕ → ℕ → Module
module_at w i = record { first = get_or w (4 * i) 0; last = get_or w (4 * i + 1) 0; copies = get_or w (4 * i + 2) 0; cores = get_or w (4 * i + 3) 0 }

-- record i of the twelve, zeros where there is no such record: bytes after the 48th are not a plan's
unfoldable pub record_of : List ℕ → ℕ → Module
record_of w i = cond (ltb i most_modules) (module_at w i) (record { first = 0; last = 0; copies = 0; cores = 0 })

-- how many records there are from the first up to the one whose last task is k, twelve at most
unfoldable pub count_from : List ℕ → ℕ → ℕ → ℕ → ℕ
count_from w k i zero = i
count_from w k i (suc n) =
    let rest = count_from w k (i + 1) n in
    cond (eqb (module_at w i).last k) (i + 1) rest

unfoldable pub module_count : List ℕ → ℕ → ℕ
module_count w k = count_from w k 0 most_modules

-- n records from the i-th on
unfoldable pub modules_from : List ℕ → ℕ → ℕ → List Module
modules_from w i zero = []
modules_from w i (suc n) = module_at w i ∷ modules_from w (i + 1) n

-- the modules that plan bytes for k tasks say
unfoldable pub modules_of : List ℕ → ℕ → List Module
modules_of w k = modules_from w 0 (module_count w k)

-- the bytes of a plan in n records, the unused ones zero and last
unfoldable pub encode : ℕ → List Module → List ℕ
encode zero ms = []
encode (suc n) [] = 0 ∷ 0 ∷ 0 ∷ 0 ∷ encode n []
encode (suc n) (m ∷ ms) = m.first ∷ m.last ∷ m.copies ∷ m.cores ∷ encode n ms

abbrev pub encode_plan : List Module → List ℕ
encode_plan ms = encode most_modules ms

-- plan bytes with the module m as record i, where they have such a record
unfoldable pub put_module : List ℕ → ℕ → Module → List ℕ
put_module w i m =
    cond (ltb i most_modules && leb plan_bytes (length w)) (sets w (4 * i) (m.first ∷ m.last ∷ m.copies ∷ m.cores ∷ [])) w

-- the bytes w with the plan v at their start, where they have room for one
unfoldable pub put_plan : List ℕ → List ℕ → List ℕ
put_plan v w = cond (leb plan_bytes (length w)) (v ++ drop plan_bytes w) w
