-- What the loops hold: the bodies and transfers of a plan's modules in two lists, and how large their entries are. Assumes nothing.
use Rattle.std.specs.Prelude.{ℕ, zero, suc, ◌+◌, ◌*◌, ◌-◌, ◌≤◌, ◌<◌, ◌≡◌, List, [], ◌∷◌, get_or}
use Rattle.modules.specs.Model.{Chain}
use Rattle.layout.specs.Layout.{most_modules, module_at, modules_from}
use Rattle.timetable.specs.Stages.{Stage, stage_of}
use Rattle.timetable.specs.Timetable.{most_blocks}

-- n stages from the i-th on
unfoldable pub stages_in : (bodies sends : List ℕ) → (i n : ℕ) → List Stage
stages_in bodies sends i zero = []
stages_in bodies sends i (suc n) = record { body = get_or bodies i 0; send = get_or sends i 0 } ∷ stages_in bodies sends (i + 1) n

-- what the i-th of count records does
abbrev pub stage_in : Chain → (w : List ℕ) → (count i : ℕ) → Stage
stage_in c w count i = stage_of c (module_at w i) (modules_from w (i + 1) (count - (i + 1)))

-- every entry is at most v
abbrev pub AtMost : ℕ → List ℕ → Type 0
AtMost v l = (i : ℕ) → get_or l i 0 ≤ v

-- bounds of a body and of a transfer, whatever the bytes are; of what a block adds to a time; and of a time
abbrev pub most_body : ℕ
most_body = 4398046511104

abbrev pub most_send : ℕ
most_send = 4294967296

abbrev pub most_block : ℕ
most_block = most_modules * (most_body + most_send)

abbrev pub most_time : ℕ
most_time = most_blocks * most_block

-- the list has f of each of the first n places, and no entry above bound
pub record Each (f : ℕ → ℕ) (bound n : ℕ) (l : List ℕ) : Type 0 where
  pub at : (i : ℕ) → i < n → get_or l i 0 ≡ f i
  pub most : AtMost bound l
