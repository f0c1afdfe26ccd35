-- What a service that only fills an output answers the C interface, or one that answers a single number: its answer as numbers.
-- Assumes nothing.
use Rattle.std.specs.Prelude.{ℕ, Result, Ok, Err}
use Rattle.records.specs.declared.Filled.{Filled}
use Rattle.records.specs.declared.refusal.Refusal.{Refusal}
use Rattle.records.specs.Refusals.{number_of, place_of}

-- the number that is answered, 0 for a refusal
abbrev pub count_in : Result ℕ Refusal → ℕ
count_in (Ok count) = count
count_in (Err e) = 0

-- so many bytes or entries are filled in, or the number is this; a refusal fills in none
abbrev pub filled_of : Result ℕ Refusal → Filled
filled_of (Ok count) = record { refusal = 0; place = 0; count = count }
filled_of (Err e) = record { refusal = number_of e; place = place_of e; count = 0 }
