-- The due keys run by run, as `due_keys` joins them, and what the walks along them ask. Assumes nothing.
use Rattle.std.specs.Prelude.{◌≡◌, List, ℕ, ◌+◌, ◌*◌, ◌≤◌, ◌<◌, length, get_or}
use Rattle.fields.specs.Fields.{word_of}
use Rattle.records.specs.declared.Key.{Key}
use Rattle.records.specs.Costs.{key, each, join}

-- the tasks' records, those of kind 2
abbrev pub task_keys : ℕ → List Key
task_keys k = each k (λ t. key 2 t 0 0)

-- a task's records of kind 3 or 4, and those of kind 5 for one a and for all
abbrev pub row_keys : ℕ → ℕ → ℕ → List Key
row_keys kind p t = each p (λ a. key kind t a 0)

abbrev pub line_keys : ℕ → ℕ → ℕ → List Key
line_keys p t a = each p (λ b. key 5 t a b)

abbrev pub square_keys : ℕ → ℕ → List Key
square_keys p t = join p (λ a. line_keys p t a)

-- the records up to n are there, and there are so few that every place fits 32 bits
abbrev pub Within : List ℕ → ℕ → Type 0
Within s n = (8 * n + 8 ≤ length s) × (length s < 8 * 33554432)

-- a key of bytes, none of them free
abbrev pub Plain : Key → Type 0
Plain d = (3 ≤ d.kind) × (d.kind < 256) × (d.task < 256) × (d.a < 256) × (d.b < 256)

-- r is the number in the four bytes from i on, lowest first
pub record Word (s : List ℕ) (i r : ℕ) : Type 0 where
  pub number : r ≡ word_of (get_or s i 0) (get_or s (i + 1) 0) (get_or s (i + 2) 0) (get_or s (i + 3) 0)
  pub lowest : get_or s i 0 < 256
  pub second : get_or s (i + 1) 0 < 256
  pub third : get_or s (i + 2) 0 < 256
  pub highest : get_or s (i + 3) 0 < 256
