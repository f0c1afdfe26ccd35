-- The fields of a record of 8 bytes (document 01, "Cost records"). Records are counted from 0; what lies past the end is 0.
-- Assumes nothing.
use Rattle.std.specs.Prelude.{ℕ, ◌+◌, ◌*◌, List, get_or}

-- the byte at j of record n: 0 kind, 1 task, 2 a, 3 b, 4 to 7 value
abbrev pub byte_at : List ℕ → ℕ → ℕ → ℕ
byte_at s n j = get_or s (8 * n + j) 0

-- the number in four bytes, lowest first
abbrev pub word_of : ℕ → ℕ → ℕ → ℕ → ℕ
word_of x y z w = x + 256 * y + 65536 * z + 16777216 * w

-- the value of the record that starts at byte i, and of record n
abbrev pub value_from : List ℕ → ℕ → ℕ
value_from s i = word_of (get_or s (i + 4) 0) (get_or s (i + 5) 0) (get_or s (i + 6) 0) (get_or s (i + 7) 0)

unfoldable pub value_at : List ℕ → ℕ → ℕ
value_at s n = value_from s (8 * n)
