-- The most bytes that the pieces of a text take, so that a whole text fits. Assumes nothing.
use Rattle.std.specs.Prelude.{ℕ, ◌+◌, ◌*◌}

-- the bytes of a text
abbrev pub room : ℕ
room = 2048

-- a number of 64 bits, in decimal; the same with the space or the newline after it
abbrev pub number_room : ℕ
number_room = 20

abbrev pub word_room : ℕ
word_room = number_room + 1

-- a module's line, five numbers; the slowest module's, `slowest ` and `cores ` with four
abbrev pub line_room : ℕ
line_room = 5 * word_room

abbrev pub slowest_room : ℕ
slowest_room = 8 + 6 + 4 * word_room
