-- The text of an answer (document 01, "A small dock", the program `plan`), as bytes in ASCII. Assumes nothing.
use Rattle.std.specs.Prelude.{ℕ, zero, suc, ◌+◌, ◌/◌, ◌%◌, min, List, [], ◌∷◌, ◌++◌, cond, ltb, eqb}
use Prim.Native.Char.{code}
use Prim.Native.String.{String}
use Prim.Native.String.{[] as no_words, ◌∷◌ as ◌then◌}
use Rattle.records.specs.Costs.{board_in, read_costs}
use Rattle.modules.specs.declared.Module.{Module}
use Rattle.modules.specs.Model.{Chain, chain_of}
use Rattle.layout.specs.Layout.{most_modules, record_of, modules_of}
use Rattle.figures.specs.declared.answer.Answer.{Answer}
use Rattle.figures.specs.Plan.{response_at}
use Rattle.console.specs.Room.{number_room}
use Rattle.arrayvec.specs.ArrayString.{ArrayString}

-- the bytes of a text
abbrev pub text_of : ArrayString → List ℕ
text_of t = t.bytes

-- the bytes of words as they are written
abbrev pub ascii : String → List ℕ
ascii no_words = []
ascii (c then s) = code c ∷ ascii s

-- ---- numbers

-- n in decimal, the most significant digit first and no zero before it, for an n of at most so many digits
unfoldable pub spell : ℕ → ℕ → List ℕ
spell zero n = []
spell (suc digits) n =
    let tenth = spell digits (n / 10) in
    cond (ltb n 10) ((48 + n) ∷ []) (tenth ++ ((48 + n % 10) ∷ []))

-- n in decimal, for an n of 64 bits
abbrev pub decimal : ℕ → List ℕ
decimal n = spell number_room n

-- a number with a space behind it, and with the end of the line
unfoldable pub spaced : ℕ → List ℕ
spaced n = decimal n ++ ascii " "

unfoldable pub ended : ℕ → List ℕ
ended n = decimal n ++ ascii "\n"

-- ---- lines

-- "Each module is a line: first, last, r, p, response."
unfoldable pub module_line : Module → ℕ → List ℕ
module_line m x = spaced m.first ++ (spaced m.last ++ (spaced m.copies ++ (spaced m.cores ++ ended x)))

-- "Then the slowest module, its response and r, and the cores."
unfoldable pub slowest_line : Answer → List ℕ
slowest_line a =
    ascii "slowest " ++ (spaced a.slowest ++ (spaced a.response ++ (spaced a.copies ++ (ascii "cores " ++ ended a.cores))))

-- "A refusal prints `refused`, number, place."
unfoldable pub refused_line : Answer → List ℕ
refused_line a = ascii "refused " ++ (spaced a.number ++ ended a.place)

-- "longer input prints `too long`"
unfoldable pub too_long : List ℕ
too_long = ascii "too long\n"

-- ---- a whole answer

-- the lines f of 0, 1, .. up to n, one after another
unfoldable pub lines_of : (ℕ → List ℕ) → ℕ → List ℕ
lines_of f zero = []
lines_of f (suc n) = lines_of f n ++ f n

-- the first n records of the plan bytes w, each with its response among the modules that the bytes say
unfoldable pub module_lines : Chain → List ℕ → ℕ → List ℕ
module_lines c w n = lines_of (λ i. module_line (record_of w i) (response_at c (modules_of w c.tasks) i)) n

-- the answer a on the costs s, with the plan bytes w: each of its modules and the slowest, or the refusal
unfoldable pub report_text : List ℕ → Answer → List ℕ → List ℕ
report_text s a w =
    let c = chain_of s (board_in (read_costs s)) in
    cond (eqb a.number 0) (module_lines c w (min a.modules most_modules) ++ slowest_line a) (refused_line a)
