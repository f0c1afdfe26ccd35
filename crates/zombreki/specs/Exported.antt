-- What the exported services answer: the services' own answers in the order of the C struct. Assumes nothing.
use Rattle.std.specs.Prelude.{ℕ}
use Rattle.figures.specs.declared.answer.Answer as figures
use Rattle.zombreki.specs.declared.Answer.{Answer}

-- one more than the greatest 32-bit number
abbrev pub words : ℕ
words = 4294967296

-- field by field
abbrev pub in_words : figures.Answer → Answer
in_words a =
    record {
      refusal = a.number;
      place = a.place;
      modules = a.modules;
      cores = a.cores;
      slowest = a.slowest;
      response = a.response;
      copies = a.copies;
    }
