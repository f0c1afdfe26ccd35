-- Records of laws (document 02, M-101): 24 bytes, kind, task, form, a zero, and five coefficients of four bytes, lowest first. Records
-- are counted from 0. Assumes nothing.
use Rattle.std.specs.Prelude.{ℕ, ◌+◌, ◌*◌, List, Bool, cond, ◌&&◌, ◌||◌, get_or, leb, eqb}
use Rattle.fields.specs.Fields.{word_of}
use Rattle.records.specs.declared.Key.{Key}
use Rattle.laws.specs.declared.Law.{Law}
use Rattle.laws.specs.declared.Law.TheVariants.{Constant, Three, Five}
use Rattle.laws.specs.declared.Cost.{Cost}

-- the bytes of a record
abbrev pub law_bytes : ℕ
law_bytes = 24

-- byte j of record n, 0 past the end
abbrev pub law_byte : List ℕ → ℕ → ℕ → ℕ
law_byte l n j = get_or l (law_bytes * n + j) 0

-- the number in the four bytes from i on
abbrev pub number_at : List ℕ → ℕ → ℕ
number_at l i = word_of (get_or l i 0) (get_or l (i + 1) 0) (get_or l (i + 2) 0) (get_or l (i + 3) 0)

-- C1 to C5 of record n
unfoldable pub coefficient : List ℕ → ℕ → ℕ → ℕ
coefficient l n i = number_at l (law_bytes * n + 4 * i)

-- the law of record n: form 0 is constant, 1 has three terms, 2 has five
unfoldable pub law_of : List ℕ → ℕ → Law
law_of l n =
    let form = law_byte l n 2 in
    let c = coefficient l n in
    cond (eqb form 0) (Constant (c 1)) (cond (eqb form 1) (Three (c 1) (c 2) (c 3)) (Five (c 1) (c 2) (c 3) (c 4) (c 5)))

-- the cost that record n states
unfoldable pub cost_at : List ℕ → ℕ → Cost
cost_at l n = record { kind = law_byte l n 0; task = law_byte l n 1; law = law_of l n }

-- external costs take form 0 or 2, the others 0 or 1
unfoldable pub form_meets : ℕ → ℕ → Bool
form_meets kind form = eqb form 0 || eqb form (cond (eqb kind 5) 2 1)

-- unused coefficients are zero: C2 and C3 are used by forms 1 and 2, C4 and C5 by form 2
unfoldable pub unused_meets : List ℕ → ℕ → ℕ → Bool
unused_meets l n form =
    let c = coefficient l n in
    (leb 1 form || (eqb (c 2) 0 && eqb (c 3) 0)) && (leb 2 form || (eqb (c 4) 0 && eqb (c 5) 0))

-- record n has the due kind and task, a form that this kind takes, a zero, and nothing that is not used
unfoldable pub law_meets : List ℕ → ℕ → Key → Bool
law_meets l n d =
    eqb (law_byte l n 0) d.kind && eqb (law_byte l n 1) d.task && form_meets d.kind (law_byte l n 2) && eqb (law_byte l n 3) 0 && unused_meets l n (law_byte l n 2)
