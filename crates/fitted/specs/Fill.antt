-- Costs from a few measurements (document 02, M-101): the first part, the laws of a chain, and what filling in answers and writes.
-- Records are counted from 0 here and a refusal's place from 1. Assumes nothing.
use Rattle.std.specs.Prelude.{ℕ, zero, suc, ◌+◌, ◌-◌, ◌*◌, ◌/◌, ◌%◌, List, [], ◌∷◌, ◌++◌, Bool, true, cond, ◌&&◌, length, drop, ltb, leb, eqb, Result, Ok, Err}
use Rattle.records.specs.declared.Board.{Board}
use Rattle.records.specs.declared.Key.{Key}
use Rattle.records.specs.declared.refusal.Refusal.{Refusal}
use Rattle.records.specs.declared.refusal.Refusal.TheVariants.{WrongLength, WrongLaws, LawRange, ShortOutput}
use Rattle.records.specs.Costs.{most_value, key, each, join, count_of, first_fault, board_in, read_board}
use Rattle.records.specs.Filled.{count_in}
use Rattle.records.specs.Refusals.{number_in, and_then}
use Rattle.laws.specs.declared.Law.{Law}
use Rattle.laws.specs.declared.Cost.{Cost}
use Rattle.laws.specs.Laws.{law_at}
use Rattle.laws.specs.Form.{law_bytes, cost_at, law_meets}

-- ---- the first part: the records of kinds 1 and 2

-- the keys of its task records, as in a whole file
unfoldable pub task_keys : ℕ → List Key
task_keys k = each k (λ t. key 2 t 0 0)

-- the refusal that its tasks' records deserve: 4 unless there are 1 + k records, then the first fault, 5 or 6
unfoldable pub tasks_fault : List ℕ → Board → Result Unit Refusal
tasks_fault s b = cond (eqb (length s) (8 * (1 + b.tasks))) (first_fault s 1 (task_keys b.tasks)) (Err WrongLength)

-- what reading the first part s finds: refusals 1 to 6, or the board
unfoldable pub read_first : List ℕ → Result Board Refusal
read_first s = and_then (λ b. and_then (λ u. Ok b) (tasks_fault s b)) (read_board s)

-- ---- the laws of a chain: a record for each cost

-- how many there are, and their kinds and tasks in the order of the cost records
abbrev pub law_count : ℕ → ℕ
law_count k = 3 * k - 2

unfoldable pub law_keys : ℕ → List Key
law_keys k = each k (λ t. key 3 t 0 0) ++ (each (k - 1) (λ t. key 4 t 0 0) ++ each (k - 1) (λ t. key 5 t 0 0))

-- the n-th of these, computed
unfoldable pub law_key : ℕ → ℕ → Key
law_key k n = cond (ltb n k) (key 3 (n + 1) 0 0) (cond (ltb n (2 * k - 1)) (key 4 (n - k + 1) 0 0) (key 5 (n - (2 * k - 1) + 1) 0 0))

-- the records from n on against a list of keys
unfoldable pub meet_from : List ℕ → ℕ → List Key → Bool
meet_from l n [] = true
meet_from l n (d ∷ ds) = let rest = meet_from l (n + 1) ds in law_meets l n d && rest

-- refusal 17: the length, and every record
unfoldable pub laws_meet : List ℕ → ℕ → Bool
laws_meet l k = eqb (length l) (law_bytes * law_count k) && meet_from l 0 (law_keys k)

-- ---- the values of a law and their records

-- the keys of a cost's records on a board of p cores: for each a and, of kind 5, each b
unfoldable pub cost_keys : ℕ → ℕ → ℕ → List Key
cost_keys kind task p = cond (eqb kind 5) (join p (λ a. each p (λ b. key kind task a b))) (each p (λ a. key kind task a 0))

-- how many these are, and a and b of the j-th, computed
unfoldable pub cost_count : ℕ → ℕ → ℕ
cost_count kind p = cond (eqb kind 5) (p * p) p

unfoldable pub a_of : ℕ → ℕ → ℕ → ℕ
a_of kind p j = cond (eqb kind 5) (j / p + 1) (j + 1)

unfoldable pub b_of : ℕ → ℕ → ℕ → ℕ
b_of kind p j = cond (eqb kind 5) (j % p + 1) 0

-- the value that a law gives for a key
abbrev pub value_by : Law → Key → ℕ
value_by w d = law_at w d.a d.b

unfoldable pub keys_within : (Key → ℕ) → List Key → Bool
keys_within f [] = true
keys_within f (d ∷ ds) = let rest = keys_within f ds in leb (f d) most_value && rest

-- all values of a cost are in range
abbrev pub cost_within : Cost → ℕ → Bool
cost_within c p = keys_within (value_by c.law) (cost_keys c.kind c.task p)

-- refusal 18: all values of the n laws from record i on
unfoldable pub values_meet : List ℕ → ℕ → ℕ → ℕ → Bool
values_meet l p i zero = true
values_meet l p i (suc n) =
    let rest = values_meet l p (i + 1) n in
    cost_within (cost_at l i) p && rest

-- a cost record of that key and value
unfoldable pub record_of : Key → ℕ → List ℕ
record_of d v = d.kind ∷ d.task ∷ d.a ∷ d.b ∷ v % 256 ∷ v / 256 % 256 ∷ v / 65536 % 256 ∷ v / 16777216 ∷ []

unfoldable pub records_of : (Key → ℕ) → List Key → List ℕ
records_of f [] = []
records_of f (d ∷ ds) = record_of d (f d) ++ records_of f ds

-- the records of a cost
abbrev pub cost_records : Cost → ℕ → List ℕ
cost_records c p = records_of (value_by c.law) (cost_keys c.kind c.task p)

-- the cost records of the n laws from record i on
unfoldable pub records_from : List ℕ → ℕ → ℕ → ℕ → List ℕ
records_from l p i zero = []
records_from l p i (suc n) = cost_records (cost_at l i) p ++ records_from l p (i + 1) n

-- ---- the service

-- the full set of cost records: the first part's as lent, and those of the laws
unfoldable pub all_records : List ℕ → List ℕ → ℕ → ℕ → List ℕ
all_records head l k p = head ++ records_from l p 0 (law_count k)

-- the refusal that the laws deserve on a board of k tasks and p cores: all of 17 goes before any 18
unfoldable pub laws_fault : List ℕ → ℕ → ℕ → Result Unit Refusal
laws_fault l k p = cond (laws_meet l k) (cond (values_meet l p 0 (law_count k)) (Ok tt) (Err LawRange)) (Err WrongLaws)

-- what it answers then: that refusal, or 19, or the bytes filled in; of the output only its length counts
unfoldable pub answer_on : List ℕ → ℕ → ℕ → List ℕ → Result ℕ Refusal
answer_on l k p out =
    and_then (λ u. cond (leb (8 * count_of k p) (length out)) (Ok (8 * count_of k p)) (Err ShortOutput)) (laws_fault l k p)

-- what the output is then
unfoldable pub bytes_on : List ℕ → List ℕ → ℕ → ℕ → List ℕ → List ℕ
bytes_on head l k p out =
    let a = answer_on l k p out in
    cond (eqb (number_in a) 0) (all_records head l k p ++ drop (count_in a) out) out

-- what it answers to a first part, laws and an output
unfoldable pub fill_answer : List ℕ → List ℕ → List ℕ → Result ℕ Refusal
fill_answer head l out = and_then (λ b. answer_on l b.tasks b.cores out) (read_first head)

-- what the output is afterwards: as lent where it refuses, and behind what is filled in
unfoldable pub fill_bytes : List ℕ → List ℕ → List ℕ → List ℕ
fill_bytes head l out =
    let r = read_first head in
    let b = board_in r in
    cond (eqb (number_in r) 0) (bytes_on head l b.tasks b.cores out) out
