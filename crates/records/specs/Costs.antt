-- Cost records, document 01, "Cost records" and refusals 1 to 6: what reading a file finds.
-- A file is a list of bytes; records are counted from 0 here and a refusal's place from 1. Assumes nothing.
use Rattle.std.specs.Prelude.{ℕ, zero, suc, ◌+◌, ◌-◌, ◌*◌, ◌/◌, ◌%◌, List, [], ◌∷◌, ◌++◌, Bool, cond, not, ◌&&◌, ◌||◌, length, drop, ltb, leb, eqb, Result, Ok, Err}
use Rattle.fields.specs.Fields.{byte_at, value_at}
use Rattle.records.specs.declared.Board.{Board}
use Rattle.records.specs.declared.Key.{Key}
use Rattle.records.specs.declared.refusal.Fault.{Fault}
use Rattle.records.specs.declared.refusal.Fault.TheVariants.{WrongKey, WrongValue}
use Rattle.records.specs.declared.refusal.Refusal.{Refusal}
use Rattle.records.specs.declared.refusal.Refusal.TheVariants.{NotWhole, NoBoard, BoardRange, WrongLength, Faulty}
use Rattle.records.specs.Refusals.{and_then}

-- the most tasks, the most cores, the most KiB or ticks of a value
abbrev pub most_tasks : ℕ
most_tasks = 12

abbrev pub most_cores : ℕ
most_cores = 32

abbrev pub most_value : ℕ
most_value = 1000000

-- ---- the due keys

abbrev pub key : ℕ → ℕ → ℕ → ℕ → Key
key kind task a b = record { kind = kind; task = task; a = a; b = b }

-- f of 1, 2, .. up to n, and the lists f of 1, 2, .. one after another; both from i + 1 on
unfoldable pub each_from : ℕ → ℕ → (ℕ → Key) → List Key
each_from i zero f = []
each_from i (suc n) f = f (i + 1) ∷ each_from (i + 1) n f

unfoldable pub join_from : ℕ → ℕ → (ℕ → List Key) → List Key
join_from i zero f = []
join_from i (suc n) f = f (i + 1) ++ join_from (i + 1) n f

abbrev pub each : ℕ → (ℕ → Key) → List Key
each = each_from 0

abbrev pub join : ℕ → (ℕ → List Key) → List Key
join = join_from 0

-- the keys of a file of k tasks and p cores as document 01 lists them: by kind, task, a, b, all rising
-- (the task of kind 1, M-106's D, and a and b of kind 2, the flag and M-100's limit, are free and stand as 0)
unfoldable pub due_keys : ℕ → ℕ → List Key
due_keys k p =
    key 1 0 p k
    ∷ (each k (λ t. key 2 t 0 0)
    ++ (join k (λ t. each p (λ a. key 3 t a 0))
    ++ (join (k - 1) (λ t. each p (λ a. key 4 t a 0))
    ++ join (k - 1) (λ t. join p (λ a. each p (λ b. key 5 t a b))))))

-- how many records there are, in document 01's words
unfoldable pub count_of : ℕ → ℕ → ℕ
count_of k p = 1 + k + k * p + (k - 1) * p + (k - 1) * (p * p)

-- the key at place n ≥ 1 of that list, computed: its place m among the records after the first, e among those after
-- kind 2, t after kind 3 and x after kind 4
unfoldable pub due_key : ℕ → ℕ → ℕ → Key
due_key k p n =
    let m = n - 1 in
    let e = m - k in
    let t = e - k * p in
    let x = t - (k - 1) * p in
    cond (ltb m k) (key 2 n 0 0)
    (cond (ltb e (k * p)) (key 3 (e / p + 1) (e % p + 1) 0)
    (cond (ltb t ((k - 1) * p)) (key 4 (t / p + 1) (t % p + 1) 0)
    (key 5 (x / (p * p) + 1) (x % (p * p) / p + 1) (x % (p * p) % p + 1))))

-- ---- one record against a due key

-- the task byte of record n is the due one; by M-106 refusal 5 "passes over" that of kind 1, which is D
unfoldable pub task_meets : List ℕ → ℕ → Key → Bool
task_meets s n d = eqb d.kind 1 || eqb (byte_at s n 1) d.task

-- refusal 5: kind, task, a and b of record n are the due ones, D (M-106) of kind 1 and the flag and the limit (M-100) of kind 2 aside
unfoldable pub key_meets : List ℕ → ℕ → Key → Bool
key_meets s n d =
    eqb (byte_at s n 0) d.kind && task_meets s n d && (eqb d.kind 2 || (eqb (byte_at s n 2) d.a && eqb (byte_at s n 3) d.b))

-- refusal 6: the value of record n is in range and, of kind 2, the flag and the limit too: 0 for none, else 1 to 32 (M-100)
unfoldable pub value_meets : List ℕ → ℕ → Key → Bool
value_meets s n d = leb (value_at s n) most_value && (not (eqb d.kind 2) || (leb (byte_at s n 2) 1 && leb (byte_at s n 3) most_cores))

-- what is wrong in record n: refusal 5, refusal 6 or nothing; in one record 5 goes first
unfoldable pub fault_at : List ℕ → ℕ → Key → Result Unit Fault
fault_at s n d = cond (key_meets s n d) (cond (value_meets s n d) (Ok tt) (Err WrongValue)) (Err WrongKey)

-- what is wrong in the record at that place, as a refusal
abbrev pub placed : ℕ → Result Unit Fault → Result Unit Refusal
placed place (Ok u) = Ok u
placed place (Err f) = Err (Faulty f place)

-- the records from n on against a list of keys: the earliest faulty one decides
unfoldable pub first_fault : List ℕ → ℕ → List Key → Result Unit Refusal
first_fault s n [] = Ok tt
first_fault s n (d ∷ ds) = and_then (λ u. first_fault s (n + 1) ds) (placed (n + 1) (fault_at s n d))

-- ---- a whole file

-- the board that reading finds; a refusal has zero figures
abbrev pub board_in : Result Board Refusal → Board
board_in (Ok b) = b
board_in (Err e) = record { tasks = 0; cores = 0; capacity = 0 }

-- refusal 1: at least one record, and whole ones
unfoldable pub length_meets : List ℕ → Bool
length_meets s = leb 8 (length s) && eqb (length s % 8) 0

-- refusal 2: the first record's kind; by M-106 it "tests the kind only"
unfoldable pub head_meets : List ℕ → Bool
head_meets s = eqb (byte_at s 0 0) 1

-- what the first record says of the board
abbrev pub board_of : List ℕ → Board
board_of s = record { tasks = byte_at s 0 3; cores = byte_at s 0 2; capacity = value_at s 0 }

-- refusal 3: P, k and the capacity are in range
unfoldable pub board_meets : Board → Bool
board_meets b =
    leb 1 b.cores && leb b.cores most_cores && leb 1 b.tasks && leb b.tasks most_tasks && leb 1 b.capacity && leb b.capacity most_value

-- refusals 2 and 3, or the board that the first record states
unfoldable pub read_head : List ℕ → Result Board Refusal
read_head s = cond (head_meets s) (cond (board_meets (board_of s)) (Ok (board_of s)) (Err BoardRange)) (Err NoBoard)

-- the same after refusal 1
unfoldable pub read_board : List ℕ → Result Board Refusal
read_board s = cond (length_meets s) (read_head s) (Err NotWhole)

-- refusal 4, then the walk over the records after the first
unfoldable pub read_records : List ℕ → Board → Result Board Refusal
read_records s b =
    cond (eqb (length s) (8 * count_of b.tasks b.cores)) (and_then (λ u. Ok b) (first_fault s 1 (drop 1 (due_keys b.tasks b.cores)))) (Err WrongLength)

-- what reading the file s finds
unfoldable pub read_costs : List ℕ → Result Board Refusal
read_costs s = and_then (read_records s) (read_board s)
