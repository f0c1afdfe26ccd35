-- Lookups in cost records (document 01, "Cost records"): what each is, for any numbers and any list, and what the record with a key
-- says. Records are counted from 0. Assumes nothing.
use Rattle.std.specs.Prelude.{ℕ, ◌+◌, ◌-◌, ◌*◌, ◌%◌, ◌<◌, ◌≡◌, List, [], Bool, cond, ◌&&◌, length, take, drop, ltb, leb, eqb}
use Rattle.fields.specs.Fields.{byte_at, value_at}
use Rattle.records.specs.declared.Board.{Board}
use Rattle.records.specs.declared.Key.{Key}
use Rattle.records.specs.Costs.{count_of}
use Rattle.records.specs.Format.{Bears}

-- i is one of 1 to top
unfoldable pub within : ℕ → ℕ → Bool
within i top = leb 1 i && leb i top

-- task t of k has another after it
unfoldable pub has_next : ℕ → ℕ → Bool
has_next t k = leb 1 t && ltb t k

-- row i, column j of rows of that width, rows and columns counted from 1
unfoldable pub cell_of : ℕ → ℕ → ℕ → ℕ
cell_of width i j = (i - 1) * width + (j - 1)

-- a board of which only the tasks and the cores count: no lookup reads the capacity
abbrev pub board_with : ℕ → ℕ → Board
board_with k p = record { tasks = k; cores = p; capacity = 0 }

-- M-106: D, what handing out to copies costs: the task byte of the first record. A byte is below 256, and its own remainder; of a list of
-- other numbers the remainder makes it so
unfoldable pub hand_out_of : List ℕ → ℕ
hand_out_of s = byte_at s 0 1 % 256

-- the memory need of task t; 0 where there is no such task
unfoldable pub need_of : List ℕ → Board → ℕ → ℕ
need_of s b t = cond (within t b.tasks) (value_at s t) 0

-- task t is there and marked as replicable
unfoldable pub replicable_of : List ℕ → Board → ℕ → Bool
replicable_of s b t = within t b.tasks && eqb (byte_at s t 2) 1

-- M-100: the most cores that one copy with task t may have; 0 where the task has no limit, or there is no such task
unfoldable pub limit_of : List ℕ → Board → ℕ → ℕ
limit_of s b t = cond (within t b.tasks) (byte_at s t 3) 0

-- the execution time of task t at p cores; 0 where there is no such task or p
unfoldable pub execution_of : List ℕ → Board → ℕ → ℕ → ℕ
execution_of s b t p = cond (within t b.tasks && within p b.cores) (value_at s (1 + b.tasks + cell_of b.cores t p)) 0

-- the internal transfer from task t to the next at p cores; 0 where there is no such pair or p
unfoldable pub internal_of : List ℕ → Board → ℕ → ℕ → ℕ
internal_of s b t p =
    cond (has_next t b.tasks && within p b.cores) (value_at s (1 + b.tasks + b.tasks * b.cores + cell_of b.cores t p)) 0

-- the place of the first kind 5 record of task t
unfoldable pub pair_place : ℕ → ℕ → ℕ → ℕ
pair_place k p t = 1 + k + k * p + (k - 1) * p + (t - 1) * (p * p)

-- the kind 5 records of task t, a part of the file; empty where there is no such pair or the file is too short
unfoldable pub pair_of : List ℕ → Board → ℕ → List ℕ
pair_of s b t =
    let p = b.cores in
    let start = 8 * pair_place b.tasks p t in
    cond (has_next t b.tasks && leb (start + 8 * (p * p)) (length s)) (take (8 * (p * p)) (drop start s)) []

-- the external transfer at s sending and q receiving cores in a pair's part; 0 where the board has no such s or q
unfoldable pub external_of : List ℕ → ℕ → ℕ → ℕ → ℕ
external_of part p s q = cond (within s p && within q p) (value_at part (cell_of p s q)) 0

-- ---- the record that bears a key

-- v is what the one record of the board b's costs that bears the key d says, by the reading `of` of a record
pub record RecordSays (s : List ℕ) (b : Board) (d : Key) {A : Type 0} (of : ℕ → A) (v : A) : Type 0 where
  pub place : ℕ
  pub there : place < count_of b.tasks b.cores
  pub bears : Bears s place d
  pub alone : (n : ℕ) → n < count_of b.tasks b.cores → Bears s n d → n ≡ place
  pub says : v ≡ of place
