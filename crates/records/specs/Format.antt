-- Document 01's cost records as a direct statement, beside the reader's definition of `Costs`: which byte strings are a
-- board's costs, and when each refusal is due. Assumes nothing.
use Rattle.std.specs.Prelude.{◌≡◌, List, ℕ, ◌+◌, ◌*◌, ◌%◌, ◌≤◌, ◌<◌, length, get_or, Result, Ok, Err}
use Rattle.fields.specs.Fields.{byte_at, value_at}
use Rattle.records.specs.declared.Board.{Board}
use Rattle.records.specs.declared.Key.{Key}
use Rattle.records.specs.declared.refusal.Fault.{Fault}
use Rattle.records.specs.declared.refusal.Fault.TheVariants.{WrongKey, WrongValue}
use Rattle.records.specs.declared.refusal.Refusal.{Refusal}
use Rattle.records.specs.declared.refusal.Refusal.TheVariants.{NotWhole, NoBoard, BoardRange, WrongLength, Faulty}
use Rattle.records.specs.Costs.{most_tasks, most_cores, most_value, key, due_keys, count_of, board_of}

-- record n of s has that kind, task, a and b, the flag and the limit (M-100) of kind 2 and the task byte of kind 1 (M-106) aside
pub record Bears (s : List ℕ) (n : ℕ) (d : Key) : Type 0 where
  pub kind : byte_at s n 0 ≡ d.kind
  pub task : (d.kind ≡ 1 → ⊥) → byte_at s n 1 ≡ d.task
  pub a : (d.kind ≡ 2 → ⊥) → byte_at s n 2 ≡ d.a
  pub b : (d.kind ≡ 2 → ⊥) → byte_at s n 3 ≡ d.b

-- its value is in range and, of kind 2, its flag and its limit: 0 for none, else 1 to 32 (M-100)
pub record InRange (s : List ℕ) (n : ℕ) (d : Key) : Type 0 where
  pub value : value_at s n ≤ most_value
  pub flag : d.kind ≡ 2 → byte_at s n 2 ≤ 1
  pub limit : d.kind ≡ 2 → byte_at s n 3 ≤ most_cores

-- the refusal that record n deserves where the key is due: none, 5, or 6; in one record 5 goes first
pub data Deserves (s : List ℕ) (n : ℕ) (d : Key) : Result Unit Fault → Type 0 where
  right : Bears s n d → InRange s n d → Deserves s n d (Ok tt)
  wrong_key : (Bears s n d → ⊥) → Deserves s n d (Err WrongKey)
  wrong_value : Bears s n d → (InRange s n d → ⊥) → Deserves s n d (Err WrongValue)

-- whole records, one at least
pub record Whole (s : List ℕ) : Type 0 where
  pub some : 8 ≤ length s
  pub whole : length s % 8 ≡ 0

-- the first record is the board's, by its kind alone (M-106)
pub record Headed (s : List ℕ) : Type 0 where
  pub kind : byte_at s 0 0 ≡ 1

-- a board in range
pub record Ranged (b : Board) : Type 0 where
  pub one_core : 1 ≤ b.cores
  pub cores_most : b.cores ≤ most_cores
  pub some_tasks : 1 ≤ b.tasks
  pub tasks_most : b.tasks ≤ most_tasks
  pub some_capacity : 1 ≤ b.capacity
  pub most_capacity : b.capacity ≤ most_value

-- the length is that of the stated count
abbrev pub Long : List ℕ → Board → Type 0
Long s b = length s ≡ 8 * count_of b.tasks b.cores

-- the key that is due at record n
abbrev pub due_at : Board → ℕ → Key
due_at b n = get_or (due_keys b.tasks b.cores) n (key 0 0 0 0)

-- the records from the second up to n bear their keys and are in range
abbrev pub RightBelow : List ℕ → Board → ℕ → Type 0
RightBelow s b n = (i : ℕ) → 1 ≤ i → i < n → Bears s i (due_at b i) × InRange s i (due_at b i)

-- s is the costs of the board b: right length, first record, every key due, every value in range
pub record IsCosts (s : List ℕ) (b : Board) : Type 0 where
  pub headed : Headed s
  pub board : b ≡ board_of s
  pub ranged : Ranged b
  pub long : Long s b
  pub right : RightBelow s b (count_of b.tasks b.cores)

-- what the first record is to say of the board, each of refusals 1 to 3 under its condition
pub data Opens (s : List ℕ) : Result Board Refusal → Type 0 where
  board : Whole s → Headed s → Ranged (board_of s) → Opens s (Ok (board_of s))
  length_wrong : (Whole s → ⊥) → Opens s (Err NotWhole)
  head_wrong : Whole s → (Headed s → ⊥) → Opens s (Err NoBoard)
  board_wrong : Whole s → Headed s → (Ranged (board_of s) → ⊥) → Opens s (Err BoardRange)

-- s passes what is tested before the walk over its records
pub record Framed (s : List ℕ) : Type 0 where
  pub whole : Whole s
  pub headed : Headed s
  pub ranged : Ranged (board_of s)
  pub long : Long s (board_of s)

-- what reading s is to find, each refusal under its condition and with its place
pub data Finds (s : List ℕ) : Result Board Refusal → Type 0 where
  costs : (b : Board) → IsCosts s b → Finds s (Ok b)
  length_wrong : (Whole s → ⊥) → Finds s (Err NotWhole)
  head_wrong : Whole s → (Headed s → ⊥) → Finds s (Err NoBoard)
  board_wrong : Whole s → Headed s → (Ranged (board_of s) → ⊥) → Finds s (Err BoardRange)
  count_wrong : Whole s → Headed s → Ranged (board_of s) → (Long s (board_of s) → ⊥) → Finds s (Err WrongLength)
  key_wrong : (n : ℕ) → Framed s → 1 ≤ n → n < count_of (board_of s).tasks (board_of s).cores → RightBelow s (board_of s) n
      → (Bears s n (due_at (board_of s) n) → ⊥) → Finds s (Err (Faulty WrongKey (n + 1)))
  value_wrong : (n : ℕ) → Framed s → 1 ≤ n → n < count_of (board_of s).tasks (board_of s).cores → RightBelow s (board_of s) n
      → Bears s n (due_at (board_of s) n) → (InRange s n (due_at (board_of s) n) → ⊥) → Finds s (Err (Faulty WrongValue (n + 1)))
