-- Document 02's M-101 as a direct statement, beside the definitions of `Fill` that run: which first parts and laws are accepted, when
-- each refusal is due, and what the costs filled in say. Assumes nothing.
use Rattle.std.specs.Prelude.{◌≡◌, List, ℕ, ◌+◌, ◌-◌, ◌*◌, ◌≤◌, ◌<◌, length, take, Result, Ok, Err}
use Rattle.records.specs.declared.Board.{Board}
use Rattle.records.specs.declared.refusal.Fault.TheVariants.{WrongKey, WrongValue}
use Rattle.records.specs.declared.refusal.Refusal.{Refusal}
use Rattle.records.specs.declared.refusal.Refusal.TheVariants.{WrongLength, Faulty, WrongLaws, LawRange, ShortOutput}
use Rattle.records.specs.Costs.{most_value, key, count_of, board_of, read_costs}
use Rattle.records.specs.Format.{Bears, InRange, Whole, Headed, Ranged, Opens}
use Rattle.lookups.specs.Lookups.{execution_of, internal_of, pair_of, external_of}
use Rattle.laws.specs.declared.Law.{Law}
use Rattle.laws.specs.Laws.{law_at}
use Rattle.laws.specs.Form.{law_bytes, law_byte, law_of}
use Rattle.laws.specs.Claims.{States}
use Rattle.fitted.specs.Fill.{law_count}

-- ---- the first part

-- the tasks' records below n bear their keys and are in range
abbrev pub TasksBelow : List ℕ → ℕ → Type 0
TasksBelow s n = (i : ℕ) → 1 ≤ i → i < n → Bears s i (key 2 i 0 0) × InRange s i (key 2 i 0 0)

-- s is the first part of the board b's costs: 1 + k records
pub record IsFirst (s : List ℕ) (b : Board) : Type 0 where
  pub headed : Headed s
  pub board : b ≡ board_of s
  pub ranged : Ranged b
  pub long : length s ≡ 8 * (1 + b.tasks)
  pub right : TasksBelow s (1 + b.tasks)

-- s passes what is tested before the walk over the tasks' records
pub record Begun (s : List ℕ) : Type 0 where
  pub headed : Headed s
  pub ranged : Ranged (board_of s)
  pub long : length s ≡ 8 * (1 + (board_of s).tasks)

-- what reading a first part is to find: 1 to 3 as for a whole file, 4 unless there are 1 + k records, then the first fault
pub data FirstFinds (s : List ℕ) : Result Board Refusal → Type 0 where
  first : (b : Board) → IsFirst s b → FirstFinds s (Ok b)
  opening_wrong : (e : Refusal) → Opens s (Err e) → FirstFinds s (Err e)
  count_wrong : Whole s → Headed s → Ranged (board_of s) → (length s ≡ 8 * (1 + (board_of s).tasks) → ⊥) → FirstFinds s (Err WrongLength)
  key_wrong : (n : ℕ) → Begun s → 1 ≤ n → n ≤ (board_of s).tasks → TasksBelow s n → (Bears s n (key 2 n 0 0) → ⊥)
      → FirstFinds s (Err (Faulty WrongKey (n + 1)))
  value_wrong : (n : ℕ) → Begun s → 1 ≤ n → n ≤ (board_of s).tasks → TasksBelow s n → Bears s n (key 2 n 0 0)
      → (InRange s n (key 2 n 0 0) → ⊥) → FirstFinds s (Err (Faulty WrongValue (n + 1)))

-- ---- the laws

-- where the law of a task's execution, and of its internal and external transfer to the next, stands among those of k tasks
abbrev pub execution_place : ℕ → ℕ
execution_place t = t - 1

abbrev pub internal_place : ℕ → ℕ → ℕ
internal_place k t = k + (t - 1)

abbrev pub external_place : ℕ → ℕ → ℕ
external_place k t = k + (k - 1) + (t - 1)

-- l is the laws of a chain of k tasks: one record for each cost, in the order of the cost records
pub record IsLaws (l : List ℕ) (k : ℕ) : Type 0 where
  pub long : length l ≡ law_bytes * law_count k
  pub executions : (t : ℕ) → 1 ≤ t → t ≤ k → States l (execution_place t) 3 t
  pub internals : (t : ℕ) → 1 ≤ t → t < k → States l (internal_place k t) 4 t
  pub externals : (t : ℕ) → 1 ≤ t → t < k → States l (external_place k t) 5 t

-- w is the law of the one record, of those of k tasks, that has that kind and task
pub record LawSays (l : List ℕ) (k kind task : ℕ) (w : Law) : Type 0 where
  pub place : ℕ
  pub there : place < law_count k
  pub kind_is : law_byte l place 0 ≡ kind
  pub task_is : law_byte l place 1 ≡ task
  pub alone : (n : ℕ) → n < law_count k → law_byte l n 0 ≡ kind → law_byte l n 1 ≡ task → n ≡ place
  pub says : w ≡ law_of l place

-- no law gives a value above 1,000,000 on a board of p cores
pub record InBounds (l : List ℕ) (k p : ℕ) : Type 0 where
  pub executions : (t a : ℕ) → 1 ≤ t → t ≤ k → 1 ≤ a → a ≤ p → law_at (law_of l (execution_place t)) a 0 ≤ most_value
  pub internals : (t a : ℕ) → 1 ≤ t → t < k → 1 ≤ a → a ≤ p → law_at (law_of l (internal_place k t)) a 0 ≤ most_value
  pub externals : (t s q : ℕ) → 1 ≤ t → t < k → 1 ≤ s → s ≤ p → 1 ≤ q → q ≤ p → law_at (law_of l (external_place k t)) s q ≤ most_value

-- ---- the service

-- what filling in is to answer: each refusal under its condition, in this order
pub data Fills (head l out : List ℕ) : Result ℕ Refusal → Type 0 where
  enough : (b : Board) → IsFirst head b → IsLaws l b.tasks → InBounds l b.tasks b.cores → 8 * count_of b.tasks b.cores ≤ length out
      → Fills head l out (Ok (8 * count_of b.tasks b.cores))
  first_wrong : (e : Refusal) → FirstFinds head (Err e) → Fills head l out (Err e)
  laws_wrong : (b : Board) → IsFirst head b → (IsLaws l b.tasks → ⊥) → Fills head l out (Err WrongLaws)
  value_wrong : (b : Board) → IsFirst head b → IsLaws l b.tasks → (InBounds l b.tasks b.cores → ⊥) → Fills head l out (Err LawRange)
  output_short : (b : Board) → IsFirst head b → IsLaws l b.tasks → InBounds l b.tasks b.cores
      → length out < 8 * count_of b.tasks b.cores → Fills head l out (Err ShortOutput)

-- s is accepted costs of the first part's board: its records of kinds 1 and 2 are the first part, and each cost that is looked up
-- in it is its law's value
pub record Follows (s head l : List ℕ) (b : Board) : Type 0 where
  pub reads : read_costs s ≡ Ok b
  pub first_part : take (8 * (1 + b.tasks)) s ≡ head
  pub executions : (t p : ℕ) → 1 ≤ t → t ≤ b.tasks → 1 ≤ p → p ≤ b.cores → execution_of s b t p ≡ law_at (law_of l (execution_place t)) p 0
  pub internals : (t p : ℕ) → 1 ≤ t → t < b.tasks → 1 ≤ p → p ≤ b.cores → internal_of s b t p ≡ law_at (law_of l (internal_place b.tasks t)) p 0
  pub externals : (t x q : ℕ) → 1 ≤ t → t < b.tasks → 1 ≤ x → x ≤ b.cores → 1 ≤ q → q ≤ b.cores
      → external_of (pair_of s b t) b.cores x q ≡ law_at (law_of l (external_place b.tasks t)) x q
