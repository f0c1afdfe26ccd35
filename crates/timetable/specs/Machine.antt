-- The stream of blocks through a plan with one copy of each module (document 02, M-105), as direct facts about when each execution and each
-- transfer of each block starts and ends. Modules are counted from 0, blocks from 1. Assumes nothing.
use Rattle.std.specs.Prelude.{ℕ, ◌+◌, ◌-◌, ◌≤◌, ◌<◌, ◌≡◌, cond, List, ◌⊎◌, leb, ltb, length}
use Rattle.timetable.specs.Stages.{Stage, stage_at}

-- when module i starts to execute block n and when it has executed it, when its transfer of block n to module i + 1 starts, and when that ends
pub record Schedule : Type 0 where
  pub executes : (i n : ℕ) → ℕ
  pub executed : (i n : ℕ) → ℕ
  pub sends : (i n : ℕ) → ℕ
  pub sent : (i n : ℕ) → ℕ

module _ (ss : List Stage) (t : Schedule) where
  -- when module i is through with block n, and "turns to the next block": the last one when it has executed, every other one when it has sent
  abbrev pub through : (i n : ℕ) → ℕ
  through i n = cond (ltb (i + 1) (length ss)) (t.sent i n) (t.executed i n)

  -- the tick from which on module i is free for block n: tick 0 for block 1, else that at which it is through with the block before
  abbrev pub free : (i n : ℕ) → ℕ
  free i n = cond (leb n 1) 0 (through i (n - 1))

  -- what every schedule keeps, also one that dawdles
  pub record Keeps : Type 0 where
    -- an execution takes the module's body, and a transfer its time, "from start to end"
    pub executing : (i n : ℕ) → i < length ss → 1 ≤ n → t.executed i n ≡ t.executes i n + (stage_at ss i).body
    pub sending : (i n : ℕ) → i + 1 < length ss → 1 ≤ n → t.sent i n ≡ t.sends i n + (stage_at ss i).send
    -- "a module receives, executes, sends": the first one has its input, the others execute what they have received
    pub takes : (n : ℕ) → 0 < length ss → 1 ≤ n → free 0 n ≤ t.executes 0 n
    pub receives : (i n : ℕ) → i + 1 < length ss → 1 ≤ n → t.sent i n ≤ t.executes (i + 1) n
    -- a transfer "occupies sender and receiver": it starts when the sender has executed the block and the receiver is through with the one
    -- before; until it ends the sender is not through (`through`), and the receiver does not execute (`receives`)
    pub sender : (i n : ℕ) → i + 1 < length ss → 1 ≤ n → t.executed i n ≤ t.sends i n
    pub receiver : (i n : ℕ) → i + 1 < length ss → 1 ≤ n → free (i + 1) n ≤ t.sends i n

  -- nothing starts later than it must
  pub record Prompt : Type 0 where
    -- "Block 1 starts at tick 0 and input is always waiting"
    pub takes : (n : ℕ) → 0 < length ss → 1 ≤ n → t.executes 0 n ≤ free 0 n
    -- what is received is executed at once
    pub receives : (i n : ℕ) → i + 1 < length ss → 1 ≤ n → t.executes (i + 1) n ≤ t.sent i n
    -- a transfer "starts as soon as both are free for it": at the tick at which the sender is, or at that at which the receiver is
    pub starts : (i n : ℕ) → i + 1 < length ss → 1 ≤ n → (t.sends i n ≤ t.executed i n) ⊎ (t.sends i n ≤ free (i + 1) n)

  -- the schedule of the request
  pub record Runs : Type 0 where
    pub keeps : Keeps
    pub prompt : Prompt

-- two schedules say the same of every execution and transfer of a stream
pub record Same (ss : List Stage) (t u : Schedule) : Type 0 where
  pub executes : (i n : ℕ) → i < length ss → 1 ≤ n → t.executes i n ≡ u.executes i n
  pub executed : (i n : ℕ) → i < length ss → 1 ≤ n → t.executed i n ≡ u.executed i n
  pub sends : (i n : ℕ) → i + 1 < length ss → 1 ≤ n → t.sends i n ≡ u.sends i n
  pub sent : (i n : ℕ) → i + 1 < length ss → 1 ≤ n → t.sent i n ≡ u.sent i n

-- the first has nothing later than the second
pub record NoLater (ss : List Stage) (t u : Schedule) : Type 0 where
  pub executes : (i n : ℕ) → i < length ss → 1 ≤ n → t.executes i n ≤ u.executes i n
  pub executed : (i n : ℕ) → i < length ss → 1 ≤ n → t.executed i n ≤ u.executed i n
  pub sends : (i n : ℕ) → i + 1 < length ss → 1 ≤ n → t.sends i n ≤ u.sends i n
  pub sent : (i n : ℕ) → i + 1 < length ss → 1 ≤ n → t.sent i n ≤ u.sent i n
