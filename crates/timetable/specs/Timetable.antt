-- The timetable of a stream (document 02, M-105): when each module is through with each block, by recurrence, and the service. That the
-- recurrence is the one schedule of specs/Machine is `schedule_exactly` (proofs/Theorems). Assumes nothing.
use Rattle.std.specs.Prelude.{ℕ, zero, suc, pred, ◌+◌, max, List, [], ◌∷◌, ◌++◌, Bool, cond, ◌&&◌, leb, eqb, length, get_or, drop, replicate, Result, Ok, Err}
use Rattle.records.specs.declared.refusal.Refusal.{Refusal}
use Rattle.records.specs.declared.refusal.Refusal.TheVariants.{Copied, WrongBlocks}
use Rattle.records.specs.Refusals.{number_in, and_then}
use Rattle.records.specs.Costs.{board_in, read_costs}
use Rattle.modules.specs.declared.Module.{Module}
use Rattle.modules.specs.Model.{chain_of}
use Rattle.layout.specs.Layout.{modules_of}
use Rattle.judge.specs.Judge.{first_failing, judged}
use Rattle.timetable.specs.Machine.{Schedule}
use Rattle.timetable.specs.Stages.{Stage, stage_at, stages}

-- ---- the recurrence

-- when a module is through with a block that it has at `ready`: it executes it and, as soon as the next module is free, sends it
unfoldable pub through_at : Stage → (ready free : ℕ) → ℕ
through_at s ready free = max (ready + s.body) free + s.send

-- when each of the modules is through with a block that the first of them has at `ready`; `before` is when each was through with the block
-- before, and a module that does not exist is free from tick 0 on
unfoldable pub pass : (ready : ℕ) → List Stage → (before : List ℕ) → List ℕ
pass ready [] before = []
pass ready (s ∷ ss) before =
    let out = through_at s ready (get_or before 1 0) in
    out ∷ pass out ss (drop 1 before)

-- when each module is through with block n: the first one has a block when it is through with the one before, the first block at tick 0
unfoldable pub throughs : List Stage → ℕ → List ℕ
throughs ss zero = replicate (length ss) 0
throughs ss (suc n) = pass (get_or (throughs ss n) 0 0) ss (throughs ss n)

-- the last of the times, `from` where there is none
unfoldable pub last_of : ℕ → List ℕ → ℕ
last_of from [] = from
last_of from (x ∷ xs) = last_of x xs

-- when the last module is through with block n
unfoldable pub end_of : List Stage → ℕ → ℕ
end_of ss n = last_of 0 (throughs ss n)

-- the ends of n blocks from block b on
unfoldable pub ends : List Stage → (b n : ℕ) → List ℕ
ends ss b zero = []
ends ss b (suc n) = end_of ss b ∷ ends ss (b + 1) n

-- the same as a schedule: of each module and block its start, its execution's end, its transfer's start and its transfer's end
abbrev pub starts : List Stage → (i n : ℕ) → ℕ
starts ss zero n = get_or (throughs ss (pred n)) 0 0
starts ss (suc i) n = get_or (throughs ss n) i 0

abbrev pub schedule_of : List Stage → Schedule
schedule_of ss = record {
  executes = starts ss;
  executed = λ i n. starts ss i n + (stage_at ss i).body;
  sends = λ i n. max (starts ss i n + (stage_at ss i).body) (get_or (throughs ss (pred n)) (i + 1) 0);
  sent = λ i n. get_or (throughs ss n) i 0;
}

-- ---- the service

-- the most blocks of a table
abbrev pub most_blocks : ℕ
most_blocks = 1000

-- 20: the module's r is not above 1
abbrev pub single_test : Module → Bool
single_test m = leb m.copies 1

-- 21: n is from 1 to 1,000, and the table has room for n entries
abbrev pub blocks_test : (n room : ℕ) → Bool
blocks_test n room = leb 1 n && leb n most_blocks && leb n room

-- what is answered to costs, plan bytes, a count of blocks and a table: Judge's refusals, then 20, then 21
unfoldable pub timetable_answer : List ℕ → List ℕ → ℕ → List ℕ → Result ℕ Refusal
timetable_answer s w n table =
    let copied = first_failing single_test 1 (modules_of w (board_in (read_costs s)).tasks) in
    and_then (λ f. cond (eqb copied 0) (cond (blocks_test n (length table)) (Ok n) (Err WrongBlocks)) (Err (Copied copied))) (judged s w)

-- and what the table then holds: the ends of blocks 1 to n before what lay behind them; what was lent in a refusal
unfoldable pub timetable_entries : List ℕ → List ℕ → ℕ → List ℕ → List ℕ
timetable_entries s w n table =
    let c = chain_of s (board_in (read_costs s)) in
    cond (eqb (number_in (timetable_answer s w n table)) 0) (ends (stages c (modules_of w c.tasks)) 1 n ++ drop n table) table
