-- Document 02's words on the timetable (M-105) as a direct statement, beside the definition that runs: each refusal under its condition, with its
-- place, and the table by the schedule that the machine runs. Assumes nothing.
use Rattle.std.specs.Prelude.{ℕ, ◌+◌, ◌-◌, ◌≤◌, ◌≡◌, List, length, get_or, drop, Result, Ok, Err}
use Rattle.records.specs.declared.refusal.Refusal.{Refusal}
use Rattle.records.specs.declared.refusal.Refusal.TheVariants.{Copied, WrongBlocks}
use Rattle.judge.specs.Claims.{AllPass, FailsAt, chain, Judges, Passes}
use Rattle.timetable.specs.Machine.{Schedule, through, Runs}
use Rattle.timetable.specs.Stages.{Stage, stages}
use Rattle.timetable.specs.Timetable.{most_blocks, single_test}

-- n blocks may be asked for, and the table has an entry for each
pub record Asked (n : ℕ) (table : List ℕ) : Type 0 where
  pub some : 1 ≤ n
  pub most : n ≤ most_blocks
  pub room : n ≤ length table

-- "the end of the last module for blocks 1 to n", block 1 in the first entry; what is lent beyond them is unchanged
pub record Holds (ss : List Stage) (t : Schedule) (n : ℕ) (table after : List ℕ) : Type 0 where
  pub size : length after ≡ length table
  pub ends : (b : ℕ) → 1 ≤ b → b ≤ n → get_or after (b - 1) 0 ≡ through ss t (length ss - 1) b
  pub rest : drop n after ≡ drop n table

-- what is to be answered, and what the table is to hold then
pub data Tables (s w : List ℕ) (n : ℕ) (table : List ℕ) : Result ℕ Refusal → List ℕ → Type 0 where
  -- "after Judge's refusals"
  refused : (e : Refusal) → Judges s w (Err e) → Tables s w n table (Err e) table
  -- "a plan with copies with 20 (place the module)": the first module with r above 1
  copied : (p : Passes s w) → (i : ℕ) → FailsAt single_test p.modules i → Tables s w n table (Err (Copied (i + 1))) table
  -- "n outside 1 to 1,000 with 21; a table shorter than n entries counts as 21 too"
  unasked : (p : Passes s w) → AllPass single_test p.modules → (Asked n table → ⊥) → Tables s w n table (Err WrongBlocks) table
  filled : (p : Passes s w) → AllPass single_test p.modules → Asked n table → (t : Schedule) → Runs (stages (chain s w) p.modules) t → (after : List ℕ)
      → Holds (stages (chain s w) p.modules) t n table after → Tables s w n table (Ok n) after
