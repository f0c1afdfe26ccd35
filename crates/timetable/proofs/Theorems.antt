-- The theorems of the timetable (document 02, M-105). The machine is specs/Machine, the definition that runs specs/Timetable, and what is to be answered
-- specs/Claims. Assumes nothing.
use Prim.Native.Nat.{ℕ, ◌*◌, ◌+◌, ◌-◌, ◌≤◌}
use native.Mathlib.Nat.{mul-le-mul}
use native.Mathlib.Omega.{arith}
use mathlib.Core.Path.{◌≡◌, sym}
use mathlib.Core.Bool.{true}
use mathlib.Core.List.{List}
use mathlib.Core.Logic.{◌↔◌}
use lib.ListN.{length, get_or, take, drop}
use Rattle.std.specs.Prelude.{Result}
use Rattle.records.specs.declared.refusal.Refusal.{Refusal}
use Rattle.records.specs.Refusals.{number_in}
use Rattle.records.specs.Filled.{count_in}
use Rattle.records.specs.Costs.{board_in, read_costs}
use Rattle.figures.specs.Plan.{answer_of}
use Rattle.modules.specs.declared.Module.{Module}
use Rattle.modules.specs.Model.{Chain}
use Rattle.layout.specs.Layout.{plan_bytes}
use Rattle.layout.proofs.First.{plan_first}
use Rattle.figures.specs.Model.{bottleneck, block_time}
use Rattle.figures.specs.Rules.{covers}
use Rattle.judge.specs.Judge.{judged}
use Rattle.judge.specs.Timed.{block_time_answer}
use Rattle.judge.specs.Claims.{AllPass}
use Rattle.judge.proofs.Laws.{judge_first}
use Rattle.timetable.specs.Claims.{Tables}
use Rattle.timetable.specs.Machine.{Schedule, through, Keeps, Runs, Same, NoLater}
use Rattle.timetable.specs.Stages.{stages}
use Rattle.timetable.specs.Timetable.{schedule_of, most_blocks, single_test, timetable_answer, timetable_entries}
use Rattle.timetable.proofs.Only as only
use Rattle.timetable.proofs.Streamed as streamed
use Rattle.timetable.proofs.Tabled as tabled

-- ---- the machine, on every chain and every list of modules

module _ (c : Chain) (ms : List Module) (t : Schedule) where
  -- a schedule runs exactly if it says of every execution and transfer what the recurrence says: there is one, and only one
  pub schedule_exactly : Runs (stages c ms) t ↔ Same (stages c ms) t (schedule_of (stages c ms))
  schedule_exactly = only.runs_exactly (stages c ms) (tabled.last_still c ms) t

  -- nothing can start earlier: a schedule that keeps the machine's rules, however it dawdles, has nothing sooner
  pub schedule_earliest : Keeps (stages c ms) t → NoLater (stages c ms) (schedule_of (stages c ms)) t
  schedule_earliest k = only.schedule_earliest (stages c ms) (tabled.last_still c ms) k

-- every plan of the whole chain with one copy of each module, and every n from 1
module _ (c : Chain) (ms : List Module) (some : 1 ≤ length ms) (covered : covers c.tasks 1 ms ≡ true) (single : AllPass single_test ms) where
  -- the bottleneck is its response, divided by one copy
  pub stream_single : (bottleneck c ms).copies ≡ 1
  stream_single = streamed.bottleneck_single c ms some covered single

  module _ (t : Schedule) (runs : Runs (stages c ms) t) (n : ℕ) (some_blocks : 1 ≤ n) where
    -- block n ends a single block's time after n - 1 bottlenecks, to the tick
    pub stream_ends : through (stages c ms) t (length (stages c ms) - 1) n ≡ (n - 1) * (bottleneck c ms).response + block_time c ms
    stream_ends = streamed.stream_ends c ms some covered single runs n some_blocks

    -- so, in the request's words: "with bottleneck B and single-block time L, block n ends no sooner than n·B and no later than (n − 1)·B + L"
    pub stream_bounds : (n * (bottleneck c ms).response ≤ through (stages c ms) t (length (stages c ms) - 1) n)
        × (through (stages c ms) t (length (stages c ms) - 1) n ≤ (n - 1) * (bottleneck c ms).response + block_time c ms)
    stream_bounds =
        omega (arith, stream_ends, streamed.bottlenecks n (bottleneck c ms).response (block_time c ms) some_blocks (streamed.bottleneck_alone c ms some covered single))

-- ---- the service, for all costs, plan bytes, counts and tables

module _ (s w : List ℕ) (n : ℕ) (table : List ℕ) where
  -- each answer and each table exactly as the request says
  pub timetable_exactly : (a : Result ℕ Refusal) (after : List ℕ) → ((timetable_answer s w n table ≡ a) × (timetable_entries s w n table ≡ after)) ↔ Tables s w n table a after
  timetable_exactly a after = (
    λ e. rw (e.0, e.1) at (tabled.tables_finds s w n table),
    λ t. let x = tabled.tables_only s w n table a after t in (sym x.0, sym x.1),
  )

  -- what is answered is what the request says
  said : Tables s w n table (timetable_answer s w n table) (timetable_entries s w n table)
  said = tabled.tables_finds s w n table

  module _ (filled : number_in (timetable_answer s w n table) ≡ 0) where
    -- n entries are filled in, and the table is as long as it was, and behind them as lent
    pub timetable_filled : (count_in (timetable_answer s w n table) ≡ n) × (length (timetable_entries s w n table) ≡ length table) × (drop n (timetable_entries s w n table) ≡ drop n table)
    timetable_filled = tabled.filled_lent s w n table _ _ said filled

    -- the bottleneck that Judge answers is its response: it is divided by one copy
    pub timetable_single : (answer_of (judged s w)).copies ≡ 1
    timetable_single = streamed.tables_single s w n table _ _ said filled

    -- each entry, with B as Judge answers it and L as it is answered for the same bytes
    module _ (b : ℕ) (some : 1 ≤ b) (most : b ≤ n) where
      entry : (get_or (timetable_entries s w n table) (b - 1) 0 ≡ (b - 1) * (answer_of (judged s w)).response + count_in (block_time_answer s w))
          × ((answer_of (judged s w)).response ≤ count_in (block_time_answer s w)) × ((answer_of (judged s w)).response ≤ 23000000) × (count_in (block_time_answer s w) ≤ 23000000)
      entry = streamed.tables_ends s w n table _ _ said filled b some most

      pub timetable_ends : get_or (timetable_entries s w n table) (b - 1) 0 ≡ (b - 1) * (answer_of (judged s w)).response + count_in (block_time_answer s w)
      timetable_ends = entry.0

      pub timetable_bounds : (b * (answer_of (judged s w)).response ≤ get_or (timetable_entries s w n table) (b - 1) 0)
          × (get_or (timetable_entries s w n table) (b - 1) 0 ≤ (b - 1) * (answer_of (judged s w)).response + count_in (block_time_answer s w))
      timetable_bounds = omega (arith, entry.0, streamed.bottlenecks b (answer_of (judged s w)).response (count_in (block_time_answer s w)) some entry.1)

      -- so every entry fits 35 bits
      pub timetable_most : get_or (timetable_entries s w n table) (b - 1) 0 ≤ 23000000000
      timetable_most =
          let few : b - 1 ≤ most_blocks - 1 = omega (arith, tabled.filled_most s w n table _ _ said filled) in
          omega (arith, entry.0, mul-le-mul few entry.2, entry.3)

  -- a refusal fills in nothing and leaves the table as lent, whole
  pub timetable_refused : (number_in (timetable_answer s w n table) ≡ 0 → ⊥) → (count_in (timetable_answer s w n table) ≡ 0) × (timetable_entries s w n table ≡ table)
  timetable_refused = tabled.refused_lent s w n table _ _ said

  -- of what the table held nothing counts, only its length
  module _ (table' : List ℕ) (same : length table ≡ length table') where
    pub timetable_answer_same : timetable_answer s w n table ≡ timetable_answer s w n table'
    timetable_answer_same = tabled.answer_same s w n table table' same

    pub timetable_entries_same : number_in (timetable_answer s w n table) ≡ 0 → take n (timetable_entries s w n table) ≡ take n (timetable_entries s w n table')
    timetable_entries_same = tabled.entries_same s w n table table' same

  -- "Bytes after the 48th are never read"
  pub timetable_first : (timetable_answer s (take plan_bytes w) n table ≡ timetable_answer s w n table) × (timetable_entries s (take plan_bytes w) n table ≡ timetable_entries s w n table)
  unfolding timetable_answer timetable_entries
  timetable_first = (rw (judge_first s w, plan_first w (board_in (read_costs s)).tasks), rw (judge_first s w, plan_first w (board_in (read_costs s)).tasks))
