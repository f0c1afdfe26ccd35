-- What single definitions say where no service shows it, computed on document 01's small dock and on a chain of twelve tasks: what is read
-- of a file, costs and plan bytes out of range, modules without neighbours, figures of plans that break a rule. Assumes nothing.
use Prim.Native.Nat.{ℕ, ◌+◌, ◌*◌, ◌%◌}
use mathlib.Core.Path.{◌≡◌, refl}
use mathlib.Core.Bool.{true, false}
use mathlib.Core.List.{List, [], ◌∷◌, ◌++◌, map}
use lib.ListN.{length, get_or, replicate, set}
use lib.Dec.{eqb}
use Rattle.std.specs.Prelude.{Ok}
use Rattle.records.specs.declared.Board.{Board}
use Rattle.records.specs.Costs.{each_from, join_from, due_keys, count_of, task_meets, key_meets, value_meets, fault_at, first_fault, length_meets, head_meets, board_meets, read_records, read_head, read_board, read_costs}
use Rattle.rounding.specs.Rounding.{rounded_up}
use Rattle.fields.specs.Fields.{value_at}
use Rattle.lookups.specs.Lookups.{within, has_next, cell_of, hand_out_of, need_of, replicable_of, limit_of, execution_of, internal_of, pair_place, pair_of, external_of}
use Rattle.modules.specs.declared.Module.{Module}
use Rattle.modules.specs.Model.{Chain, chain_of, run, gather, body, transfer, handed, response, passage}
use Rattle.modules.specs.Rules.{share, shares, memory_fits, tighter, limit_from, module_limit, allows, within_limit, fewest_from, fewest_cores}
use Rattle.layout.specs.Layout.{record_of, count_from, module_count, modules_from, modules_of, put_module}
use Rattle.figures.specs.Model.{responses, cores_of, slower_of, slowest_from, bottleneck, block_time}
use Rattle.figures.specs.Plan.{figures_of, filled_in, response_at}
use Rattle.starred.specs.Dock.{small_dock, fixed_dock, copying_dock}
use Rattle.starred.specs.Cases.{figures, one, two}

-- the numbers 0 to 5
abbrev pub few : List ℕ
few = 0 ∷ 1 ∷ 2 ∷ 3 ∷ 4 ∷ 5 ∷ []

-- ---- the small dock, on so many cores of a capacity

abbrev pub board : (cores capacity : ℕ) → Board
board cores capacity = record { tasks = 2; cores = cores; capacity = capacity }

abbrev pub dock : Chain
dock = chain_of small_dock (board 4 100)

-- 1,000,000 as the value whose lowest byte that is
abbrev million : ℕ → List ℕ
million at = set (set (set small_dock at 64) (at + 1) 66) (at + 2) 15

-- one task, not replicable, on one core of capacity 7: it needs 1 and takes 2
abbrev smallest : List ℕ
smallest = 1 ∷ 0 ∷ 1 ∷ 1 ∷ 7 ∷ 0 ∷ 0 ∷ 0 ∷ 2 ∷ 1 ∷ 0 ∷ 0 ∷ 1 ∷ 0 ∷ 0 ∷ 0 ∷ 3 ∷ 1 ∷ 1 ∷ 0 ∷ 2 ∷ 0 ∷ 0 ∷ 0 ∷ []

-- what is read of accepted files: with the greatest capacity, need and cost, with a task that is not replicable, with a D (M-106), and of
-- the smallest
readings :
    (read_costs small_dock ≡ Ok (board 4 100))
    × (read_costs (million 4) ≡ Ok (board 4 1000000))
    × (read_costs (million 12) ≡ Ok (board 4 100))
    × (read_costs (million 244) ≡ Ok (board 4 100))
    × (read_costs fixed_dock ≡ Ok (board 4 100))
    × (read_costs (copying_dock 1) ≡ Ok (board 4 100))
    × (read_costs (copying_dock 255) ≡ Ok (board 4 100))
    × (read_costs smallest ≡ Ok (record { tasks = 1; cores = 1; capacity = 7 }))
unfolding value_at each_from join_from due_keys count_of task_meets key_meets value_meets fault_at first_fault length_meets head_meets board_meets read_head read_board read_records read_costs small_dock fixed_dock copying_dock
readings = (refl, refl, refl, refl, refl, refl, refl, refl)

-- costs of tasks and cores that are not there are 0, and their parts empty
needs : map (need_of small_dock (board 4 100)) few ≡ 0 ∷ 50 ∷ 150 ∷ 0 ∷ 0 ∷ 0 ∷ []
unfolding value_at within need_of small_dock
needs = refl

flags : map (replicable_of small_dock (board 4 100)) few ≡ false ∷ true ∷ true ∷ false ∷ false ∷ false ∷ []
unfolding within replicable_of small_dock
flags = refl

-- M-100: task 1 at most 3 cores; what is no task has no limit, though b of the board's record is 2 and of the one after the tasks' 7
limits : map (limit_of (set (set small_dock 11 3) 27 7) (board 4 100)) few ≡ 0 ∷ 3 ∷ 0 ∷ 0 ∷ 0 ∷ 0 ∷ []
unfolding within limit_of small_dock
limits = refl

executions : map (execution_of small_dock (board 4 100) 2) few ++ map (λ t. execution_of small_dock (board 4 100) t 1) few
    ≡ 0 ∷ 20 ∷ 10 ∷ 8 ∷ 6 ∷ 0 ∷ 0 ∷ 12 ∷ 20 ∷ 0 ∷ 0 ∷ 0 ∷ []
unfolding value_at within cell_of execution_of small_dock
executions = refl

internals : map (internal_of small_dock (board 4 100) 1) few ++ map (λ t. internal_of small_dock (board 4 100) t 1) few
    ≡ 0 ∷ 1 ∷ 1 ∷ 1 ∷ 1 ∷ 0 ∷ 0 ∷ 1 ∷ 0 ∷ 0 ∷ 0 ∷ 0 ∷ []
unfolding value_at within has_next cell_of internal_of small_dock
internals = refl

parts : map (λ t. length (pair_of small_dock (board 4 100) t)) few ≡ 0 ∷ 128 ∷ 0 ∷ 0 ∷ 0 ∷ 0 ∷ []
unfolding has_next pair_place pair_of small_dock
parts = refl

externals : map (λ q. external_of (pair_of small_dock (board 4 100) 1) 4 q 4) few ++ map (external_of (pair_of small_dock (board 4 100) 1) 4 1) few
    ≡ 0 ∷ 2 ∷ 2 ∷ 2 ∷ 2 ∷ 0 ∷ 0 ∷ 2 ∷ 2 ∷ 2 ∷ 2 ∷ 0 ∷ []
unfolding value_at within has_next cell_of pair_place pair_of external_of small_dock
externals = refl

-- ---- its modules, at 0 to 5 cores

-- tasks that are not there take no time
bodies :
    (map (body dock 1 2) few ≡ 0 ∷ 33 ∷ 18 ∷ 14 ∷ 11 ∷ 0 ∷ [])
    × (map (body dock 1 1) few ≡ 0 ∷ 12 ∷ 7 ∷ 5 ∷ 4 ∷ 0 ∷ [])
    × (map (body dock 2 2) few ≡ 0 ∷ 20 ∷ 10 ∷ 8 ∷ 6 ∷ 0 ∷ [])
    × (map (body dock 2 1) few ≡ replicate 6 0)
    × (map (body dock 3 3) few ≡ replicate 6 0)
    × (map (body dock 0 255) few ≡ 0 ∷ 33 ∷ 18 ∷ 14 ∷ 11 ∷ 0 ∷ [])
unfolding value_at within has_next cell_of execution_of internal_of run gather body small_dock
bodies = (refl, refl, refl, refl, refl, refl)

-- M-103: task 1's share of 50, task 2's of 150, and both
shared :
    (map (share dock 1) few ≡ 0 ∷ 50 ∷ 25 ∷ 17 ∷ 13 ∷ 10 ∷ [])
    × (map (share dock 2) few ≡ 0 ∷ 150 ∷ 75 ∷ 50 ∷ 38 ∷ 30 ∷ [])
    × (map (shares dock 1 2) few ≡ 0 ∷ 200 ∷ 100 ∷ 67 ∷ 51 ∷ 40 ∷ [])
    × (map (shares dock 2 1) few ≡ replicate 6 0)
unfolding rounded_up value_at within need_of run gather share shares small_dock
shared = (refl, refl, refl, refl)

-- on no cores nothing fits, not even no tasks
memories :
    (map (memory_fits dock 1 2) few ≡ false ∷ false ∷ true ∷ true ∷ true ∷ true ∷ [])
    × (map (memory_fits dock 1 1) few ≡ false ∷ true ∷ true ∷ true ∷ true ∷ true ∷ [])
    × (map (memory_fits dock 2 2) few ≡ false ∷ false ∷ true ∷ true ∷ true ∷ true ∷ [])
    × (map (memory_fits dock 2 1) few ≡ false ∷ replicate 5 true)
unfolding rounded_up value_at within need_of run gather share shares memory_fits small_dock
memories = (refl, refl, refl, refl)

-- M-100: the least limit of a run of tasks with limits 0, 5, 2, 0, 9, 2, those without one left aside; what it allows
abbrev limited : Chain
limited = record {
  tasks = 6;
  board = 9;
  capacity = 1;
  hand_out = 0;
  need = λ t. 0;
  replicable = λ t. true;
  limit = λ t. get_or (0 ∷ 0 ∷ 5 ∷ 2 ∷ 0 ∷ 9 ∷ 2 ∷ []) t 0;
  execution = λ t p. 0;
  internal = λ t p. 0;
  external = λ t s q. 0;
}

module_limits :
    (map (module_limit limited 1) few ≡ 0 ∷ 0 ∷ 5 ∷ 2 ∷ 2 ∷ 2 ∷ [])
    × (map (λ t. module_limit limited t 5) few ≡ 2 ∷ 2 ∷ 2 ∷ 2 ∷ 9 ∷ 9 ∷ [])
    × (map (within_limit limited 1 3) few ≡ true ∷ true ∷ true ∷ false ∷ false ∷ false ∷ [])
    × (map (within_limit limited 4 4) few ≡ replicate 6 true)
    × (within_limit limited 4 5 9 ≡ true) × (within_limit limited 4 5 10 ≡ false) × (within_limit limited 4 6 3 ≡ false)
unfolding tighter limit_from module_limit allows within_limit
module_limits = (refl, refl, refl, refl, refl, refl, refl)

-- of tasks 1 to 2, 1, 2, 3 (which is not there) and 2 to 1; one more than the board has where none do
fewest : (cores capacity : ℕ) → List ℕ
fewest cores capacity =
    let c = chain_of small_dock (board cores capacity) in
    fewest_cores c 1 2 ∷ fewest_cores c 1 1 ∷ fewest_cores c 2 2 ∷ fewest_cores c 3 3 ∷ fewest_cores c 2 1 ∷ []

fewest_cores_lem :
    (fewest 4 100 ≡ 2 ∷ 1 ∷ 2 ∷ 1 ∷ 1 ∷ [])
    × (fewest 4 51 ≡ 4 ∷ 1 ∷ 3 ∷ 1 ∷ 1 ∷ [])
    × (fewest 4 50 ≡ 5 ∷ 1 ∷ 3 ∷ 1 ∷ 1 ∷ [])
    × (fewest 4 49 ≡ 5 ∷ 2 ∷ 4 ∷ 1 ∷ 1 ∷ [])
    × (fewest 5 40 ≡ 5 ∷ 2 ∷ 4 ∷ 1 ∷ 1 ∷ [])
    × (fewest 255 1 ≡ 256 ∷ 50 ∷ 150 ∷ 1 ∷ 1 ∷ [])
    × (fewest 4 1 ≡ 5 ∷ 5 ∷ 5 ∷ 1 ∷ 1 ∷ [])
    × (fewest_cores (chain_of small_dock (board 255 0)) 1 1 ≡ 256)
unfolding rounded_up value_at within need_of run gather share shares memory_fits fewest_from fewest_cores small_dock fewest
fewest_cores_lem = (refl, refl, refl, refl, refl, refl, refl, refl)

-- nothing is sent without a sender or a receiver, with cores that the board does not have, or from a task without a next one
transfers : map (transfer dock 1 4) few ++ map (transfer dock 1 0) few ++ map (λ s. transfer dock 1 s 1) few ++ map (λ t. transfer dock t 1 1) few
    ≡ 0 ∷ 2 ∷ 2 ∷ 2 ∷ 2 ∷ 0 ∷ replicate 6 0 ++ 0 ∷ 2 ∷ 2 ∷ 2 ∷ 2 ∷ 0 ∷ 0 ∷ 2 ∷ 0 ∷ 0 ∷ 0 ∷ 0 ∷ []
unfolding value_at within has_next cell_of pair_place pair_of external_of transfer small_dock
transfers = refl

-- D is 0, so copies don't enter a response; task 1 receives nothing and task 2 sends nothing, whatever stands beside them
between :
    (response dock 0 1 1 2 1 2 ≡ 14) × (response dock 1 2 2 1 2 0 ≡ 12) × (response dock 0 1 2 2 2 0 ≡ 18) × (response dock 0 1 2 7 2 0 ≡ 18)
    × (response dock 0 1 1 1 1 0 ≡ 12) × (response dock 3 1 1 1 1 0 ≡ 12) × (response dock 0 2 2 1 2 0 ≡ 10) × (response dock 0 2 2 1 2 3 ≡ 10)
    × (response dock 3 1 2 1 2 3 ≡ 18)
unfolding hand_out_of value_at within has_next cell_of execution_of internal_of pair_place pair_of external_of run gather body transfer handed response small_dock
between = (refl, refl, refl, refl, refl, refl, refl, refl, refl)

-- ---- plans of it: figures are no judgement

-- the third and the fourth break a rule, the last has a record behind its one module
plans :
    (filled_in (figures_of dock (modules_of (one 1 2 2 2) 2)) ≡ figures 1 4 1 18 2)
    × (filled_in (figures_of dock (modules_of (two 1 1 2 1 2 2 1 2) 2)) ≡ figures 2 4 2 12 1)
    × (filled_in (figures_of dock (modules_of (one 1 2 1 1) 2)) ≡ figures 1 1 1 33 1)
    × (filled_in (figures_of dock (modules_of (two 1 1 2 1 2 2 1 3) 2)) ≡ figures 2 5 2 10 1)
    × (filled_in (figures_of dock (modules_of (two 1 2 2 2 2 2 1 1) 2)) ≡ figures 1 4 1 18 2)
    × (filled_in (figures_of dock (modules_of (one 1 2 2 2 ++ replicate 12 255) 2)) ≡ figures 1 4 1 18 2)
unfolding hand_out_of value_at within has_next cell_of execution_of internal_of pair_place pair_of external_of run gather body transfer handed response count_from module_count modules_from modules_of cores_of slower_of slowest_from bottleneck figures_of small_dock
plans = (refl, refl, refl, refl, refl, refl)

-- the responses of modules 0, 1, 2, 12 and 4,294,967,295; 0 where there is none
abbrev each : Chain → List Module → List ℕ
each c ms = map (response_at c ms) (0 ∷ 1 ∷ 2 ∷ 12 ∷ 4294967295 ∷ [])

each_response :
    (each dock (modules_of (one 1 2 2 2) 2) ≡ 18 ∷ 0 ∷ 0 ∷ 0 ∷ 0 ∷ [])
    × (each dock (modules_of (two 1 1 2 1 2 2 1 2) 2) ≡ 14 ∷ 12 ∷ 0 ∷ 0 ∷ 0 ∷ [])
    × (each dock (modules_of (one 1 2 1 1) 2) ≡ 33 ∷ 0 ∷ 0 ∷ 0 ∷ 0 ∷ [])
    × (each dock (modules_of (two 1 1 2 1 2 2 1 3) 2) ≡ 14 ∷ 10 ∷ 0 ∷ 0 ∷ 0 ∷ [])
    × (each dock (modules_of (two 1 2 2 2 2 2 1 1) 2) ≡ 18 ∷ 0 ∷ 0 ∷ 0 ∷ 0 ∷ [])
unfolding hand_out_of value_at within has_next cell_of execution_of internal_of pair_place pair_of external_of run gather body transfer handed response count_from module_count modules_from modules_of responses response_at small_dock
each_response = (refl, refl, refl, refl, refl)

-- M-104: their single-block times, in which the external transfer of 2 is once
times :
    (block_time dock (modules_of (one 1 2 2 2) 2) ≡ 18)
    × (block_time dock (modules_of (one 1 2 1 2) 2) ≡ 18)
    × (block_time dock (modules_of (two 1 1 2 1 2 2 1 2) 2) ≡ 24)
    × (block_time dock (modules_of (one 1 2 1 1) 2) ≡ 33)
    × (block_time dock (modules_of (two 1 1 2 1 2 2 1 3) 2) ≡ 22)
    × (block_time dock (modules_of (two 1 2 2 2 2 2 1 1) 2) ≡ 18)
    × (block_time dock [] ≡ 0)
unfolding hand_out_of value_at within has_next cell_of execution_of internal_of pair_place pair_of external_of run gather body transfer handed passage count_from module_count modules_from modules_of block_time small_dock
times = (refl, refl, refl, refl, refl, refl, refl)

-- ---- plan bytes

-- modules are counted up to the one that ends at k, here 2, 1 and 3; twelve where none does
counts :
    (map (module_count (one 1 2 2 2)) (2 ∷ 1 ∷ 3 ∷ []) ≡ 1 ∷ 12 ∷ 12 ∷ [])
    × (map (module_count (two 1 1 2 1 2 2 1 2)) (2 ∷ 1 ∷ 3 ∷ []) ≡ 2 ∷ 1 ∷ 12 ∷ [])
    × (map (module_count []) (2 ∷ 1 ∷ 3 ∷ []) ≡ 12 ∷ 12 ∷ 12 ∷ [])
unfolding count_from module_count
counts = (refl, refl, refl)

abbrev four : (first last r p : ℕ) → Module
four first last r p = record { first = first; last = last; copies = r; cores = p }

-- what lies past the end reads as 0; 47 bytes have three of the last record, and of 60 those after the 48th are never read
records :
    (map (record_of (two 1 1 2 1 2 2 1 2)) (0 ∷ 1 ∷ 2 ∷ 11 ∷ 12 ∷ 4294967295 ∷ []) ≡ four 1 1 2 1 ∷ four 2 2 1 2 ∷ replicate 4 (four 0 0 0 0))
    × (record_of [] 0 ≡ four 0 0 0 0)
    × (record_of (replicate 47 9) 11 ≡ four 9 9 9 0)
    × (map (record_of (replicate 60 9)) (11 ∷ 12 ∷ 14 ∷ []) ≡ four 9 9 9 9 ∷ replicate 2 (four 0 0 0 0))
unfolding record_of
records = (refl, refl, refl, refl)

-- the module 1 2 3 4 put as record i of so many nines
abbrev put : (bytes i : ℕ) → List ℕ
put bytes i = put_module (replicate bytes 9) i (four 1 2 3 4)

-- 47 bytes are no plan's, and there is no record 12 or later
all_put :
    (put 48 0 ≡ 1 ∷ 2 ∷ 3 ∷ 4 ∷ replicate 44 9) × (put 60 0 ≡ 1 ∷ 2 ∷ 3 ∷ 4 ∷ replicate 56 9)
    × (put 48 1 ≡ replicate 4 9 ++ 1 ∷ 2 ∷ 3 ∷ 4 ∷ replicate 40 9) × (put 60 1 ≡ replicate 4 9 ++ 1 ∷ 2 ∷ 3 ∷ 4 ∷ replicate 52 9)
    × (put 48 11 ≡ replicate 44 9 ++ 1 ∷ 2 ∷ 3 ∷ 4 ∷ []) × (put 60 11 ≡ replicate 44 9 ++ 1 ∷ 2 ∷ 3 ∷ 4 ∷ replicate 12 9)
    × (map (put 47) (0 ∷ 1 ∷ 11 ∷ 12 ∷ 4294967295 ∷ []) ≡ replicate 5 (replicate 47 9))
    × (map (put 48) (12 ∷ 4294967295 ∷ []) ≡ replicate 2 (replicate 48 9))
    × (map (put 60) (12 ∷ 4294967295 ∷ []) ≡ replicate 2 (replicate 60 9))
unfolding put_module
all_put = (refl, refl, refl, refl, refl, refl, refl, refl, refl)

-- ---- twelve tasks on 32 cores: task t needs 10 t and takes 1000 t + p, its internal transfer takes 100 t + p, its external one
-- 10000 t + 100 s + q; odd tasks are replicable; handing out costs 7 (M-106)

abbrev rising : Chain
rising = record {
  tasks = 12;
  board = 32;
  capacity = 100;
  hand_out = 7;
  need = λ t. 10 * t;
  replicable = λ t. eqb (t % 2) 1;
  limit = λ t. 0;
  execution = λ t p. 1000 * t + p;
  internal = λ t p. 100 * t + p;
  external = λ t s q. 10000 * t + 100 * s + q;
}

-- each task by itself, on 1, 2 or 3 cores in turn
abbrev twelve : List Module
twelve =
    four 1 1 1 1 ∷ four 2 2 1 2 ∷ four 3 3 1 3 ∷ four 4 4 1 1 ∷ four 5 5 1 2 ∷ four 6 6 1 3
    ∷ four 7 7 1 1 ∷ four 8 8 1 2 ∷ four 9 9 1 3 ∷ four 10 10 1 1 ∷ four 11 11 1 2 ∷ four 12 12 1 3 ∷ []

rising_responses :
    (responses rising 0 twelve
    ≡ 11103 ∷ 32307 ∷ 53507 ∷ 74404 ∷ 95307 ∷ 116507 ∷ 137404 ∷ 158307 ∷ 179507 ∷ 200404 ∷ 221307 ∷ 122206 ∷ [])
    × (responses rising 0 (four 1 12 1 32 ∷ []) ≡ 85336 ∷ [])
    × (responses rising 0 (four 1 12 4 8 ∷ []) ≡ 84791 ∷ [])
    × (responses rising 0 (four 1 6 1 20 ∷ four 7 12 1 12 ∷ []) ≡ 84732 ∷ 123644 ∷ [])
    × (responses rising 0 (four 1 6 1 12 ∷ four 7 12 1 20 ∷ []) ≡ 83852 ∷ 122940 ∷ [])
    × (response rising 3 4 6 1 5 7 ≡ 106737)
    × (response rising 0 4 6 1 5 0 ≡ 15925)
unfolding run gather body transfer handed response responses
rising_responses = (refl, refl, refl, refl, refl, refl, refl)

-- M-104: the sums of these responses less the external transfers
rising_times :
    (block_time rising twelve ≡ 740147)
    × (block_time rising (four 1 12 1 32 ∷ []) ≡ 85336)
    × (block_time rising (four 1 12 4 8 ∷ []) ≡ 84791)
    × (block_time rising (four 1 6 1 20 ∷ four 7 12 1 12 ∷ []) ≡ 146364)
    × (block_time rising (four 1 6 1 12 ∷ four 7 12 1 20 ∷ []) ≡ 145572)
    × (passage rising 4 6 1 5 7 ≡ 76432)
    × (passage rising 4 6 9 5 0 ≡ 15932)
unfolding run gather body transfer handed passage block_time
rising_times = (refl, refl, refl, refl, refl, refl, refl)
