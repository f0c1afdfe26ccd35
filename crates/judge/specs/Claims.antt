-- The documents' words on Judge's refusals as direct statements, beside the definition that runs: when each is due, with which place
-- (document 01; document 02, M-100); and of which plan the single-block time is answered (M-104). Assumes nothing.
use Rattle.std.specs.Prelude.{◌≡◌, Bool, true, false, List, ℕ, zero, suc, ◌+◌, ◌≤◌, ◌<◌, length, get_or, take, Result, Ok, Err}
use Rattle.records.specs.declared.refusal.Refusal.{Refusal}
use Rattle.records.specs.declared.refusal.Refusal.TheVariants.{ShortPlan, BadShape, NoCopies, OverMemory, OverCores, AboveLimit}
use Rattle.records.specs.Refusals.{number_in}
use Rattle.records.specs.Costs.{board_in, read_costs}
use Rattle.modules.specs.declared.Module.{Module}
use Rattle.modules.specs.Model.{Chain, chain_of}
use Rattle.layout.specs.Layout.{most_modules, plan_bytes, module_at, modules_of, encode_plan}
use Rattle.figures.specs.declared.PlanFigures.{PlanFigures}
use Rattle.figures.specs.Model.{cores_of, block_time}
use Rattle.figures.specs.Rules.{keeps_rules}
use Rattle.figures.specs.Plan.{figures_of}
use Rattle.judge.specs.Judge.{is_blank, is_module, copies_test, memory_test, limit_test}

-- ---- refusal 12

-- the task that is due at record i: the first, or the one after the record before
unfoldable pub due_task : List ℕ → ℕ → ℕ
due_task w zero = 1
due_task w (suc i) = (module_at w i).last + 1

-- a record before the i-th ends at task k
pub record Ended (k : ℕ) (w : List ℕ) (i : ℕ) : Type 0 where
  pub at : ℕ
  pub before : at < i
  pub ends : (module_at w at).last ≡ k

-- record i is as it is to be: all 0 behind the one that ends at k, else a module that starts with the due task
pub record RightRecord (k : ℕ) (w : List ℕ) (i : ℕ) : Type 0 where
  pub behind : Ended k w i → is_blank (module_at w i) ≡ true
  pub up_to : (Ended k w i → ⊥) → is_module k (due_task w i) (module_at w i) ≡ true

-- all twelve are, or record i is the first that is not
pub record RightShape (k : ℕ) (w : List ℕ) : Type 0 where
  pub right : (i : ℕ) → i < most_modules → RightRecord k w i

pub record WrongShape (k : ℕ) (w : List ℕ) (i : ℕ) : Type 0 where
  pub there : i < most_modules
  pub before : (j : ℕ) → j < i → RightRecord k w j
  pub wrong : RightRecord k w i → ⊥

-- ---- refusals 13, 14 and 16

abbrev pub no_module : Module
no_module = record { first = 0; last = 0; copies = 0; cores = 0 }

-- every module passes the test, or the i-th, counted from 0, is the first that does not
pub record AllPass (f : Module → Bool) (ms : List Module) : Type 0 where
  pub passes : (i : ℕ) → i < length ms → f (get_or ms i no_module) ≡ true

pub record FailsAt (f : Module → Bool) (ms : List Module) (i : ℕ) : Type 0 where
  pub there : i < length ms
  pub before : (j : ℕ) → j < i → f (get_or ms j no_module) ≡ true
  pub fails : f (get_or ms i no_module) ≡ false

-- ---- Judge

module _ (s w : List ℕ) where
  -- the costs are accepted, and the plan bytes are long enough
  pub record Readable : Type 0 where
    pub accepted : number_in (read_costs s) ≡ 0
    pub long : plan_bytes ≤ length w

  -- the chain of accepted costs, and the modules of the plan bytes
  abbrev pub chain : Chain
  chain = chain_of s (board_in (read_costs s))

  abbrev pub plan : List Module
  plan = modules_of w chain.tasks

  -- what Judge is to answer, each refusal under its condition and with its place
  pub data Judges : Result PlanFigures Refusal → Type 0 where
    costs_wrong : (e : Refusal) → read_costs s ≡ Err e → Judges (Err e)
    bytes_short : number_in (read_costs s) ≡ 0 → length w < plan_bytes → Judges (Err ShortPlan)
    shape_wrong : Readable → (i : ℕ) → WrongShape chain.tasks w i → Judges (Err (BadShape (i + 1)))
    copies_wrong : Readable → RightShape chain.tasks w → (i : ℕ) → FailsAt (copies_test chain) plan i → Judges (Err (NoCopies (i + 1)))
    memory_wrong : Readable → RightShape chain.tasks w → AllPass (copies_test chain) plan → (i : ℕ) → FailsAt (memory_test chain) plan i → Judges (Err (OverMemory (i + 1)))
    limit_wrong : Readable → RightShape chain.tasks w → AllPass (copies_test chain) plan → AllPass (memory_test chain) plan
        → (i : ℕ) → FailsAt (limit_test chain) plan i → Judges (Err (AboveLimit (i + 1)))
    cores_wrong : Readable → RightShape chain.tasks w → AllPass (copies_test chain) plan → AllPass (memory_test chain) plan → AllPass (limit_test chain) plan
        → chain.board < cores_of plan → Judges (Err OverCores)
    passed : Readable → RightShape chain.tasks w → AllPass (copies_test chain) plan → AllPass (memory_test chain) plan → AllPass (limit_test chain) plan
        → cores_of plan ≤ chain.board → Judges (Ok (figures_of chain plan))

  -- the first 48 bytes are a plan's that keeps the rules
  pub record Passes : Type 0 where
    pub readable : Readable
    pub modules : List Module
    pub bytes : encode_plan modules ≡ take plan_bytes w
    pub keeps : keeps_rules chain modules ≡ true

  -- M-104: what is to be answered for the single-block time: that of the plan that Judge passes, else Judge's refusal with its place
  pub data Times : Result ℕ Refusal → Type 0 where
    timed : (p : Passes) → Times (Ok (block_time chain p.modules))
    refused : (e : Refusal) → Judges (Err e) → Times (Err e)
