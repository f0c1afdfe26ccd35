-- What holds of Judge (document 01, "Three services", "Plan bytes", refusals 7 and 12 to 15; document 02, M-100, refusal 16) and of
-- the single-block time of what it passes (M-104): the laws that a reader looks for. The definitions are in specs/Judge and specs/Timed;
-- specs/Claims has the direct statements. Assumes nothing.
use mathlib.Core.Path.{◌≡◌, ap, ◌∙◌}
use mathlib.Core.Bool.{Bool, true}
use mathlib.Core.List.{List}
use mathlib.Core.Logic.{◌↔◌}
use Prim.Native.Nat.{ℕ, ◌+◌, ◌≤◌}
use lib.ListN.{length, take}
use Rattle.std.specs.Prelude.{Result, Ok}
use Rattle.records.specs.declared.refusal.Refusal.{Refusal}
use Rattle.records.specs.Refusals.{number_in}
use Rattle.records.specs.Filled.{count_in}
use Rattle.modules.specs.declared.Module.{Module}
use Rattle.modules.specs.Model.{Chain}
use Rattle.layout.specs.Layout.{most_modules, plan_bytes, modules_of, encode_plan}
use Rattle.figures.specs.declared.PlanFigures.{PlanFigures}
use Rattle.figures.specs.Rules.{keeps_rules}
use Rattle.figures.specs.Plan.{figures_of}
use Rattle.judge.specs.Judge.{shape_fault, first_failing, judged_bytes, judged}
use Rattle.judge.specs.Timed.{block_time_answer}
use Rattle.judge.specs.Claims.{AllPass, FailsAt, chain, Judges, Passes, Times}
use Rattle.judge.proofs.Bytes as bytes
use Rattle.judge.proofs.Faults as faults
use Rattle.judge.proofs.Passing as passing
use Rattle.judge.proofs.Reading as reading
use Rattle.judge.proofs.Shapes as shapes
use Rattle.judge.proofs.Timing as timing

-- ---- each answer exactly under its condition; passed exactly if the bytes are a plan's that keeps the rules, with its figures

module _ (s w : List ℕ) where
  pub judge_exactly : (a : Result PlanFigures Refusal) → (judged s w ≡ a) ↔ Judges s w a
  judge_exactly a = (λ e. rw e at (passing.judge_finds s w), passing.judge_only s w a)

  pub judge_passes : (number_in (judged s w) ≡ 0) ↔ Passes s w
  judge_passes = (passing.number_passes s w, passing.passes_number s w)

  pub judge_figures : (p : Passes s w) → judged s w ≡ Ok (figures_of (chain s w) p.modules)
  judge_figures = passing.passes_figures s w

  -- "Bytes after the 48th are never read": the answer is that on the first 48 bytes
  pub judge_first : judged s (take plan_bytes w) ≡ judged s w
  judge_first = reading.judge_first s w

-- ---- on costs that were read before, of any chain: bytes that are passed say a plan that keeps the rules, and the answer is its figures

pub bytes_pass : (c : Chain) (w : List ℕ) → number_in (judged_bytes c w) ≡ 0
    → (keeps_rules c (modules_of w c.tasks) ≡ true) × (judged_bytes c w ≡ Ok (figures_of c (modules_of w c.tasks)))
bytes_pass = bytes.bytes_pass

-- ---- M-104: the single-block time of the plan that Judge passes, else Judge's refusal with its place and count 0

module _ (s w : List ℕ) where
  pub block_time_exactly : (a : Result ℕ Refusal) → (block_time_answer s w ≡ a) ↔ Times s w a
  block_time_exactly a = (λ e. rw e at (timing.time_finds s w), timing.time_only s w a)

  -- so it answers a time exactly if Judge passes the bytes
  pub block_time_passes : (number_in (block_time_answer s w) ≡ 0) ↔ Passes s w
  block_time_passes = (
    λ e. (judge_passes s w).0 (timing.time_number s w ∙ e),
    λ p. ap (λ (f : Result ℕ Refusal). number_in f) (timing.time_passed s w p),
  )

  pub block_time_most : count_in (block_time_answer s w) ≤ 23003060
  block_time_most = timing.time_most s w

  pub block_time_first : block_time_answer s (take plan_bytes w) ≡ block_time_answer s w
  block_time_first = timing.time_first s w

-- ---- a test over all modules finds the first that fails, and none exactly if each passes

pub first_fails : (f : Module → Bool) (ms : List Module) (i : ℕ) → (first_failing f 1 ms ≡ i + 1) ↔ FailsAt f ms i
first_fails = faults.first_fails

pub none_fails : (f : Module → Bool) (ms : List Module) → (first_failing f 1 ms ≡ 0) ↔ AllPass f ms
none_fails = faults.none_fails

-- ---- bytes of the right shape are the encoding of the modules that they say

pub encode_decode : (k : ℕ) (w : List ℕ) → plan_bytes ≤ length w → shape_fault k w 1 0 most_modules ≡ 0 → encode_plan (modules_of w k) ≡ take plan_bytes w
encode_decode k w h e = (shapes.shape_plan k w h e).1
