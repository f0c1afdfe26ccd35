-- The single-block time as a service (document 02, M-104): Judge's refusals, else the time of the plan that Judge passes, which is at most
-- 23,003,060 ticks. By what Judge passes. Assumes nothing.
use mathlib.Core.Path.{◌≡◌, sym, ap, subst, ◌∙◌}
use mathlib.Core.Bool.{true}
use mathlib.Core.List.{List}
use mathlib.Core.Logic.{⊎_elim}
use Prim.Native.Nat.{ℕ, ◌≤◌}
use native.Mathlib.Omega.{arith}
use lib.ListN.{take}
use Rattle.std.specs.Prelude.{Result, Ok, Err}
use Rattle.records.specs.declared.refusal.Refusal.{Refusal}
use Rattle.records.specs.Refusals.{number_in}
use Rattle.records.proofs.Refusing.{refused_or_not}
use Rattle.records.specs.declared.Board.{Board}
use Rattle.records.specs.Costs.{board_in, read_costs}
use Rattle.records.specs.Filled.{count_in}
use Rattle.records.proofs.Laws.{accepted_costs, read_accepts}
use Rattle.modules.specs.Model.{chain_of}
use Rattle.layout.specs.Layout.{plan_bytes, modules_of}
use Rattle.layout.proofs.First.{plan_first}
use Rattle.figures.specs.declared.PlanFigures.{PlanFigures}
use Rattle.figures.specs.Rules.{keeps_rules}
use Rattle.figures.specs.Model.{block_time}
use Rattle.figures.proofs.Decoding.{decode_plan}
use Rattle.figures.proofs.Kept.{keeps_parts}
use Rattle.figures.proofs.Laws.{plan_block_time}
use Rattle.judge.specs.Judge.{judged_bytes, judged}
use Rattle.judge.specs.Timed.{block_time_answer}
use Rattle.judge.specs.Claims.{chain, plan, Passes, Times, Times.timed, Times.refused}
use Rattle.judge.proofs.Passing.{judge_finds, judge_only, number_passes, passes_figures}
use Rattle.judge.proofs.Reading.{judge_first}

module _ (s w : List ℕ) where
  -- the modules that Judge passes are those that the bytes say
  pub plan_said : (p : Passes s w) → plan s w ≡ p.modules
  plan_said p =
      let b = (accepted_costs s p.readable.accepted).ranged in
      decode_plan (chain s w).tasks w p.readable.long p.modules b.some_tasks (keeps_parts (chain s w) p.modules p.keeps).0 b.tasks_most p.bytes

  -- ---- the answer, by what the code has found

  -- the costs refused, or the plan
  pub time_unread : {e : Refusal} → read_costs s ≡ Err e → Err e ≡ block_time_answer s w
  unfolding block_time_answer judged
  time_unread h = simp h

  module _ {b : Board} (read : read_costs s ≡ Ok b) where
    judged_here : judged s w ≡ judged_bytes (chain_of s b) w
    unfolding judged
    judged_here = simp read

    pub time_refused : {e : Refusal} → judged_bytes (chain_of s b) w ≡ Err e → Err e ≡ block_time_answer s w
    unfolding block_time_answer
    time_refused h = let found = judged_here ∙ h in simp found

    pub time_given : {f : PlanFigures} {x : ℕ} → judged_bytes (chain_of s b) w ≡ Ok f → x ≡ block_time (chain_of s b) (modules_of w b.tasks) → Ok x ≡ block_time_answer s w
    unfolding block_time_answer
    time_given h is = let found = judged_here ∙ h in rw found (simp (read, is))

    pub time_small : {f : PlanFigures} {x : ℕ} → judged_bytes (chain_of s b) w ≡ Ok f → x ≡ block_time (chain_of s b) (modules_of w b.tasks) → x ≤ 23003060
    time_small h is =
        let p = number_passes s w (rw (judged_here ∙ h)) in
        let board : board_in (read_costs s) ≡ b = rw read in
        let said : modules_of w b.tasks ≡ p.modules = subst (λ (d : Board). modules_of w d.tasks ≡ p.modules) board (plan_said p) in
        let keeps : keeps_rules (chain_of s b) p.modules ≡ true = subst (λ (d : Board). keeps_rules (chain_of s d) p.modules ≡ true) board p.keeps in
        rw (is, said) (plan_block_time s b ((read_accepts s b).0 read) p.modules keeps)

  -- ---- for a reader

  pub time_passed : (p : Passes s w) → block_time_answer s w ≡ Ok (block_time (chain s w) p.modules)
  unfolding block_time_answer
  time_passed p = rw (passes_figures s w p) (ap (λ ms. Ok (block_time (chain s w) ms)) (plan_said p))

  pub time_finds : Times s w (block_time_answer s w)
  unfolding block_time_answer
  time_finds = ⊎_elim
      (λ (t : (f : PlanFigures) × (judged s w ≡ Ok f)). let p = number_passes s w (rw t.1) in subst (Times s w) (sym (time_passed p)) (timed p))
      (λ (t : (e : Refusal) × (judged s w ≡ Err e)). rw t.1 (refused t.0 (rw t.1 at (judge_finds s w))))
      (refused_or_not (judged s w))

  pub time_only : (a : Result ℕ Refusal) → Times s w a → block_time_answer s w ≡ a
  unfolding block_time_answer
  time_only a (timed p) = time_passed p
  time_only a (refused e j) = rw (judge_only s w (Err e) j)

  -- its refusal's number is Judge's
  pub time_number : number_in (judged s w) ≡ number_in (block_time_answer s w)
  unfolding block_time_answer
  time_number = ⊎_elim
      (λ (t : (f : PlanFigures) × (judged s w ≡ Ok f)). rw t.1)
      (λ (t : (e : Refusal) × (judged s w ≡ Err e)). rw t.1)
      (refused_or_not (judged s w))

  pub time_most : count_in (block_time_answer s w) ≤ 23003060
  unfolding block_time_answer
  time_most = ⊎_elim
      (λ (t : (f : PlanFigures) × (judged s w ≡ Ok f)).
      let p = number_passes s w (rw t.1) in
      rw (time_passed p) (plan_block_time s (board_in (read_costs s)) (accepted_costs s p.readable.accepted) p.modules p.keeps))
      (λ (t : (e : Refusal) × (judged s w ≡ Err e)). rw t.1 (omega arith))
      (refused_or_not (judged s w))

-- bytes after the 48th are not read
pub time_first : (s w : List ℕ) → block_time_answer s (take plan_bytes w) ≡ block_time_answer s w
unfolding block_time_answer
time_first s w = rw (judge_first s w, plan_first w (chain_of s (board_in (read_costs s))).tasks)
