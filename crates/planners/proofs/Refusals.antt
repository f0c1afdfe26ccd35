-- Demand 1: for all costs, plan bytes, work areas and groupings, of any length and content. `best_answer`, `best_bytes` and `best_work` are
-- what the promise of `best_plan` says of its answer, of the plan bytes and of the work area; `greedy_answer` and `greedy_bytes` are those of
-- `greedy_plan`, and `judged` that of `judge`, to which plan bytes are lent for reading only. Assumes nothing.
use mathlib.Core.Path.{◌≡◌}
use mathlib.Core.List.{List}
use mathlib.Core.Logic.{◌⊎◌}
use Prim.Native.Nat.{ℕ}
use lib.ListN.{length, take, drop, replicate}
use Rattle.std.specs.Prelude.{Result}
use Rattle.records.specs.declared.refusal.Refusal.{Refusal}
use Rattle.records.specs.Refusals.{number_in, place_in}
use Rattle.layout.specs.Layout.{plan_bytes}
use Rattle.figures.specs.declared.PlanFigures.{PlanFigures}
use Rattle.figures.specs.Plan.{answer_of, refusal}
use Rattle.figures.proofs.Served as served
use Rattle.judge.specs.Judge.{judged}
use Rattle.judge.proofs.Laws as judging
use Rattle.greedy.specs.Greedy.{greedy_answer, greedy_bytes}
use Rattle.greedy.proofs.Lending as benching
use Rattle.planners.specs.Best.{best_answer, best_bytes, best_work}
use Rattle.planners.proofs.Lending as lending

-- the answer is a refusal
abbrev pub Refuses : Result PlanFigures Refusal → Type 0
Refuses a = number_in a ≡ 0 → ⊥

-- ---- Best plan

module _ (s w work : List ℕ) where
  -- a refusal has zero figures
  pub best_zero : Refuses (best_answer s w work) → answer_of (best_answer s w work) ≡ refusal (number_in (best_answer s w work)) (place_in (best_answer s w work))
  best_zero = served.zero_figures (best_answer s w work)

  -- a refusal leaves the plan bytes as lent, whole
  pub best_kept : Refuses (best_answer s w work) → best_bytes s w work ≡ w
  best_kept = served.bytes_kept (lending.best_served s w work)

  -- bytes after the 48th are as lent, always
  pub best_behind : drop plan_bytes (best_bytes s w work) ≡ drop plan_bytes w
  best_behind = served.bytes_behind (lending.best_served s w work)

  -- the work area is as lent in every refusal but 9
  pub best_work_kept : Refuses (best_answer s w work) → (number_in (best_answer s w work) ≡ 9 → ⊥) → best_work s w work ≡ work
  best_work_kept = lending.work_kept s w work

  -- and all zero, in its whole length, otherwise
  pub best_work_zero : (number_in (best_answer s w work) ≡ 0) ⊎ (number_in (best_answer s w work) ≡ 9) → best_work s w work ≡ replicate (length work) 0
  best_work_zero = lending.work_zero s w work

  -- of what the plan bytes and the work area held nothing counts, only their lengths: neither for the answer nor for a plan filled in
  module _ (w' work' : List ℕ) (same : length w ≡ length w') (same_work : length work ≡ length work') where
    pub best_answer_same : best_answer s w work ≡ best_answer s w' work'
    best_answer_same = lending.best_same s w work w' work' same same_work

    pub best_plan_same : number_in (best_answer s w work) ≡ 0 → take plan_bytes (best_bytes s w work) ≡ take plan_bytes (best_bytes s w' work')
    best_plan_same = lending.plan_same s w work w' work' same same_work

-- ---- Bench way

module _ (s : List ℕ) (g : ℕ) (w : List ℕ) where
  pub greedy_zero : Refuses (greedy_answer s g w) → answer_of (greedy_answer s g w) ≡ refusal (number_in (greedy_answer s g w)) (place_in (greedy_answer s g w))
  greedy_zero = served.zero_figures (greedy_answer s g w)

  pub greedy_kept : Refuses (greedy_answer s g w) → greedy_bytes s g w ≡ w
  greedy_kept = served.bytes_kept (benching.greedy_served s w g)

  pub greedy_behind : drop plan_bytes (greedy_bytes s g w) ≡ drop plan_bytes w
  greedy_behind = served.bytes_behind (benching.greedy_served s w g)

  module _ (w' : List ℕ) (same : length w ≡ length w') where
    pub greedy_answer_same : greedy_answer s g w ≡ greedy_answer s g w'
    greedy_answer_same = benching.greedy_same s w g w' same

    pub greedy_plan_same : number_in (greedy_answer s g w) ≡ 0 → take plan_bytes (greedy_bytes s g w) ≡ take plan_bytes (greedy_bytes s g w')
    greedy_plan_same = benching.plan_same s w g w' same

-- ---- Judge

module _ (s w : List ℕ) where
  pub judge_zero : Refuses (judged s w) → answer_of (judged s w) ≡ refusal (number_in (judged s w)) (place_in (judged s w))
  judge_zero = served.zero_figures (judged s w)

  -- bytes after the 48th are not read
  pub judge_first : judged s (take plan_bytes w) ≡ judged s w
  judge_first = judging.judge_first s w
