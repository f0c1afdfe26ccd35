-- The search on a board's costs: the first of the lightest plans of the fewest cores is the plan of the threshold, and what is found, or that
-- nothing is, is what the definition that tries every plan says; with it the service, refusal by refusal. Assumes nothing.
use mathlib.Core.Path.{◌≡◌, sym, ap, ◌∙◌}
use mathlib.Core.Bool.{true, false}
use mathlib.Core.List.{List, ◌++◌}
use mathlib.Core.Logic.{inl, ⊎_elim}
use mathlib.Core.Option.{none, some}
use Prim.Native.Nat.{ℕ, zero, suc, ◌≤◌, ◌<◌}
use native.Mathlib.Nat.{le_refl}
use native.Mathlib.Omega.{arith}
use lib.ListN.{length, drop, replicate}
use borrow.Author.Tests.{le-ltb, le-leb, lt-leb, ne_eqb}
use Rattle.std.specs.Prelude as prelude
use Rattle.std.specs.Prelude.{Some, None}
use Rattle.std.proofs.lemmas.Option.{none-some, same_Some}
use Rattle.records.specs.declared.Board.{Board}
use Rattle.std.specs.Prelude.{Result, Ok, Err}
use Rattle.records.specs.declared.refusal.Refusal.{Refusal}
use Rattle.records.specs.declared.refusal.Refusal.TheVariants.{ShortPlan, ShortWork, NoPlan}
use Rattle.records.specs.Refusals.{number_of as number_for}
use Rattle.records.proofs.Refusing.{number_some}
use Rattle.records.specs.Costs.{read_costs}
use Rattle.records.specs.Format.{IsCosts}
use Rattle.records.proofs.Cases.{lt_or_le}
use Rattle.records.proofs.Laws.{read_accepts}
use Rattle.modules.specs.Model.{chain_of}
use Rattle.layout.specs.Layout.{plan_bytes, modules_of, encode_plan}
use Rattle.figures.specs.declared.PlanFigures.{PlanFigures}
use Rattle.figures.specs.Plan.{figures_of}
use Rattle.figures.specs.Rules.{keeps_rules}
use Rattle.figures.proofs.Kept.{keeps_parts}
use Rattle.figures.proofs.Decoding.{decode_encode}
use Rattle.figures.proofs.Laws.{plan_reach}
use Rattle.search.specs.Plan.{cap}
use Rattle.search.specs.Walk.{walk}
use Rattle.search.specs.Best.{light, plan, Feasible, Bottom}
use Rattle.search.specs.Answer.{answer}
use Rattle.search.proofs.Best.{plan_keeps}
use Rattle.search.proofs.Sparing.{sparing_light, sparing_plan}
use Rattle.search.proofs.Answer.{finds}
use Rattle.slack.specs.Problem.{problem, top_threshold, SomeWithin, Sized, enough_on, sparing_on}
use Rattle.slack.proofs.Splits.{feasible_found, found_feasible}
use Rattle.slack.proofs.Enough.{enough_tells}
use Rattle.threshold.specs.Threshold.{Decided}
use Rattle.offers.specs.Words.{Area}
use Rattle.weights.specs.Cells.{no_plan, weight_on, light_on}
use Rattle.walk.specs.First.{WalkedTo}
use Rattle.walk.specs.Walk.{plan_on}
use Rattle.planners.specs.Reached.{AllReached}
use Rattle.planners.specs.Best.{work_words, is_better, best_plan, found_answer, found_bytes, begins, answer_on, best_answer, best_bytes, best_work}
use Rattle.slack.proofs.Instance.{problem_priced, problem_small, rules_kept}
use Rattle.planners.proofs.Weighing.{problem_laws, better_decides, best_searched}
use Rattle.planners.proofs.Optimal.{quick, best_answer_lem}

module _ (s : List ℕ) (b : Board) (costs : IsCosts s b) where
  pub sized : Sized b
  sized = let r = costs.ranged in record { some_tasks = r.some_tasks; tasks_most = r.tasks_most; one_core = r.one_core; cores_most = r.cores_most }

  -- the tables have room in the work area
  pub area : (w : List ℕ) → work_words ≤ length w → Area b w
  area w h = record { sized = sized; long = omega arith }

  -- a threshold that no plan is within is not feasible, and one that some plan is within is
  unfeasible : (m : ℕ) → (SomeWithin (chain_of s b) m → ⊥) → cap (problem (chain_of s b)) ≤ light (problem (chain_of s b)) m
  unfeasible m nothing = ⊎_elim
      (λ h. absurd (nothing (feasible_found (problem (chain_of s b)) (problem_priced (chain_of s b)) m h)))
      (λ h. h)
      (lt_or_le (light (problem (chain_of s b)) m) (cap (problem (chain_of s b))))

  module _ (n : ℕ) (decided : Decided (chain_of s b) n) where
    pub decided_feasible : n ≤ top_threshold → Feasible (problem (chain_of s b)) n
    decided_feasible h = (found_feasible (problem (chain_of s b)) (problem_laws (chain_of s b) (quick s b costs)) n).1 (decided.some_plan h)

    pub decided_bottom : Bottom (problem (chain_of s b)) n
    decided_bottom = below n decided.none_below
      where
        below : (m : ℕ) → ((i : ℕ) → i < m → SomeWithin (chain_of s b) i → ⊥) → Bottom (problem (chain_of s b)) m
        below zero nothing = tt
        below (suc m) nothing = unfeasible m (nothing m (le_refl (suc m)))

  -- no plan is within the greatest threshold
  module _ {r : ℕ} (decided : Decided (chain_of s b) r) (h : top_threshold < r) where
    none_found : best_plan (chain_of s b) ≡ none
    unfolding answer
    none_found =
        best_answer_lem s b costs
        ∙ simp (le-ltb (light (problem (chain_of s b)) top_threshold) (cap (problem (chain_of s b))) (unfeasible top_threshold (decided.none_below top_threshold h)))

    pub none_answer : Err NoPlan ≡ found_answer (chain_of s b) (best_plan (chain_of s b))
    unfolding found_answer
    none_answer = rw none_found

    pub none_bytes : (w : List ℕ) → w ≡ found_bytes (best_plan (chain_of s b)) w
    unfolding found_bytes
    none_bytes w = rw none_found

  -- at a feasible threshold the lightest plans are of the fewest cores
  module _ (n : ℕ) (feasible : Feasible (problem (chain_of s b)) n) where
    light_same : light_on (chain_of s b) n ≡ light (problem (chain_of s b)) n
    light_same =
        let c = chain_of s b in sparing_light (problem c) n (enough_on c n) (problem_laws c (quick s b costs)) (enough_tells c n) feasible

    light_some : light_on (chain_of s b) n < no_plan b.cores
    unfolding cap
    light_some = omega (arith, light_same)

    plan_same : plan_on (chain_of s b) n ≡ plan (problem (chain_of s b)) n
    plan_same =
        let c = chain_of s b in
        ap (λ (v : ℕ). walk (problem c) (sparing_on c n) (weight_on c n) c.tasks 0 0 (λ q. suc v)) light_same
        ∙ sparing_plan (problem c) n (enough_on c n) (problem_laws c (quick s b costs)) (enough_tells c n) feasible

  -- what the walk has found, and that it has found nothing
  module _ {w w' : List ℕ} {x : prelude.Option (List ℕ)} (room : Area b w) (walked : WalkedTo (chain_of s b) b w w' x) where
    light_walked : walked.least ≤ top_threshold → light_on (chain_of s b) walked.least < no_plan b.cores
    light_walked h = light_some walked.least (decided_feasible walked.least (walked.decided room) h)

    pub walked_some : {path : List ℕ} → x ≡ Some path → (walked.least ≤ top_threshold) × (path ≡ encode_plan (plan_on (chain_of s b) walked.least))
    walked_some {path} e = ⊎_elim
        (λ h. absurd (none-some path (sym (walked.none (λ _. inl h)) ∙ e)))
        (λ h. (h, same_Some path (encode_plan (plan_on (chain_of s b) walked.least)) (sym e ∙ walked.some room h (light_walked h))))
        (lt_or_le top_threshold walked.least)

    pub walked_none : x ≡ None → top_threshold < walked.least
    walked_none e = ⊎_elim
        (λ h. h)
        (λ h. absurd (none-some (encode_plan (plan_on (chain_of s b) walked.least)) (sym e ∙ walked.some room h (light_walked h))))
        (lt_or_le top_threshold walked.least)

  -- the plan of the least feasible threshold
  module _ (n : ℕ) (feasible : Feasible (problem (chain_of s b)) n) (bottom : Bottom (problem (chain_of s b)) n) {path : List ℕ} (laid : path ≡ encode_plan (plan_on (chain_of s b) n)) where
    plan_found : best_plan (chain_of s b) ≡ some (plan (problem (chain_of s b)) n)
    plan_found =
        best_searched (chain_of s b) costs.ranged.some_tasks
        ∙ finds (problem (chain_of s b)) (problem_laws (chain_of s b) (quick s b costs)) (is_better (chain_of s b)) (better_decides (chain_of s b) costs.ranged.some_tasks (quick s b costs)) (problem_small (chain_of s b) costs.ranged.cores_most) n feasible bottom

    plan_kept : keeps_rules (chain_of s b) (plan (problem (chain_of s b)) n) ≡ true
    plan_kept = let c = chain_of s b in rules_kept c (plan (problem c) n) (plan_keeps (problem c) (problem_priced c) n feasible)

    plan_said : modules_of path b.tasks ≡ plan (problem (chain_of s b)) n
    plan_said =
        let c = chain_of s b in
        let ms = plan (problem c) n in
        let k = keeps_parts c ms plan_kept in
        ap (λ (w : List ℕ). modules_of w b.tasks) (laid ∙ ap encode_plan (plan_same n feasible)) ∙ decode_encode b.tasks ms costs.ranged.some_tasks costs.ranged.tasks_most k.0

    -- none of its modules goes beyond its reach (M-102)
    pub plan_reached : AllReached (chain_of s b) (modules_of path b.tasks)
    plan_reached = rw plan_said (record { each = plan_reach (chain_of s b) (plan (problem (chain_of s b)) n) plan_kept })

    pub plan_answer : {f : PlanFigures} → f ≡ figures_of (chain_of s b) (modules_of path b.tasks) → Ok f ≡ found_answer (chain_of s b) (best_plan (chain_of s b))
    unfolding found_answer
    plan_answer e = rw plan_found (ap Ok (e ∙ ap (figures_of (chain_of s b)) plan_said))

    pub plan_bytes_lem : (w : List ℕ) {v : List ℕ} → v ≡ path ++ drop plan_bytes w → v ≡ found_bytes (best_plan (chain_of s b)) w
    unfolding found_bytes
    plan_bytes_lem w e = rw plan_found (e ∙ ap (λ (x : List ℕ). x ++ drop plan_bytes w) (laid ∙ ap encode_plan (plan_same n feasible)))

-- ---- the service

pub accepted_is : (s : List ℕ) {r : Result Board Refusal} {b : Board} → r ≡ read_costs s → r ≡ Ok b → IsCosts s b
accepted_is s {b = b} read e = (read_accepts s b).0 (sym read ∙ e)

module _ (s w work : List ℕ) where
  -- the answer, the plan bytes and the work area are what the service is to give
  abbrev pub Serves : Result PlanFigures Refusal → List ℕ → List ℕ → Type 0
  Serves a v z = (a ≡ best_answer s w work) × (v ≡ best_bytes s w work) × (z ≡ best_work s w work)

  -- where no search begins, nothing is written
  untouched : {a : Result PlanFigures Refusal} → begins s w work ≡ false → a ≡ best_answer s w work → Serves a w work
  unfolding best_bytes best_work
  untouched e answer = (answer, rw e, rw e)

  module _ {r : Result Board Refusal} (read : r ≡ read_costs s) where
    pub refused_costs : {e : Refusal} → r ≡ Err e → Serves (Err e) w work
    unfolding best_answer begins
    refused_costs {e} z = let t = sym read ∙ z in untouched (simp (t, ne_eqb (number_for e) 0 (number_some e))) (simp t)

    module _ {b : Board} (accepted : r ≡ Ok b) where
      pub refused_bytes : length w < plan_bytes → Serves (Err ShortPlan) w work
      unfolding answer_on best_answer begins
      refused_bytes h =
          let t = sym read ∙ accepted in
          let u = lt-leb plan_bytes (length w) h in
          untouched (simp (t, u)) (simp (t, u))

      module _ (long : plan_bytes ≤ length w) where
        pub refused_work : length work < work_words → Serves (Err ShortWork) w work
        unfolding answer_on best_answer begins
        refused_work h =
            let t = sym read ∙ accepted in
            let u = le-leb plan_bytes (length w) long in
            let v = lt-leb work_words (length work) h in
            untouched (simp (t, u, v)) (simp (t, u, v))

        pub served : {a : Result PlanFigures Refusal} {v z : List ℕ} → work_words ≤ length work → a ≡ found_answer (chain_of s b) (best_plan (chain_of s b))
            → v ≡ found_bytes (best_plan (chain_of s b)) w → z ≡ replicate (length work) 0 → Serves a v z
        unfolding answer_on best_answer best_bytes best_work begins
        served h answer bytes zeros =
            let t = sym read ∙ accepted in
            let u = le-leb plan_bytes (length w) long in
            let x = le-leb work_words (length work) h in
            (simp (t, u, x) answer, simp (t, u, x) bytes, simp (t, u, x) zeros)
