-- The service is what the request says (document 02, M-105): each refusal under its condition, else the ends by the one schedule that the machine
-- runs. By what Judge passes. Assumes nothing.
use Prim.Native.Nat.{ℕ, zero, suc, ◌+◌, ◌-◌, ◌≤◌, ◌<◌}
use native.Mathlib.Omega.{arith}
use mathlib.Core.Path.{◌≡◌, refl, sym, ap, subst, ◌∙◌}
use mathlib.Core.Bool.{true}
use mathlib.Core.List.{List, [], ◌∷◌, ◌++◌}
use mathlib.Core.Logic.{⊎_elim}
use lib.Dec.{eqb}
use lib.ListN.{length, get_or, take, drop, get_or-append, take-append-drop}
use lib.Seq.{ext_get_or, take_at, drop_at, length-take-le, length_front, get_or-take}
use borrow.Author.Tests.{ne_eqb, eqb-true, eqb-false, le-leb}
use Rattle.std.specs.Prelude.{Result, Ok, Err}
use Rattle.records.specs.declared.refusal.Refusal.{Refusal}
use Rattle.records.specs.Refusals.{number_in}
use Rattle.records.specs.Filled.{count_in}
use Rattle.records.proofs.Refusing.{refused_or_not, number_some}
use Rattle.figures.specs.declared.PlanFigures.{PlanFigures}
use Rattle.records.specs.Costs.{board_in, read_costs}
use Rattle.records.proofs.Cases.{true_or_false, true_not_false, false_unless}
use Rattle.records.proofs.Laws.{accepted_costs}
use Rattle.modules.specs.declared.Module.{Module}
use Rattle.modules.specs.Model.{Chain}
use Rattle.modules.proofs.Amounts.{no_receiver}
use Rattle.layout.specs.Layout.{module_count, modules_from, modules_of}
use Rattle.figures.specs.Rules.{covers}
use Rattle.figures.proofs.Covering.{covers_end}
use Rattle.figures.proofs.Kept.{keeps_parts}
use Rattle.judge.specs.Judge.{first_failing, judged}
use Rattle.judge.specs.Claims.{AllPass, chain, plan, Passes}
use Rattle.judge.proofs.Laws.{first_fails, none_fails}
use Rattle.judge.proofs.Passing.{judge_finds, judge_only, number_passes, passes_figures}
use Rattle.judge.proofs.Timing.{plan_said}
use Rattle.timetable.specs.Claims.{Asked, Holds, Tables, Tables.refused, Tables.copied, Tables.unasked, Tables.filled}
use Rattle.timetable.specs.Machine.{Schedule, through, Runs}
use Rattle.timetable.specs.Stages.{Stage, stage_at, stages}
use Rattle.timetable.specs.Timetable.{throughs, last_of, end_of, ends, schedule_of, most_blocks, single_test, blocks_test, timetable_answer, timetable_entries}
use Rattle.timetable.proofs.Only.{through_same, runs_exactly}
use Rattle.timetable.proofs.Rows.{throughs_length}
use Rattle.timetable.proofs.Scheduled.{row_through, schedule_runs}
use Rattle.timetable.proofs.Serving.{asked_parts, Served, entries_filled, table_refused, table_copied, table_unasked, table_filled}
use Rattle.timetable.proofs.Turns.{ends_length}

-- ---- the last module of a plan

stages_count : (c : Chain) (ms : List Module) → length (stages c ms) ≡ length ms
unfolding stages
stages_count c [] = refl
stages_count c (m ∷ ms) = ap suc (stages_count c ms)

-- it sends nothing
pub last_still : (c : Chain) (ms : List Module) (i : ℕ) → i + 1 ≡ length (stages c ms) → (stage_at (stages c ms) i).send ≡ 0
unfolding stages
last_still c [] i e = refl
last_still c (m ∷ []) zero e = no_receiver c m.last m.cores
last_still c (m ∷ []) (suc i) e = refl
last_still c (m ∷ (x ∷ ms)) zero e = absurd (omega arith)
last_still c (m ∷ (x ∷ ms)) (suc i) e = last_still c (x ∷ ms) i (omega arith)

-- the last time stands at the last module
last_at : (from : ℕ) (ts : List ℕ) (i : ℕ) → i + 1 ≡ length ts → last_of from ts ≡ get_or ts i 0
unfolding last_of
last_at from [] i e = absurd (omega arith)
last_at from (t ∷ []) zero e = refl
last_at from (t ∷ []) (suc i) e = absurd (omega arith)
last_at from (t ∷ (u ∷ ts)) zero e = absurd (omega arith)
last_at from (t ∷ (u ∷ ts)) (suc i) e = last_at t (u ∷ ts) i (omega arith)

ends_at : (ss : List Stage) (b n j : ℕ) → j < n → get_or (ends ss b n) j 0 ≡ end_of ss (b + j)
unfolding ends
ends_at ss b zero j h = absurd (omega arith)
ends_at ss b (suc n) zero h = let e : b + 0 ≡ b = omega arith in rw e (refl)
ends_at ss b (suc n) (suc j) h = let e : b + suc j ≡ b + 1 + j = omega arith in rw e (ends_at ss (b + 1) n j (omega arith))

-- ---- the ends by the machine

module _ (c : Chain) (ms : List Module) (some : 1 ≤ length ms) {t : Schedule} (r : Runs (stages c ms) t) where
  pub end_through : (n : ℕ) → through (stages c ms) t (length (stages c ms) - 1) (suc n) ≡ end_of (stages c ms) (suc n)
  unfolding end_of
  end_through n =
      let ss = stages c ms in
      let l : length ss - 1 < length ss = omega (arith, stages_count c ms) in
      through_same ss ((runs_exactly ss (last_still c ms) t).0 r) (length ss - 1) (suc n) l (omega arith)
      ∙ row_through ss (last_still c ms) (length ss - 1) n l
      ∙ sym (last_at 0 (throughs ss (suc n)) (length ss - 1) (omega (arith, throughs_length ss (suc n))))

  module _ (n : ℕ) (table : List ℕ) (room : n ≤ length table) where
    table_at : (b : ℕ) → 1 ≤ b → b ≤ n → get_or (ends (stages c ms) 1 n ++ drop n table) (b - 1) 0 ≡ through (stages c ms) t (length (stages c ms) - 1) b
    table_at b l h =
        let ss = stages c ms in
        let e : 1 + (b - 1) ≡ suc (b - 1) = omega arith in
        let d : suc (b - 1) ≡ b = omega arith in
        get_or-append (ends ss 1 n) (drop n table) 0 (b - 1) (omega (arith, ends_length ss 1 n))
        ∙ ends_at ss 1 n (b - 1) (omega arith)
        ∙ ap (end_of ss) e
        ∙ sym (end_through (b - 1))
        ∙ ap (through ss t (length ss - 1)) d

    table_holds : Holds (stages c ms) t n table (ends (stages c ms) 1 n ++ drop n table)
    table_holds =
        let ss = stages c ms in
        record {
          size = length_front table (ends ss 1 n) n (ends_length ss 1 n ∙ sym (length-take-le n table room));
          ends = table_at;
          rest = drop_at (ends ss 1 n) (drop n table) n (ends_length ss 1 n);
        }

    table_only : (after : List ℕ) → Holds (stages c ms) t n table after → after ≡ ends (stages c ms) 1 n ++ drop n table
    table_only after h =
        let ss = stages c ms in
        let long : n ≤ length after = omega (arith, h.size) in
        let same : take n after ≡ ends ss 1 n = ext_get_or 0 (take n after) (ends ss 1 n) (length-take-le n after long ∙ sym (ends_length ss 1 n)) at in
        sym (take-append-drop n after) ∙ rw (same, h.rest)
      where
        at : (i : ℕ) → i < length (take n after) → get_or (take n after) i 0 ≡ get_or (ends (stages c ms) 1 n) i 0
        at i l =
            let ss = stages c ms in
            let long : n ≤ length after = omega (arith, h.size) in
            let b : i < n = omega (arith, length-take-le n after long) in
            let d : i + 1 - 1 ≡ i = omega arith in
            let e : 1 + i ≡ i + 1 = omega arith in
            get_or-take n after i 0 b
            ∙ (rw d at (h.ends (i + 1) (omega arith) (omega arith)))
            ∙ sym (rw d at (table_at (i + 1) (omega arith) (omega arith)))
            ∙ get_or-append (ends ss 1 n) (drop n table) 0 i (omega (arith, ends_length ss 1 n))

-- ---- the service

module _ (s w : List ℕ) where
  -- the modules that Judge passes are those of the records that are counted, and there is one
  plan_counted : (p : Passes s w) → modules_from w 0 (module_count w (board_in (read_costs s)).tasks) ≡ p.modules
  unfolding modules_of
  plan_counted p = plan_said s w p

  pub passes_some : (p : Passes s w) → 1 ≤ length p.modules
  passes_some p = some p.modules (keeps_parts (chain s w) p.modules p.keeps).0
    where
      some : (ms : List Module) → covers (chain s w).tasks 1 ms ≡ true → 1 ≤ length ms
      some [] e = absurd (omega (arith, covers_end (chain s w).tasks 1 e, (accepted_costs s p.readable.accepted).ranged.some_tasks))
      some (m ∷ ms) e = omega arith

  -- the first module with copies, by what the code counts
  none_copied : (p : Passes s w) → AllPass single_test p.modules → 0 ≡ first_failing single_test 1 (modules_from w 0 (module_count w (board_in (read_costs s)).tasks))
  none_copied p all = sym (ap (first_failing single_test 1) (plan_counted p) ∙ (none_fails single_test p.modules).1 all)

  module _ (n : ℕ) (table : List ℕ) where
    asked_test : Asked n table → blocks_test n (length table) ≡ true
    asked_test a = simp (le-leb 1 n a.some, le-leb n most_blocks a.most, le-leb n (length table) a.room)

    test_asked : blocks_test n (length table) ≡ true → Asked n table
    test_asked e = let x = asked_parts n (length table) e in record { some = x.0; most = x.1; room = x.2 }

    pub tables_only : (a : Result ℕ Refusal) (after : List ℕ) → Tables s w n table a after → Served s w n table a after
    tables_only a after (refused e j) = table_refused s w n table (judge_only s w (Err e) j)
    tables_only a after (copied p i f) =
        table_copied s w n table (passes_figures s w p) refl refl (sym (ap (first_failing single_test 1) (plan_counted p) ∙ (first_fails single_test p.modules i).1 f)) (ne_eqb (i + 1) 0 (λ e. omega arith))
    tables_only a after (unasked p all f) =
        table_unasked s w n table (passes_figures s w p) refl refl (none_copied p all) refl refl (false_unless (blocks_test n (length table)) test_asked f)
    tables_only a after (filled p all asked t r l h) =
        table_filled s w n table (passes_figures s w p) refl refl (none_copied p all) refl refl (asked_test asked)
        (table_only (chain s w) p.modules (passes_some p) r n table asked.room after h ∙ rw (plan_counted p))

    -- whatever the request says is so of what is answered
    from_served : {f : Result ℕ Refusal} {after : List ℕ} → Served s w n table f after → Tables s w n table f after → Tables s w n table (timetable_answer s w n table) (timetable_entries s w n table)
    from_served {f} {after} x t = subst (Tables s w n table (timetable_answer s w n table)) x.1 (subst (λ (g : Result ℕ Refusal). Tables s w n table g after) x.0 t)

    said : {f : Result ℕ Refusal} {after : List ℕ} → Tables s w n table f after → Tables s w n table (timetable_answer s w n table) (timetable_entries s w n table)
    said {f} {after} t = from_served (tables_only f after t) t

    passed_finds : (p : Passes s w) → Tables s w n table (timetable_answer s w n table) (timetable_entries s w n table)
    passed_finds p = ⊎_elim
        (λ e.
        let all = (none_fails single_test p.modules).0 (eqb-true (first_failing single_test 1 p.modules) 0 e) in
        ⊎_elim
        (λ a.
        let ss = stages (chain s w) p.modules in
        let asked = test_asked a in
        let r = schedule_runs ss (last_still (chain s w) p.modules) in
        said (filled p all asked (schedule_of ss) r (ends ss 1 n ++ drop n table) (table_holds (chain s w) p.modules (passes_some p) r n table asked.room)))
        (λ a. said (unasked p all (λ x. true_not_false (blocks_test n (length table)) (asked_test x) a)))
        (true_or_false (blocks_test n (length table))))
        (λ e.
        let i = first_failing single_test 1 p.modules - 1 in
        let some = eqb-false (first_failing single_test 1 p.modules) 0 e in
        said (copied p i ((first_fails single_test p.modules i).0 (omega arith))))
        (true_or_false (eqb (first_failing single_test 1 p.modules) 0))

    pub tables_finds : Tables s w n table (timetable_answer s w n table) (timetable_entries s w n table)
    tables_finds = ⊎_elim
        (λ (t : (f : PlanFigures) × (judged s w ≡ Ok f)). passed_finds (number_passes s w (rw t.1)))
        (λ (t : (e : Refusal) × (judged s w ≡ Err e)). said (refused t.0 (rw t.1 at (judge_finds s w))))
        (refused_or_not (judged s w))

-- ---- what is lent

-- a refusal fills in nothing and leaves the table
pub refused_lent : (s w : List ℕ) (n : ℕ) (table : List ℕ) (a : Result ℕ Refusal) (after : List ℕ) → Tables s w n table a after → (number_in a ≡ 0 → ⊥) → (count_in a ≡ 0) × (after ≡ table)
refused_lent s w n table a after (refused x j) e = (refl, refl)
refused_lent s w n table a after (copied p i f) e = (refl, refl)
refused_lent s w n table a after (unasked p all f) e = (refl, refl)
refused_lent s w n table a after (filled p all asked t r l h) e = absurd (e refl)

-- else n entries are filled in, and the table is as long as it was, and behind them as lent
pub filled_lent : (s w : List ℕ) (n : ℕ) (table : List ℕ) (a : Result ℕ Refusal) (after : List ℕ) → Tables s w n table a after → number_in a ≡ 0
    → (count_in a ≡ n) × (length after ≡ length table) × (drop n after ≡ drop n table)
filled_lent s w n table a after (refused x j) e = absurd (number_some x e)
filled_lent s w n table a after (copied p i f) e = absurd (omega arith)
filled_lent s w n table a after (unasked p all f) e = absurd (omega arith)
filled_lent s w n table a after (filled p all asked t r l h) e = (refl, h.size, h.rest)

pub filled_most : (s w : List ℕ) (n : ℕ) (table : List ℕ) (a : Result ℕ Refusal) (after : List ℕ) → Tables s w n table a after → number_in a ≡ 0 → n ≤ most_blocks
filled_most s w n table a after (refused x j) e = absurd (number_some x e)
filled_most s w n table a after (copied p i f) e = absurd (omega arith)
filled_most s w n table a after (unasked p all f) e = absurd (omega arith)
filled_most s w n table a after (filled p all asked t r l h) e = asked.most

-- of what the table held nothing counts, only its length
module _ (s w : List ℕ) (n : ℕ) (table table' : List ℕ) (same : length table ≡ length table') where
  pub answer_same : timetable_answer s w n table ≡ timetable_answer s w n table'
  unfolding timetable_answer
  answer_same = rw same

  pub entries_same : number_in (timetable_answer s w n table) ≡ 0 → take n (timetable_entries s w n table) ≡ take n (timetable_entries s w n table')
  entries_same e =
      let ss = stages (chain s w) (plan s w) in
      rw (entries_filled s w n table e, entries_filled s w n table' (rw (← answer_same) e))
      (take_at (ends ss 1 n) (drop n table) n (ends_length ss 1 n) ∙ sym (take_at (ends ss 1 n) (drop n table') n (ends_length ss 1 n)))
