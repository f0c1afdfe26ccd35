-- The service by what the code has found: Judge's answer, the first module with copies, whether so many blocks may be asked for, and the table.
-- Assumes nothing.
use mathlib.Core.Path.{◌≡◌, sym, ap, ◌∙◌}
use mathlib.Core.Bool.{Bool, true, false}
use mathlib.Core.List.{List, ◌++◌}
use Prim.Native.Nat.{ℕ, ◌≤◌}
use lib.ListN.{length, drop}
use borrow.Author.Tests.{eq-eqb, ne_eqb, leb-true}
use Rattle.records.specs.declared.Board.{Board}
use Rattle.std.specs.Prelude.{Result, Ok, Err}
use lib.Dec.{eqb}
use Rattle.records.specs.declared.refusal.Refusal.{Refusal}
use Rattle.records.specs.declared.refusal.Refusal.TheVariants.{Copied, WrongBlocks}
use Rattle.records.specs.Refusals.{number_in}
use Rattle.records.specs.Costs.{board_in, read_costs}
use Rattle.records.proofs.Cases.{and-true}
use Rattle.records.proofs.Refusing.{refused_some}
use Rattle.modules.specs.Model.{chain_of}
use Rattle.layout.specs.Layout.{module_count, modules_from, modules_of}
use Rattle.figures.specs.declared.PlanFigures.{PlanFigures}
use Rattle.judge.specs.Judge.{first_failing, judged_bytes, judged}
use Rattle.timetable.specs.Stages.{stages}
use Rattle.timetable.specs.Timetable.{ends, most_blocks, single_test, blocks_test, timetable_answer, timetable_entries}

pub asked_parts : (n room : ℕ) → blocks_test n room ≡ true → (1 ≤ n) × (n ≤ most_blocks) × (n ≤ room)
asked_parts n room e =
    let p = and-true _ _ e in
    let q = and-true _ _ p.0 in
    (leb-true _ _ q.0, leb-true _ _ q.1, leb-true _ _ p.1)

-- where the costs are accepted Judge reads the plan bytes
pub judged_here : (s w : List ℕ) {b : Board} → read_costs s ≡ Ok b → judged s w ≡ judged_bytes (chain_of s b) w
unfolding judged
judged_here s w h = simp h

module _ (s w : List ℕ) (n : ℕ) (table : List ℕ) where
  -- the answer a, with the table as it then is
  abbrev pub Served : Result ℕ Refusal → List ℕ → Type 0
  Served a after = (a ≡ timetable_answer s w n table) × (after ≡ timetable_entries s w n table)

  -- a refusal leaves the table
  entries_kept : (number_in (timetable_answer s w n table) ≡ 0 → ⊥) → timetable_entries s w n table ≡ table
  unfolding timetable_entries
  entries_kept r = simp (ne_eqb (number_in (timetable_answer s w n table)) 0 r)

  pub entries_filled : number_in (timetable_answer s w n table) ≡ 0
      → timetable_entries s w n table ≡ ends (stages (chain_of s (board_in (read_costs s))) (modules_of w (board_in (read_costs s)).tasks)) 1 n ++ drop n table
  unfolding timetable_entries
  entries_filled e = simp (eq-eqb (number_in (timetable_answer s w n table)) 0 e)

  kept : {e : Refusal} → Err e ≡ timetable_answer s w n table → Served (Err e) table
  kept d = (d, sym (entries_kept (refused_some (sym d))))

  pub table_unread : {e : Refusal} → read_costs s ≡ Err e → Served (Err e) table
  unfolding timetable_answer judged
  table_unread h = kept (simp h)

  pub table_refused : {e : Refusal} → judged s w ≡ Err e → Served (Err e) table
  unfolding timetable_answer
  table_refused h = kept (simp h)

  module _ {f : PlanFigures} (passed : judged s w ≡ Ok f) {b : Board} (read : b ≡ board_in (read_costs s)) {count copied : ℕ} (counted : count ≡ module_count w b.tasks)
      (first : copied ≡ first_failing single_test 1 (modules_from w 0 count)) where
    first_said : copied ≡ first_failing single_test 1 (modules_of w (board_in (read_costs s)).tasks)
    unfolding modules_of
    first_said = first ∙ rw (counted, read)

    pub table_copied : eqb copied 0 ≡ false → Served (Err (Copied copied)) table
    unfolding timetable_answer
    table_copied f = kept (rw (passed, ← first_said) (simp f))

    module _ (single : eqb copied 0 ≡ true) {t : Bool} (asked : t ≡ blocks_test n (length table)) where
      pub table_unasked : t ≡ false → Served (Err WrongBlocks) table
      unfolding timetable_answer
      table_unasked f = kept (rw (passed, ← first_said, ← asked, f) (simp single))

      pub table_filled : t ≡ true → {after : List ℕ} → after ≡ ends (stages (chain_of s b) (modules_from w 0 count)) 1 n ++ drop n table → Served (Ok n) after
      unfolding timetable_answer modules_of
      table_filled f is =
          let e : Ok n ≡ timetable_answer s w n table = rw (passed, ← first_said, ← asked, f) (simp single) in
          (e, is ∙ rw (counted, read) (sym (entries_filled (ap (λ (r : Result ℕ Refusal). number_in r) (sym e)))))
