-- The text of an answer, taken apart as the code goes: one module's line more, and which branch is due. Assumes nothing.
use mathlib.Core.Path.{◌≡◌, refl}
use mathlib.Core.List.{List, [], ◌++◌}
use Prim.Native.Nat.{ℕ, ◌+◌, min}
use native.Mathlib.Numerals.{add-one}
use borrow.Author.Tests.{eq-eqb, ne_eqb}
use Rattle.records.specs.Costs.{board_in, read_costs}
use Rattle.modules.specs.Model.{Chain, chain_of}
use Rattle.layout.specs.Layout.{most_modules, record_of, modules_of}
use Rattle.figures.specs.declared.answer.Answer.{Answer}
use Rattle.figures.specs.Plan.{response_at}
use Rattle.console.specs.Text.{module_line, slowest_line, refused_line, lines_of, module_lines, report_text}

-- ---- the modules' lines

pub lines_none : (c : Chain) (w : List ℕ) → module_lines c w 0 ≡ []
unfolding module_lines lines_of
lines_none c w = refl

pub lines_more : (c : Chain) (w : List ℕ) (i : ℕ)
    → module_lines c w (i + 1) ≡ module_lines c w i ++ module_line (record_of w i) (response_at c (modules_of w c.tasks) i)
unfolding module_lines lines_of
lines_more c w i = rw (add-one i) (refl)

-- ---- a plan, or a refusal

pub report_plan : (s : List ℕ) (a : Answer) (w : List ℕ) → a.number ≡ 0
    → report_text s a w ≡ module_lines (chain_of s (board_in (read_costs s))) w (min a.modules most_modules) ++ slowest_line a
unfolding report_text
report_plan s a w e = rw (eq-eqb a.number 0 e) (refl)

pub report_refusal : (s : List ℕ) (a : Answer) (w : List ℕ) → (a.number ≡ 0 → ⊥) → report_text s a w ≡ refused_line a
unfolding report_text
report_refusal s a w n = rw (ne_eqb a.number 0 n) (refl)
