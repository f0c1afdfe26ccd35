-- `text_of` is `program_text`: what was taken in decides, and a length above the file's is cut to it, where the bytes are the same.
use mathlib.Core.Path.{sym, ◌∙◌}
use Rattle.plan.proofs.Deciding.{text_longer, text_held}
use Rattle.plan.proofs.text_of.Goals as goal

pub returns-then-input : goal.returns-then-input
returns-then-input c =
    let a = c.args in
    c.too_long.ensures ∙ sym (text_longer a.input a.file.now c.if-input.true)

pub returns : goal.returns
returns c =
    let a = c.args in
    c.answer.ensures ∙ sym (text_held a.input a.file.now c.if-input.false c.min-n.ensures)
