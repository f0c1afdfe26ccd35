-- `refused` is its line behind the empty text.
use mathlib.Core.List.{append_assoc}
use Rattle.console.specs.Text.{refused_line}
use Rattle.console.proofs.lines.refused.Goals as goal

pub returns : goal.returns
unfolding refused_line
returns c = rw (c.ended.ensures.0, c.spaced.ensures.0, c.push_str.ensures.bytes, c.new-text.ensures) (simp append_assoc)
