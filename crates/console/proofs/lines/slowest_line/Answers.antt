-- `slowest_line` puts its words and numbers behind the text, one piece after the other.
use mathlib.Core.List.{append_assoc}
use Rattle.console.specs.Text.{slowest_line}
use Rattle.console.proofs.lines.slowest_line.Goals as goal

pub returns : goal.returns
unfolding slowest_line
returns c =
    rw (c.ended.ensures.0, c.push_str-2.ensures.bytes, c.spaced-3.ensures.0, c.spaced-2.ensures.0, c.spaced.ensures.0, c.push_str.ensures.bytes) (simp append_assoc)
