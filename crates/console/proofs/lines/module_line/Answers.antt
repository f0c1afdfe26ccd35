-- `module_line` puts its five numbers behind the text, one piece after the other.
use mathlib.Core.List.{append_assoc}
use native.Mathlib.Omega.{arith}
use Rattle.console.specs.Text.{module_line}
use Rattle.console.proofs.lines.module_line.Goals as goal

pub returns : goal.returns
unfolding module_line
returns c =
    (rw (c.ended.ensures.0, c.spaced-4.ensures.0, c.spaced-3.ensures.0, c.spaced-2.ensures.0, c.spaced.ensures.0) (simp append_assoc), omega arith)
