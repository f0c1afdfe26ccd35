-- `spaced` puts the number and what ends it behind the text, one piece after the other.
use mathlib.Core.List.{append_assoc}
use native.Mathlib.Omega.{arith}
use Rattle.console.specs.Text.{spaced}
use Rattle.console.proofs.words.spaced.Goals as goal

pub returns : goal.returns
unfolding spaced
returns c = (rw (c.push_str.ensures.bytes, c.number.ensures.0) (simp append_assoc), omega arith)
