-- `too_long` is its line behind the empty text.
use mathlib.Core.Path.{refl}
use Rattle.console.specs.Text.{too_long}
use Rattle.console.proofs.lines.too_long.Goals as goal

pub returns : goal.returns
unfolding too_long
returns c = rw (c.push_str.ensures.bytes, c.new-text.ensures) (refl)
