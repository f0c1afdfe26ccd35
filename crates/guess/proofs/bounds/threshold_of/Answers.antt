-- `threshold_of` tells the cases of the definition apart, and works with the ticks for each copy, whole and rest, which fit 64 bits
-- for all numbers.
use mathlib.Core.Path.{sym}
use native.Mathlib.Omega.{arith}
use Rattle.guess.proofs.Thresholds.{none_where_long, none_without_copies, from_whole_and_rest}
use Rattle.guess.proofs.bounds.threshold_of.Goals as goal
use Rattle.guess.proofs.bounds.threshold_of.Goals.{then-several-lt1-via-then-several-lt1, then-several-lt1-via-else-several-lt1+then-several-response}

pub returns-then-several-lt1 : goal.returns-then-several-lt1
returns-then-several-lt1 c = elim c.then-several-lt1.branch [
  | then-several-lt1-via-then-several-lt1 w ↦ sym (none_without_copies c.args.response c.args.copies (omega arith))
  | then-several-lt1-via-else-several-lt1+then-several-response w ↦ sym (none_where_long c.args.response c.args.copies (omega arith))
]

pub returns : goal.returns
returns c = rw (c.div_ceil.ensures, c.from-several.ensures) (sym (from_whole_and_rest c.args.response c.args.copies (omega arith) (omega arith)))
