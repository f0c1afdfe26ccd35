-- `hand_out_at` is `hand_out_of`: a byte is its own remainder.
use native.Mathlib.Omega.{arith}
use Rattle.lookups.specs.Lookups.{hand_out_of}
use Rattle.lookups.proofs.lookup.hand_out_at.Goals as goal

pub returns : goal.returns
unfolding hand_out_of
returns c = omega (arith, c.byte_at.ensures)
