-- `cheapest` keeps a row whose least entry up to c is the cheapest transfer so far to a rest of at most c cores: each next module is
-- entered at the fewest cores of a rest that it can lead, and one that leads none need not be. `settle` then takes the least up to each entry.
use Prim.Native.Nat.{ℕ}
use mathlib.Core.List.{List}
use Rattle.modules.specs.Model.{Chain, chain_of}
use Rattle.offers.specs.Words.{NoRest, NoneBelow}
use Rattle.offers.proofs.Rows.{Entered}
use Rattle.offers.proofs.ends.cheapest.Given as goal

-- the next modules of fewer than i cores are entered in the row, none of whose entries below `least` is a transfer
pub record EnteredBelow (c : Chain) (w : List ℕ) (l q end least : ℕ) (row : List ℕ) (i : ℕ) : Type 0 where
  pub entered : NoRest w l least → Entered c w l q end row i
  pub bare : NoneBelow row least

abbrev pub invariant-loop-led : goal.invariant-loop-led
invariant-loop-led l = EnteredBelow (chain_of l.costs l.board) l.work l.l l.q l.end l.least l.row l.led
