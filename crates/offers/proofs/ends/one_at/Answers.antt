-- `one_at` is what one copy leaves: its time is n · 1 ÷ 1024, and no cost of handing out counts.
use native.Mathlib.Omega.{arith}
use Rattle.slack.proofs.Offers.{left_one}
use Rattle.offers.specs.Words.{time_at, row_of}
use Rattle.offers.proofs.ends.one_at.Goals as goal

pub returns : goal.returns
returns c =
    let a = c.args in
    λ extra. left_one (time_at a.n) extra (row_of a.row.now) 0 a.q a.b _ c.requires.1 (omega (arith, c.beyond.ensures, c.from.ensures))
