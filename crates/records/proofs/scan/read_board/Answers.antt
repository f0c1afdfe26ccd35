-- `read_board` is the `read_board` of specs: the two tests of the length decide which branch is due.
use borrow.Author.Tests.{eq-eqb, ne_eqb, le-leb, lt-leb}
use Rattle.records.specs.Costs.{length_meets, read_board}
use Rattle.records.proofs.scan.read_board.Goals as goal

pub returns-then-costs-lt-RECORD : goal.returns-then-costs-lt-RECORD
unfolding length_meets read_board
returns-then-costs-lt-RECORD c = simp (lt-leb _ _ c.if-costs-lt-RECORD.true)

pub returns-then-costs-ne0 : goal.returns-then-costs-ne0
unfolding length_meets read_board
returns-then-costs-ne0 c = simp (le-leb _ _ c.if-costs-lt-RECORD.false, ne_eqb _ _ c.if-costs-ne0.true)

pub returns : goal.returns
unfolding length_meets read_board
returns c = simp (le-leb _ _ c.if-costs-lt-RECORD.false, eq-eqb _ _ c.if-costs-ne0.false) c.read_head.ensures
