-- `read_head` is the `read_head` of specs: the first record's bytes and the board's test decide which branch is due.
use borrow.Author.Tests.{eq-eqb, ne_eqb}
use Rattle.records.specs.Costs.{head_meets, read_head}
use Rattle.records.proofs.scan.read_head.Goals as goal

pub returns-then-kind-ne1 : goal.returns-then-kind-ne1
unfolding head_meets read_head
returns-then-kind-ne1 c = simp (← c.byte_at-kind.ensures.0, ne_eqb _ _ c.if-kind-ne1.true)

pub returns-then-board_meets : goal.returns-then-board_meets
unfolding head_meets read_head
returns-then-board_meets c =
    simp (
      ← c.byte_at-kind.ensures.0,
      eq-eqb _ _ c.if-kind-ne1.false,
      ← c.byte_at-cores.ensures.0,
      ← c.byte_at-tasks.ensures.0,
      ← c.value_at-capacity.ensures,
      ← c.board_meets.ensures,
      c.if-board_meets.true,
    )

pub returns-else-board_meets : goal.returns-else-board_meets
unfolding head_meets read_head
returns-else-board_meets c =
    simp (
      ← c.byte_at-kind.ensures.0,
      eq-eqb _ _ c.if-kind-ne1.false,
      ← c.byte_at-cores.ensures.0,
      ← c.byte_at-tasks.ensures.0,
      ← c.value_at-capacity.ensures,
      ← c.board_meets.ensures,
      c.if-board_meets.false,
    )
