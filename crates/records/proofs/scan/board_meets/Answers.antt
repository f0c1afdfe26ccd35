-- `board_meets` is the `board_meets` of specs: at each `return` the tests that led there decide the conjunction.
use native.Mathlib.Omega.{arith}
use borrow.Author.Tests.{le-leb, lt-leb}
use Rattle.records.specs.Costs.{most_tasks, most_cores, board_meets}
use Rattle.records.proofs.scan.board_meets.Goals as goal

pub returns-then-board-lt1 : goal.returns-then-board-lt1
unfolding board_meets
returns-then-board-lt1 c =
    let b = c.args.board in
    simp (lt-leb 1 b.cores (omega arith))

pub returns-then-board-gt-MOST_CORES : goal.returns-then-board-gt-MOST_CORES
unfolding board_meets
returns-then-board-gt-MOST_CORES c =
    let b = c.args.board in
    simp (le-leb 1 b.cores (omega arith), lt-leb b.cores most_cores (omega arith))

pub returns-then-board-lt1-2 : goal.returns-then-board-lt1-2
unfolding board_meets
returns-then-board-lt1-2 c =
    let b = c.args.board in
    simp (le-leb 1 b.cores (omega arith), le-leb b.cores most_cores (omega arith), lt-leb 1 b.tasks (omega arith))

pub returns-then-board-gt-MOST_TASKS : goal.returns-then-board-gt-MOST_TASKS
unfolding board_meets
returns-then-board-gt-MOST_TASKS c =
    let b = c.args.board in
    simp (
      le-leb 1 b.cores (omega arith),
      le-leb b.cores most_cores (omega arith),
      le-leb 1 b.tasks (omega arith),
      lt-leb b.tasks most_tasks (omega arith),
    )

pub returns-then-board-lt1-3 : goal.returns-then-board-lt1-3
unfolding board_meets
returns-then-board-lt1-3 c =
    let b = c.args.board in
    simp (
      le-leb 1 b.cores (omega arith),
      le-leb b.cores most_cores (omega arith),
      le-leb 1 b.tasks (omega arith),
      le-leb b.tasks most_tasks (omega arith),
      lt-leb 1 b.capacity (omega arith),
    )

pub returns : goal.returns
unfolding board_meets
returns c =
    let b = c.args.board in
    simp (
      le-leb 1 b.cores (omega arith),
      le-leb b.cores most_cores (omega arith),
      le-leb 1 b.tasks (omega arith),
      le-leb b.tasks most_tasks (omega arith),
      le-leb 1 b.capacity (omega arith),
    )
