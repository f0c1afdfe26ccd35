-- `group_last` is `last_of`: the first bit that ends a module is the lowest of those that are left.
use native.Mathlib.Omega.{arith}
use Rattle.greedy.proofs.Starting.{last_trailing}
use Rattle.greedy.proofs.greedy.group_last.Goals as goal

pub returns : goal.returns
returns c =
    let a = c.args in
    omega (arith, last_trailing a.grouping a.first a.k (omega arith) (omega arith) (omega arith) (omega arith), c.min.ensures)
