-- `over_next` is the `over_next` of specs by whatever the marked cells say: one step at the last task, else the least so far over the cores of the module after it,
-- up to those that one copy leaves.
use Prim.Native.Nat.{◌+◌, ◌≤◌, ◌<◌}
use mathlib.Core.Path.{◌≡◌}
use Rattle.weights.specs.Scales.{chain_in}
use Rattle.search.specs.Least.{least}
use Rattle.search.specs.Plan.{cap}
use Rattle.search.specs.Weight.{over_copies}
use Rattle.slack.specs.Problem.{problem, sparing_on}
use Rattle.weights.specs.Cells.{Looked}
use Rattle.weights.proofs.grown.Grown.over_next.Given as goal

abbrev pub invariant-loop-i : goal.invariant-loop-i
invariant-loop-i l =
    let k = chain_in l.self.scale in
    (l.i ≤ l.self.scale.board.cores + 1) × Looked k l.self.scale.n l.self.rest.before l.self.rest.from l.self.rest.cores l.initial.work l.work (λ a b. (a ≡ l.self.last) × (b < l.i)) l.m
    (λ R. least (cap (problem k)) l.i (over_copies (problem k) (sparing_on k l.self.scale.n) R l.self.rest.before l.self.rest.from l.self.rest.cores l.self.last))
