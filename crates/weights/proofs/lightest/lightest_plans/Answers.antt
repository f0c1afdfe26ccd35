-- `lightest_plans` weighs at the least threshold: where some plan is within it there was room, and its table stands; else nothing is weighed.
use mathlib.Core.Path.{refl, sym, subst, ◌∙◌}
use native.Mathlib.Omega.{arith}
use Rattle.modules.specs.Model.{chain_of}
use Rattle.rests.proofs.Fewest.{fewest_found}
use Rattle.weights.specs.Lightest.{LightestOf}
use Rattle.weights.proofs.Beginning.{fewest_board}
use Rattle.weights.proofs.lightest.lightest_plans.Goals as goal

pub returns-in_err-n : goal.returns-in_err-n
returns-in_err-n c =
    let a = c.args in
    let s = c.in_err-n.ensures in
    subst (LightestOf (chain_of a.costs.now a.board) a.board a.work.now c.least_threshold.new.work) (sym c.from_residual.ensures)
    (record { long = s.long; answered = s.answered; laid = s.laid; refused = λ out. (refl, (s.refused out).1); kept = s.kept })

pub weight_within-weight-requires : goal.weight_within-weight-requires
weight_within-weight-requires c =
    let a = c.args in
    let k = chain_of a.costs.now a.board in
    let n = c.in_ok-n in
    let s = n.ensures in
    let (room, low, decided, slacks) = s.answered in
    let whole = fewest_found k n.n _ slacks room.sized.some_tasks refl room.sized.cores_most c.fewest_cores-cores.ensures in
    let few = fewest_board k n.n room.sized.some_tasks (decided.some_plan low) in
    (record { area = rw s.long room; low = low; laid = s.laid room; slacks = slacks }, whole, omega arith)

pub returns : goal.returns
returns c =
    let a = c.args in
    let k = chain_of a.costs.now a.board in
    let n = c.in_ok-n in
    let s = n.ensures in
    let (room, low, decided, slacks) = s.answered in
    let whole = fewest_found k n.n _ slacks room.sized.some_tasks refl room.sized.cores_most c.fewest_cores-cores.ensures in
    let few = fewest_board k n.n room.sized.some_tasks (decided.some_plan low) in
    let w = c.weight_within-weight.ensures in
    record {
      long = w.1 ∙ s.long;
      answered = (room, low, decided, record { tabled = w.2; weighed = w.3; fewest = whole; few = omega arith; weight = w.0 });
      laid = λ _. w.2.laid;
      refused = λ out. absurd (out room);
      kept = λ j h. w.4 j h ∙ s.kept j h;
    }
