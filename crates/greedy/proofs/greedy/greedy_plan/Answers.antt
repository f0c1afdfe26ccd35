-- `greedy_plan` is `greedy_answer`, with `greedy_bytes`: what reading the costs finds decides which branch is due.
use mathlib.Core.Path.{◌≡◌, sym, ap, subst, ◌∙◌}
use native.Mathlib.Omega.{arith}
use Rattle.std.specs.Prelude.{Result}
use Rattle.std.proofs.lemmas.Result.{err_from_is_err_and}
use Rattle.records.specs.declared.Board.{Board}
use Rattle.records.specs.declared.refusal.Refusal.{Refusal}
use Rattle.records.specs.Costs.{board_in, read_costs}
use Rattle.records.specs.Format.{Ranged}
use Rattle.records.specs.Refusals.{number_in}
use Rattle.records.proofs.Laws.{accepted_ranges}
use Rattle.modules.specs.Model.{chain_of}
use Rattle.greedy.specs.Greedy.{greedy_on, greedy_bytes_on}
use Rattle.greedy.proofs.Answering.{answer_costs, answer_short, answer_on_lem}
use Rattle.greedy.proofs.greedy.greedy_plan.Goals as goal

pub returns-in_err-board : goal.returns-in_err-board
returns-in_err-board c =
    let a = c.args in
    let p = err_from_is_err_and c.from_residual.result c.from_residual.ensures.1 in
    let n = answer_costs a.costs.now a.plan.now a.grouping (sym c.read.ensures ∙ c.in_err-board.was) in
    rw (p.1, p.2) (sym n.0, sym n.1)

pub returns-then-plan-lt-PLAN_BYTES : goal.returns-then-plan-lt-PLAN_BYTES
returns-then-plan-lt-PLAN_BYTES c =
    let a = c.args in
    let read = sym c.read.ensures ∙ c.in_ok-board.was in
    let n = answer_short a.costs.now a.plan.now a.grouping (rw read) (omega arith) in
    (sym n.0, sym n.1)

pub invariant_of-greedy_on : goal.invariant_of-greedy_on
invariant_of-greedy_on c =
    let read = sym c.read.ensures ∙ c.in_ok-board.was in
    let n : number_in (read_costs c.args.costs.now) ≡ 0 = rw read in
    let b = subst Ranged (ap (λ (r : Result Board Refusal). board_in r) read) (accepted_ranges c.args.costs.now n).0 in
    record { some_tasks = omega arith; tasks_most = omega arith; cores_most = omega arith }

pub returns : goal.returns
returns c =
    let a = c.args in
    let read = sym c.read.ensures ∙ c.in_ok-board.was in
    let n : number_in (read_costs a.costs.now) ≡ 0 = rw read in
    let board = sym (ap (λ (r : Result Board Refusal). board_in r) read) in
    let on = answer_on_lem a.costs.now a.plan.now a.grouping (record { accepted = n; long = omega arith }) in
    let made = c.greedy_on.ensures in (
      made.0 ∙ ap (λ (x : Board). greedy_on (chain_of a.costs.now x) a.grouping) board ∙ sym on.0,
      made.1 ∙ ap (λ (x : Board). greedy_bytes_on (chain_of a.costs.now x) a.grouping a.plan.now) board ∙ sym on.1,
    )
