-- `cores_left` is the fewest cores of the rest: before the first module those of a whole plan, and after a module what the rest has left.
use mathlib.Core.Path.{refl, sym, ap, ◌∙◌}
use Prim.Native.Nat.{ℕ}
use Rattle.walk.specs.Tables.{chain_in}
use Rattle.search.proofs.Sparing.{need_start}
use Rattle.slack.specs.Problem.{enough_on, need_on}
use Rattle.rests.proofs.Fewest.{needed_is}
use native.Mathlib.Omega.{arith}
use Rattle.walk.proofs.turn.Turn.cores_left.Goals as goal

pub returns-then-self-eq0 : goal.returns-then-self-eq0
returns-then-self-eq0 c = λ n filled whole.
    let a = c.args in
    let x = a.self.now in
    let k = chain_in x.tables in
    whole ∙ sym (ap (λ (t : ℕ). need_on k n x.passed.cores t a.p) c.if-self-eq0.true ∙ need_start x.tables.board.cores (enough_on k n) x.passed.cores a.p)

pub returns : goal.returns
returns c = λ n filled whole.
    let a = c.args in
    let x = a.self.now in
    needed_is (chain_in x.tables) n x.tables.board x.tables.work.now x.passed.cores refl x.tables.tabled.area.sized.cores_most (omega (arith, x.tables.tabled.area.long)) x.tables.tabled.area.sized.tasks_most filled (omega (arith, c.if-self-eq0.false)) (omega arith) (omega arith) (omega arith)
    c.transfer-received.ensures c.cores_needed.ensures
