-- `start_weight` is `over_last` of the first rest: without a slack no first module of q cores spares.
use native.Mathlib.Omega.{arith}
use mathlib.Core.Path.{◌≡◌, refl, sym, ap, ◌∙◌}
use Prim.Native.Nat.{ℕ, ◌+◌, ◌*◌}
use lib.ListN.{get_or}
use Rattle.sketch.specs.Slacks.{slack_at}
use Rattle.weights.specs.Scales.{chain_in}
use Rattle.modules.proofs.Amounts.{no_sender}
use Rattle.search.proofs.Sparing.{need_start}
use Rattle.slack.specs.Problem.{slack_on, enough_on}
use Rattle.weights.specs.declared.after.Rest.{Rest}
use Rattle.weights.specs.Places.{Stands}
use Rattle.weights.proofs.Beginning.{start_slack}
use Rattle.weights.proofs.Lengthening.{looked_nothing}
use Rattle.weights.proofs.scale.Scale.start_weight.Goals as goal

pub returns-then-work-q-eq0 : goal.returns-then-work-q-eq0
returns-then-work-q-eq0 c =
    let a = c.args in
    let k = chain_in a.self.now in
    let x : Rest = record { before = 0; from = 0; cores = a.q; received = 0; left = a.left } in
    let stands : Stands k a.self.now.n x = record {
      inside = c.requires.0.area.sized.some_tasks;
      one_core = c.requires.3;
      room = omega (arith, c.requires.2, c.requires.4);
      receives = sym (no_sender k 0 a.q);
      left = c.requires.1 ∙ sym (need_start a.self.now.board.cores (enough_on k a.self.now.n) 0 a.q);
    } in
    let word = c.requires.0.slacks 0 c.requires.0.area.sized.some_tasks a.q a.left c.requires.3 c.requires.4 c.requires.2 in
    let at : slack_at 0 a.q a.left ≡ a.q * 33 + a.left = omega arith in
    let none : slack_on k a.self.now.n 0 a.q a.left ≡ 0 = sym word ∙ ap (λ (j : ℕ). get_or a.work.now j 0) at ∙ c.if-work-q-eq0.true in
    looked_nothing k a.self.now.board a.self.now.n x a.work.now refl refl c.requires.0 stands c.no_plan.ensures.0
    (λ l r q' u. omega (arith, none, rw (← c.requires.1) at (start_slack k a.self.now.n l r a.q q' u)))

pub over_last-requires : goal.over_last-requires
over_last-requires c =
    let a = c.args in
    let k = chain_in a.self.now in
    let x : Rest = record { before = 0; from = 0; cores = a.q; received = 0; left = a.left } in
    let stands : Stands k a.self.now.n x = record {
      inside = c.requires.0.area.sized.some_tasks;
      one_core = c.requires.3;
      room = omega (arith, c.requires.2, c.requires.4);
      receives = sym (no_sender k 0 a.q);
      left = c.requires.1 ∙ sym (need_start a.self.now.board.cores (enough_on k a.self.now.n) 0 a.q);
    } in
    (c.requires.0, stands)
