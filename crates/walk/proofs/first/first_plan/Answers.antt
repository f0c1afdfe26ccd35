-- `first_plan` lays a path where there is a threshold, and the lightest plans weigh less than what stands for none; else there is none.
use mathlib.Core.Path.{refl, sym, ap, subst}
use mathlib.Core.Logic.{⊎_elim}
use native.Mathlib.Omega.{arith}
use Rattle.std.specs.Prelude.{◌+◌, Some}
use Rattle.slack.specs.Problem.{top_threshold}
use Rattle.modules.specs.Model.{chain_of}
use Rattle.layout.specs.Layout.{encode}
use Rattle.walk.specs.First.{WalkedTo}
use Rattle.walk.proofs.first.first_plan.Goals as goal

pub returns-in_err-x : goal.returns-in_err-x
returns-in_err-x c =
    let a = c.args in
    let x = c.in_err-x.ensures in
    subst (WalkedTo (chain_of a.costs.now a.board) a.board a.work.now c.lightest_plans.new.work) (sym c.from_residual.ensures)
    (record {
      least = top_threshold + 1;
      decided = x.answered;
      some = λ room low light. absurd (omega arith);
      none = λ _. refl;
      long = x.long;
      refused = λ out. (x.refused out).1;
      kept = x.kept;
    })

pub returns-then-board-x : goal.returns-then-board-x
returns-then-board-x c =
    let x = c.in_ok-x.ensures in
    let (room, low, decided, f) = x.answered in
    record {
      least = c.in_ok-x.x.threshold;
      decided = λ _. decided;
      some = λ room low light. absurd (omega (arith, c.if-board-x.true, f.weight));
      none = λ _. refl;
      long = x.long;
      refused = λ out. absurd (out room);
      kept = x.kept;
    }

pub lay_path-requires : goal.lay_path-requires
unfolding encode
lay_path-requires c =
    let f = c.in_ok-x.ensures.answered.3 in
    (f.fewest, f.few, f.weight, omega (arith, c.if-board-x.false), refl)

pub returns : goal.returns
returns c =
    let x = c.in_ok-x.ensures in
    let (room, low, decided, f) = x.answered in
    record {
      least = c.in_ok-x.x.threshold;
      decided = λ _. decided;
      some = λ _ _ _. ap Some c.lay_path.ensures;
      none = λ none. ⊎_elim (λ h. absurd (omega (arith, low))) (λ h. absurd (omega (arith, c.if-board-x.false, f.weight))) (none room);
      long = x.long;
      refused = λ out. absurd (out room);
      kept = x.kept;
    }
