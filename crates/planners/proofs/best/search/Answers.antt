-- `search` finds what the definition that tries every plan finds: nothing where no plan is within the greatest threshold, else the
-- plan of the least one that some plan is within, the first of the lightest.
use mathlib.Core.Path.{refl, ◌∙◌}
use Rattle.layout.proofs.Placing.{put_room}
use Rattle.planners.proofs.Serving.{area, decided_feasible, decided_bottom, walked_some, walked_none, none_answer, none_bytes, plan_reached, plan_answer, plan_bytes_lem}
use Rattle.planners.proofs.best.search.Goals as goal

pub returns-in_default : goal.returns-in_default
returns-in_default c =
    let a = c.args in
    let x = c.in_default.ensures in
    let room = area a.costs.now a.board c.requires.0 a.work.now c.requires.2 in
    let none = walked_none a.costs.now a.board c.requires.0 room x refl in (
      none_answer a.costs.now a.board c.requires.0 (x.decided room) none,
      none_bytes a.costs.now a.board c.requires.0 (x.decided room) none a.plan.now,
      x.long,
    )

pub figures_of-requires : goal.figures_of-requires
figures_of-requires c =
    let a = c.args in
    let x = c.in-Some.ensures in
    let room = area a.costs.now a.board c.requires.0 a.work.now c.requires.2 in
    let f = walked_some a.costs.now a.board c.requires.0 room x refl in
    let feasible = decided_feasible a.costs.now a.board c.requires.0 x.least (x.decided room) f.0 in
    let bottom = decided_bottom a.costs.now a.board c.requires.0 x.least (x.decided room) in
    plan_reached a.costs.now a.board c.requires.0 x.least feasible bottom f.1

pub returns : goal.returns
returns c =
    let a = c.args in
    let x = c.in-Some.ensures in
    let room = area a.costs.now a.board c.requires.0 a.work.now c.requires.2 in
    let f = walked_some a.costs.now a.board c.requires.0 room x refl in
    let feasible = decided_feasible a.costs.now a.board c.requires.0 x.least (x.decided room) f.0 in
    let bottom = decided_bottom a.costs.now a.board c.requires.0 x.least (x.decided room) in (
      plan_answer a.costs.now a.board c.requires.0 x.least feasible bottom f.1 c.figures_of.ensures,
      plan_bytes_lem a.costs.now a.board c.requires.0 x.least feasible bottom f.1 a.plan.now (c.put_plan.ensures ∙ put_room _ a.plan.now c.requires.1),
      x.long,
    )
