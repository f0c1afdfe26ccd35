-- `greedy_on` is the `greedy_on` of specs, with its bytes: at each `return` the tests that led there decide which branch is due.
use mathlib.Core.Path.{refl, sym, ap, ◌∙◌}
use native.Mathlib.Omega.{arith}
use Rattle.layout.specs.Layout.{encode}
use Rattle.layout.proofs.Placing.{put_room}
use Rattle.figures.specs.Model.{cores_of}
use Rattle.greedy.specs.Docks.{chain}
use Rattle.greedy.specs.Greedy.{start}
use Rattle.greedy.proofs.Answering.{place_some, place_none, on_grouping, on_unfit, unfit_cores, unfit_first, on_walk, bytes_kept}
use Rattle.greedy.proofs.Bytes.{assigned}
use Rattle.greedy.proofs.Starting.{start_covered, start_single}
use Rattle.greedy.proofs.greedy.Dock.greedy_on.Goals as goal

pub returns-then-groupings-grouping : goal.returns-then-groupings-grouping
returns-then-groupings-grouping c =
    let e = on_grouping (chain c.args.self) c.args.grouping (omega arith) in
    (sym e, sym (bytes_kept (chain c.args.self) c.args.grouping c.args.plan.now e))

pub put_start-cores-requires : goal.put_start-cores-requires
unfolding encode
put_start-cores-requires c = refl

pub returns-then-total-cores : goal.returns-then-total-cores
returns-then-total-cores c =
    let e = on_unfit (chain c.args.self) c.args.grouping (omega arith) (unfit_cores (chain c.args.self) c.args.grouping (omega arith)) in
    (sym e, sym (bytes_kept (chain c.args.self) c.args.grouping c.args.plan.now e))

pub returns-then-is_some : goal.returns-then-is_some
returns-then-is_some c =
    let e = on_unfit (chain c.args.self) c.args.grouping (omega arith) (unfit_first (chain c.args.self) c.args.grouping refl (assigned c.args.self.board.tasks (start (chain c.args.self) c.args.grouping) c.args.self.some_tasks c.args.self.tasks_most (start_covered (chain c.args.self) c.args.grouping c.args.self.some_tasks) (start_single (chain c.args.self) c.args.grouping) c.put_start-cores.ensures.1).1 (place_some _ c.limit_fault.ensures (sym c.is_some.ensures ∙ c.if-is_some.true))) in
    (sym e, sym (bytes_kept (chain c.args.self) c.args.grouping c.args.plan.now e))

pub walk-best-requires : goal.walk-best-requires
walk-best-requires c =
    let f = assigned c.args.self.board.tasks (start (chain c.args.self) c.args.grouping) c.args.self.some_tasks c.args.self.tasks_most (start_covered (chain c.args.self) c.args.grouping c.args.self.some_tasks) (start_single (chain c.args.self) c.args.grouping) c.put_start-cores.ensures.1 in
    (f.0, omega (arith, ap cores_of f.1))

pub returns : goal.returns
returns c =
    on_walk (chain c.args.self) c.args.grouping (omega arith) c.args.plan.now c.args.self.some_tasks c.args.self.tasks_most (omega arith) c.put_start-cores.ensures.0 (place_none _ c.limit_fault.ensures (sym c.is_some.ensures ∙ c.if-is_some.false)) (assigned c.args.self.board.tasks (start (chain c.args.self) c.args.grouping) c.args.self.some_tasks c.args.self.tasks_most (start_covered (chain c.args.self) c.args.grouping c.args.self.some_tasks) (start_single (chain c.args.self) c.args.grouping) c.put_start-cores.ensures.1).1
    c.walk-best.ensures (c.put_plan.ensures ∙ put_room _ c.args.plan.now c.requires) c.figures.ensures
