-- `consider` is the definition's `consider`: at each `return` the tests that led there decide whether the candidate is the new best.
use mathlib.Core.Path.{sym, ◌∙◌}
use native.Mathlib.Omega.{arith}
use Rattle.figures.proofs.Covering.{covers_length}
use Rattle.greedy.specs.Docks.{chain, modules}
use Rattle.greedy.proofs.Bytes.{byte_most}
use Rattle.greedy.proofs.Choosing.{take_parts, considered_none, considered_first, considered_more, considered_less}
use Rattle.greedy.proofs.greedy.Assignment.consider.Goals as goal

pub returns-then-not-may_take : goal.returns-then-not-may_take
returns-then-not-may_take c = considered_none (chain c.args.self.dock) c.args.self.plan c.args.i c.args.best c.requires (sym c.may_take.ensures ∙ c.if-not-may_take.true)

pub give-given-requires : goal.give-given-requires
give-given-requires c =
    let takes = sym c.may_take.ensures ∙ c.if-not-may_take.false in
    let t = (take_parts (chain c.args.self.dock) (modules c.args.self) c.args.i takes).0 in
    let b = byte_most c.args.self.dock.board.tasks c.args.self.plan c.args.i c.args.self.dock.tasks_most c.args.self.assigned t in
    let n = covers_length c.args.self.dock.board.tasks 1 (modules c.args.self) c.args.self.assigned.covered in
    omega arith

pub returns-then-earlier-time : goal.returns-then-earlier-time
returns-then-earlier-time c =
    considered_more (chain c.args.self.dock) c.args.self.plan c.args.i c.args.best c.requires c.args.self.assigned c.args.self.dock.some_tasks c.args.self.dock.tasks_most (sym c.may_take.ensures ∙ c.if-not-may_take.false) c.give-given.ensures c.time_of-time.ensures
    c.in-Some.earlier c.in-Some.is c.if-earlier-time.true

pub returns-else-earlier-time : goal.returns-else-earlier-time
returns-else-earlier-time c =
    considered_less (chain c.args.self.dock) c.args.self.plan c.args.i c.args.best c.requires c.args.self.assigned c.args.self.dock.some_tasks c.args.self.dock.tasks_most (sym c.may_take.ensures ∙ c.if-not-may_take.false) c.give-given.ensures c.time_of-time.ensures
    c.in-Some.earlier c.in-Some.is c.if-earlier-time.false

pub returns-in_default : goal.returns-in_default
returns-in_default c =
    considered_first (chain c.args.self.dock) c.args.self.plan c.args.i c.args.best c.requires c.args.self.assigned c.args.self.dock.some_tasks c.args.self.dock.tasks_most (sym c.may_take.ensures ∙ c.if-not-may_take.false) c.give-given.ensures c.time_of-time.ensures
    c.in_default.is
