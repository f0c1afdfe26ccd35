-- `put_start` fills in the start, module by module; no module needs more than 33 cores, so the sum is at most 33 a module.
use mathlib.Core.Path.{refl, ◌∙◌}
use native.Mathlib.Omega.{arith}
use Rattle.greedy.specs.Docks.{chain}
use Rattle.greedy.proofs.Filling.{fill_none, fill_more, fill_all}
use Rattle.greedy.proofs.Starting.{fewest_range}
use Rattle.greedy.proofs.greedy.Dock.put_start.Goals as goal

pub loop-first-init : goal.loop-first-init
loop-first-init c = (omega arith, omega arith, omega arith, refl, fill_none (chain c.args.self) c.args.grouping (omega arith) c.requires)

pub overflow_cast-m : goal.overflow_cast-m
overflow_cast-m c = omega (arith, fewest_range (chain c.args.self) c.loop-first.first c.group_last-last.result)

pub overflow_add-sum : goal.overflow_add-sum
overflow_add-sum c = omega (arith, fewest_range (chain c.args.self) c.loop-first.first c.group_last-last.result)

pub loop-first-preserved : goal.loop-first-preserved
loop-first-preserved c =
    let a = c.args in
    let l = c.loop-first in
    let more = fill_more (chain a.self) a.grouping l.invariant.4 (omega arith) (omega arith)
    c.group_last-last.ensures.0 c.fewest_cores-fewest.ensures c.put_module.ensures in
    let f = fewest_range (chain c.args.self) c.loop-first.first c.group_last-last.result in
    (omega arith, omega arith, omega arith, c.put_module.auto.plan ∙ l.invariant.3, more)

pub returns : goal.returns
returns c =
    let a = c.args in
    fill_all (chain a.self) a.grouping c.loop-first.invariant.4 (omega arith)
