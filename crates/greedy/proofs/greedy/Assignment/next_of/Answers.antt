-- `next_of` is `next`: the slowest module has a number, and each candidate is considered after the one before.
use mathlib.Core.Path.{◌≡◌, sym, ap, ◌∙◌}
use mathlib.Core.List.{List}
use Prim.Native.Nat.{◌-◌}
use native.Mathlib.Omega.{arith}
use lib.ListN.{length}
use Rattle.modules.specs.declared.Module.{Module}
use Rattle.modules.specs.Model.{Chain}
use Rattle.figures.specs.declared.PlanFigures.{PlanFigures}
use Rattle.figures.specs.Model.{bottleneck}
use Rattle.figures.specs.Plan.{figures_of}
use Rattle.greedy.specs.Docks.{chain, modules}
use Rattle.greedy.specs.Greedy.{predecessor}
use Rattle.greedy.proofs.Choosing.{slowest_number, before_first, before_later, next_is}
use Rattle.greedy.proofs.greedy.Assignment.next_of.Goals as goal
use Rattle.greedy.proofs.greedy.Assignment.next_of.Goals.{then-i-gt0, else-i-gt0}

-- what the figures say
slowest : {a : PlanFigures} (k : Chain) (ms : List Module) → a ≡ figures_of k ms → a.slowest ≡ (bottleneck k ms).number
unfolding figures_of
slowest k ms e = ap (λ (a : PlanFigures). a.slowest) e

count : {a : PlanFigures} (k : Chain) (ms : List Module) → a ≡ figures_of k ms → a.modules ≡ length ms
unfolding figures_of
count k ms e = ap (λ (a : PlanFigures). a.modules) e

pub overflow_sub-i : goal.overflow_sub-i
overflow_sub-i c = omega (arith, slowest _ _ c.figures-f.ensures, slowest_number (chain c.args.self.dock) c.args.self.dock.board.tasks (modules c.args.self) c.args.self.assigned.covered c.args.self.dock.some_tasks)

pub returns : goal.returns
returns c =
    let i = c.figures-f.result.slowest - 1 in
    let place : c.if-i-gt0.before ≡ predecessor (modules c.args.self) i = elim c.if-i-gt0.branch [
      | then-i-gt0 w ↦ w.before-is ∙ sym (before_later (modules c.args.self) i w.if-i-gt0.true)
      | else-i-gt0 w ↦ w.before-is ∙ count _ _ c.figures-f.ensures ∙ sym (before_first (modules c.args.self) i w.if-i-gt0.false)
    ] in
    let number : i ≡ (bottleneck (chain c.args.self.dock) (modules c.args.self)).number - 1 = omega (arith, slowest _ _ c.figures-f.ensures) in
    (c.consider.ensures.0, next_is (chain c.args.self.dock) (modules c.args.self) number place c.consider-own.ensures.1 c.consider-left.ensures.1 c.consider.ensures.1)
