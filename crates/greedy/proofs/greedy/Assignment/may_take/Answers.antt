-- `may_take` is the `may_take` of specs: the count decides whether there is such a module, and its limit the rest.
use mathlib.Core.Path.{◌≡◌, sym, ◌∙◌}
use mathlib.Core.List.{List}
use Prim.Native.Nat.{ℕ, ◌<◌}
use native.Mathlib.Omega.{arith}
use lib.ListN.{length, get_or}
use Rattle.layout.specs.Layout.{module_at, module_count, modules_of}
use Rattle.layout.proofs.Turns.{record_here}
use Rattle.figures.proofs.Listed.{modules_length, modules_at}
use Rattle.judge.specs.Claims.{no_module}
use Rattle.greedy.specs.Docks.{chain, modules}
use Rattle.greedy.proofs.Bytes.{byte_most}
use Rattle.greedy.proofs.Choosing.{take_none, take_some}
use Rattle.greedy.proofs.greedy.Assignment.may_take.Goals as goal

-- the modules are as many as are counted
counted : (w : List ℕ) (k : ℕ) {n : ℕ} → n ≡ module_count w k → n ≡ length (modules_of w k)
unfolding modules_of
counted w k e = e ∙ sym (modules_length w 0 _)

-- and the one at a place below the count is the one that is read there
here : (w : List ℕ) (k i : ℕ) {n : ℕ} → n ≡ module_count w k → i < n → module_at w i ≡ get_or (modules_of w k) i no_module
unfolding modules_of
here w k i e h = sym (modules_at w _ i no_module (omega (arith, e)))

pub returns-then-count-i : goal.returns-then-count-i
returns-then-count-i c = sym (take_none (chain c.args.self.dock) (modules c.args.self) c.args.i (omega (arith, counted c.args.self.plan c.args.self.dock.board.tasks c.module_count-count.ensures.0)))

pub overflow_add-m : goal.overflow_add-m
overflow_add-m c =
    let there : c.args.i < length (modules c.args.self) = omega (arith, counted c.args.self.plan c.args.self.dock.board.tasks c.module_count-count.ensures.0) in
    let b = byte_most c.args.self.dock.board.tasks c.args.self.plan c.args.i c.args.self.dock.tasks_most c.args.self.assigned there in
    rw (c.module_at-m.ensures ∙ record_here c.args.self.plan c.args.i (omega arith)) (omega arith)

pub returns : goal.returns
returns c =
    let there : c.args.i < length (modules c.args.self) = omega (arith, counted c.args.self.plan c.args.self.dock.board.tasks c.module_count-count.ensures.0) in
    take_some (chain c.args.self.dock) (modules c.args.self) c.args.i there
    (c.module_at-m.ensures ∙ record_here c.args.self.plan c.args.i (omega arith) ∙ here c.args.self.plan c.args.self.dock.board.tasks c.args.i c.module_count-count.ensures.0 c.if-count-i.false)
    c.within_limit.ensures
