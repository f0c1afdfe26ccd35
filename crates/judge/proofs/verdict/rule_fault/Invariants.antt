-- `rule_fault` is `first_failing` of `rule_test`: what is found from the i-th module on is what is found from the first one on.
use mathlib.Core.Path.{◌≡◌}
use Prim.Native.Nat.{◌+◌, ◌-◌}
use Rattle.modules.specs.Model.{chain_of}
use Rattle.layout.specs.Layout.{modules_from, modules_of}
use Rattle.judge.specs.Judge.{first_failing, rule_test}
use Rattle.judge.proofs.verdict.rule_fault.Given as goal

abbrev pub invariant-loop-i : goal.invariant-loop-i
invariant-loop-i l =
    let f = rule_test (chain_of l.costs l.board) l.rule in
    first_failing f 1 (modules_of l.plan l.board.tasks) ≡ first_failing f (l.i + 1) (modules_from l.plan l.i (l.count - l.i))
