-- `module_lines` is the `module_lines` of specs: after each turn one line more stands at the end.
use mathlib.Core.Path.{◌≡◌, sym, ap, ◌∙◌}
use mathlib.Core.List.{List}
use Prim.Native.Nat.{ℕ}
use native.Mathlib.Omega.{arith}
use lib.ListN.{length}
use Rattle.modules.specs.Model.{chain_of}
use Rattle.console.proofs.Reported.{lines_none, lines_more}
use Rattle.console.proofs.lines.module_lines.Goals as goal

pub loop-i-init : goal.loop-i-init
loop-i-init c =
    let a = c.args in
    (c.new-text.ensures ∙ sym (lines_none (chain_of a.costs.now a.board) a.plan.now), omega (arith, ap (λ (l : List ℕ). length l) c.new-text.ensures))

pub loop-i-preserved : goal.loop-i-preserved
loop-i-preserved c =
    let a = c.args in
    let l = c.loop-i in
    let more = lines_more (chain_of a.costs.now a.board) a.plan.now l.i in
    (rw (c.module_line.ensures.0, c.response-x.ensures, c.module_at-m.ensures, l.invariant.0) (sym more), omega arith)

pub returns : goal.returns
returns c =
    let l = c.loop-i in
    let end : l.i ≡ c.args.count = omega arith in
    (rw (← end) l.invariant.0, omega arith)
