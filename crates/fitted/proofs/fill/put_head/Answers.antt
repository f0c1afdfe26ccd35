-- `put_head` copies: after each turn one byte more is that of the first part.
use mathlib.Core.Path.{◌≡◌, refl, ◌∙◌}
use native.Mathlib.Nat.{zero-add}
use native.Mathlib.Numerals.{add-one}
use native.Mathlib.Omega.{arith}
use lib.ListN.{length}
use lib.Seq.{paste-suc, take_all}
use Rattle.fitted.proofs.fill.put_head.Goals as goal

pub loop-i-preserved : goal.loop-i-preserved
loop-i-preserved c =
    let a = c.args in
    let l = c.loop-i in
    let more = simp zero-add at (paste-suc a.out.now 0 a.head.now l.i 0 (omega arith) (omega arith)) in
    rw (l.invariant, add-one l.i) more

pub returns : goal.returns
returns c =
    let a = c.args in
    let l = c.loop-i in
    let end : l.i ≡ length a.head.now = omega arith in
    l.invariant ∙ rw (end, take_all (length a.head.now) a.head.now (omega arith)) refl
