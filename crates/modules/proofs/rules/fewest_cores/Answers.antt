-- `fewest_cores` is the `fewest_cores` of specs: what the search from p on finds is what the whole search finds.
use mathlib.Core.Path.{◌≡◌, sym, ◌∙◌}
use Prim.Native.Nat.{◌+◌, ◌-◌}
use native.Mathlib.Omega.{arith}
use Rattle.modules.specs.Model.{chain_of}
use Rattle.modules.specs.Rules.{fewest_cores}
use Rattle.modules.proofs.Fewest.{fewest_here, fewest_next, fewest_end}
use Rattle.modules.proofs.rules.fewest_cores.Goals as goal
use Rattle.modules.proofs.rules.fewest_cores.Goals.{else-loop-p-test, then-loop-p-test+else-memory_fits+else-p-p-end}

pub loop-p-init : goal.loop-p-init
unfolding fewest_cores
loop-p-init c = let e : c.args.board.cores + 1 - 1 ≡ c.args.board.cores = omega arith in (omega arith, simp e)

pub returns-then-memory_fits : goal.returns-then-memory_fits
returns-then-memory_fits c =
    let a = c.args in
    let l = c.loop-p in
    let k = chain_of a.costs.now a.board in
    sym (l.invariant.1 ∙ fewest_here k a.first a.last l.p a.board.cores l.auto.p c.loop-p-test.true c.memory_fits.ensures c.if-memory_fits.true)

pub loop-p-preserved : goal.loop-p-preserved
loop-p-preserved c =
    let a = c.args in
    let l = c.loop-p in
    let k = chain_of a.costs.now a.board in
    (omega arith, l.invariant.1 ∙ fewest_next k a.first a.last l.p a.board.cores l.auto.p c.loop-p-test.true c.memory_fits.ensures c.if-memory_fits.false)

pub returns : goal.returns
returns c =
    let a = c.args in
    let l = c.loop-p in
    let k = chain_of a.costs.now a.board in
    let top = a.board.cores in
    elim c.loop-p-test.branch [
      | else-loop-p-test w ↦ let e : l.p ≡ top + 1 = omega arith in sym (l.invariant.1 ∙ fewest_end k a.first a.last l.p top e ∙ e)
      | then-loop-p-test+else-memory_fits+else-p-p-end w ↦
          let e : l.p + 1 ≡ top + 1 = omega arith in
          sym (
          l.invariant.1
          ∙ fewest_next k a.first a.last l.p top l.auto.p w.loop-p-test.true w.memory_fits.ensures w.if-memory_fits.false
          ∙ fewest_end k a.first a.last (l.p + 1) top e
          ∙ e
          )
    ]
