-- `fill` goes from the last task to the first: the table is right by modules that end after the loop's task.
use native.Mathlib.Omega.{arith}
use mathlib.Core.Path.{◌≡◌, refl, ◌∙◌}
use Rattle.threshold.specs.Docks.{chain}
use Rattle.threshold.proofs.Ending.{laid_words, cleared_after, filled_all}
use Rattle.threshold.proofs.dock.Dock.fill.Goals as goal

pub loop-l-init : goal.loop-l-init
loop-l-init c =
    let a = c.args in
    let k = chain a.self.now in
    let cleared = c.clear.ensures in
    (laid_words k a.work.now _ (λ j h. cleared.kept j (omega arith)) c.requires.2, cleared_after k a.n c.requires.1 a.work.now _ cleared, λ j h. refl)

pub returns : goal.returns
returns c =
    let i = c.loop-l.invariant in
    let a = c.args in
    let cleared = c.clear.ensures in
    let z : c.loop-l.l ≡ 0 = omega arith in (
      c.loop-l.auto.work ∙ cleared.long,
      i.0,
      filled_all (chain a.self.now) a.n c.requires.1 (omega arith) c.loop-l.work (rw z at i.1),
      λ j h. i.2 j h ∙ cleared.kept j (omega arith),
    )
