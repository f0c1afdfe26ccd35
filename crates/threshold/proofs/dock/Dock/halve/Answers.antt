-- `halve` keeps a bracket narrower than 2 to the tries that are left: at the end it has no width, and decides.
use mathlib.Core.Path.{refl, ◌∙◌}
use native.Mathlib.Omega.{arith}
use Rattle.threshold.specs.Docks.{chain}
use Rattle.threshold.proofs.Hunting.{bracket_narrow, tried_half, width_none, bracket_decided}
use Rattle.threshold.proofs.dock.Dock.halve.Goals as goal

pub loop-left-init : goal.loop-left-init
loop-left-init c =
    let a = c.args in
    (c.requires.1, c.requires.2, bracket_narrow (chain a.self.now) c.requires.2, λ j h. refl)

pub loop-left-preserved : goal.loop-left-preserved
loop-left-preserved c =
    let o = c.loop-left in
    let i = o.invariant in
    let a = c.args in
    let f = c.fill.ensures in
    let t = c.narrowed-h.ensures in
    (f.1, t.bracket, tried_half (chain a.self.now) o._left (omega (arith, c.loop-left-test.true)) refl c.if-h.false i.2 t, λ j h. f.3 j h ∙ i.3 j h)

pub returns : goal.returns
returns c =
    let i = c.loop-left.invariant in
    let a = c.args in
    (c.loop-left.auto.work, i.0, bracket_decided (chain a.self.now) i.1 (width_none (chain a.self.now) _ _ c.loop-left._left (omega arith) i.2), i.3)
