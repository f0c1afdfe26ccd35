-- `first_copies` finds the first copies with their first cores: none that are passed may come, and 0 copies never do.
use mathlib.Core.Path.{refl}
use native.Mathlib.Omega.{arith}
use Rattle.walk.specs.Tables.{chain_in}
use Rattle.walk.proofs.Coming.{comes_not}
use Rattle.walk.proofs.turn.Turn.first_copies.Goals as goal

pub loop-r-init : goal.loop-r-init
loop-r-init c =
    let a = c.args in
    let x = a.self.now in
    λ i h p _. comes_not (chain_in x.tables) x.tables.n x.passed a.l i p (λ q f. omega (arith, f.fits.one_copy))

pub returns-in-Some : goal.returns-in-Some
returns-in-Some c =
    let f = c.in-Some.ensures in
    record { first = refl; last = refl; high = (c.loop-r-test.true, f.high); comes = f.comes; none_below = c.loop-r.invariant; cores_first = f.none_below }
