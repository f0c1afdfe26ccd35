-- `laws_fault` is the `laws_fault` of specs.
use Rattle.fitted.specs.Fill.{laws_fault}
use Rattle.fitted.proofs.fill.laws_fault.Goals as goal

pub returns-then-not-laws_meet : goal.returns-then-not-laws_meet
unfolding laws_fault
returns-then-not-laws_meet c = simp (← c.laws_meet.ensures, c.if-not-laws_meet.true)

pub returns-then-not-values_meet : goal.returns-then-not-values_meet
unfolding laws_fault
returns-then-not-values_meet c = simp (← c.laws_meet.ensures, c.if-not-laws_meet.false, ← c.values_meet.ensures, c.if-not-values_meet.true)

pub returns : goal.returns
unfolding laws_fault
returns c = simp (← c.laws_meet.ensures, c.if-not-laws_meet.false, ← c.values_meet.ensures, c.if-not-values_meet.false)
