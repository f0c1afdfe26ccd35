-- `need_at` is `need_of`: the test decides which branch of it is due.
use Rattle.lookups.specs.Lookups.{need_of}
use Rattle.lookups.proofs.lookup.need_at.Goals as goal

pub returns-then-is_within : goal.returns-then-is_within
unfolding need_of
returns-then-is_within c = simp (← c.is_within.ensures, c.if-is_within.true) (rw (← c.wide.ensures.0) c.value_at.ensures)

pub returns-else-is_within : goal.returns-else-is_within
unfolding need_of
returns-else-is_within c = simp (← c.is_within.ensures, c.if-is_within.false)
