-- `fault` is `fault_at`: the two tests decide which branch of it is due.
use Rattle.records.specs.Costs.{fault_at}
use Rattle.records.proofs.keys.fault.Goals as goal

pub returns-then-not-key_meets : goal.returns-then-not-key_meets
unfolding fault_at
returns-then-not-key_meets c = simp (← c.key_meets.ensures, c.if-not-key_meets.true)

pub returns-then-value_meets : goal.returns-then-value_meets
unfolding fault_at
returns-then-value_meets c = simp (← c.key_meets.ensures, c.if-not-key_meets.false, ← c.value_meets.ensures, c.if-value_meets.true)

pub returns-else-value_meets : goal.returns-else-value_meets
unfolding fault_at
returns-else-value_meets c = simp (← c.key_meets.ensures, c.if-not-key_meets.false, ← c.value_meets.ensures, c.if-value_meets.false)
