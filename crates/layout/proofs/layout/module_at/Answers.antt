-- `module_at` is `record_of`: the test of the index decides which branch is due.
use borrow.Author.Tests.{lt-ltb, le-ltb}
use Rattle.layout.specs.Layout.{record_of}
use Rattle.layout.proofs.layout.module_at.Goals as goal

pub returns-then-i-lt-MOST_MODULES : goal.returns-then-i-lt-MOST_MODULES
unfolding record_of
returns-then-i-lt-MOST_MODULES c = simp (lt-ltb _ _ c.if-i-lt-MOST_MODULES.true) c.record_at.ensures

pub returns-else-i-lt-MOST_MODULES : goal.returns-else-i-lt-MOST_MODULES
unfolding record_of
returns-else-i-lt-MOST_MODULES c =
    let (a, (b, (d, e))) = c.default.ensures in
    simp (le-ltb _ _ c.if-i-lt-MOST_MODULES.false) (λ j. record { first = a j; last = b j; copies = d j; cores = e j })
