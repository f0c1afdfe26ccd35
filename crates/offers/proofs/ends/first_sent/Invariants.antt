-- `first_sent` passes over the entries that are no transfer.
use Rattle.offers.specs.Words.{NoneBelow}
use Rattle.offers.proofs.ends.first_sent.Given as goal

abbrev pub invariant-loop-low : goal.invariant-loop-low
invariant-loop-low l = NoneBelow l.row l.from → NoneBelow l.row l.low
