-- `rules_met` is `module_rules`, test by test.
use Rattle.std.proofs.Common.{rules}
use Rattle.modules.specs.Rules.{module_rules}
use Rattle.modules.proofs.rules.rules_met.Goals as goal

pub returns-then-memory_fits : goal.returns-then-memory_fits
unfolding module_rules
returns-then-memory_fits c = search rules

pub returns-else-memory_fits : goal.returns-else-memory_fits
unfolding module_rules
returns-else-memory_fits c = search rules
