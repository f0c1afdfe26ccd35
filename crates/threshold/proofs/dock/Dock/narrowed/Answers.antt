-- `narrowed` goes by the first row of the table of n, which says whether some plan is within n: the bracket moves up past n, or down to n or the
-- judged plan's own threshold.
use Rattle.threshold.specs.Docks.{chain}
use Rattle.threshold.proofs.Hunting.{slacked_within, within_slacked, own_within, tried_missed, tried_found}
use Rattle.threshold.proofs.dock.Dock.narrowed.Goals as goal

pub returns-then-not-has_slack : goal.returns-then-not-has_slack
returns-then-not-has_slack c =
    let a = c.args in
    let g = chain a.self.now in
    let nothing = c.has_slack.ensures.1 (c.if-not-has_slack.true) in
    tried_missed g a.n c.requires.4 c.requires.2 (λ x. nothing (within_slacked g c.requires.0.sized.some_tasks a.n a.work.now c.requires.1 x)) c.missed.ensures

pub returns : goal.returns
returns c =
    let a = c.args in
    let g = chain a.self.now in
    let slacked = c.has_slack.ensures.0 (c.if-not-has_slack.false) in
    let within = slacked_within g c.requires.0.sized.some_tasks a.n a.work.now c.requires.1 slacked in
    tried_found g a.n c.requires.4 c.requires.2 _ within (rw c.unwrap_or.ensures (own_within g a.n _ within c.some_plan-some.ensures.some_plan)) c.found.ensures
