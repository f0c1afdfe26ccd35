-- `judged` answers the threshold of the response that Judge finds, where it is up to TOP.
use mathlib.Core.Path.{sym, ◌∙◌}
use Rattle.modules.specs.Model.{chain_of}
use Rattle.sketch.proofs.Within.{judged_within}
use Rattle.sketch.proofs.onward.Table.judged.Goals as goal

pub returns-then-own-le-TOP : goal.returns-then-own-le-TOP
returns-then-own-le-TOP c =
    let a = c.args in
    judged_within (chain_of a.self.now.costs.now a.self.now.board) a.self.now.sized.some_tasks _ (sym c.judge_bytes.ensures ∙ c.in-Ok.is) c.threshold_of-own.ensures c.if-own-le-TOP.true
