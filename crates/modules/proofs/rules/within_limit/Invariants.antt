-- `within_limit` is the `within_limit` of specs: while each task allows the cores, what is left decides as the whole does.
use mathlib.Core.Path.{◌≡◌}
use Rattle.modules.specs.Model.{chain_of}
use Rattle.modules.specs.Rules.{within_limit}
use Rattle.modules.proofs.rules.within_limit.Given as goal

abbrev pub invariant-loop-t : goal.invariant-loop-t
invariant-loop-t l = within_limit (chain_of l.costs l.board) l.first l.last l.p ≡ within_limit (chain_of l.costs l.board) l.t l.last l.p
