-- `alone` weighs a module that keeps the rules with one copy, so it ends within its reach (M-102).
use mathlib.Core.Path.{◌∙◌, sym}
use native.Mathlib.Omega.{arith}
use Rattle.modules.specs.Model.{chain_of}
use Rattle.modules.proofs.Laws.{rules_reach}
use Rattle.guess.proofs.bounds.Run.alone.Goals as goal

pub response_alone-requires : goal.response_alone-requires
response_alone-requires c =
    let a = c.args in
    let keeps = sym c.rules_met.ensures ∙ c.if-not-rules_met.false in
    rules_reach (chain_of a.self.now.dock.costs.now a.self.now.dock.board) a.self.now.first a.self.now.last (omega arith) (omega arith) (omega arith) 1 a.q (omega arith) (omega arith) keeps
