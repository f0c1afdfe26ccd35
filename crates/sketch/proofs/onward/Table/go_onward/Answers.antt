-- `go_onward` stays in the chain: a module that keeps the rules with one copy ends within its reach.
use Prim.Native.Nat.{◌+◌}
use mathlib.Core.Path.{sym, ◌∙◌}
use native.Mathlib.Omega.{arith}
use Rattle.modules.specs.Model.{chain_of}
use Rattle.modules.proofs.Laws.{rules_reach}
use Rattle.sketch.proofs.onward.Table.go_onward.Goals as goal

pub taken_by-taken-requires : goal.taken_by-taken-requires
taken_by-taken-requires c =
    let a = c.args in
    let keeps = sym c.rules_met.ensures ∙ c.if-not-rules_met.false in
    record {
      later = omega arith;
      within = rules_reach (chain_of a.self.now.costs.now a.self.now.board) (a.t + 1) c.loop-l.l (omega arith) (omega arith) (omega arith) 1 a.q (omega arith) (omega arith) keeps;
    }
