-- `longest` ends at the longest module: it keeps the rules up to `end`, and either there is no next task or it breaks one with it.
use mathlib.Core.Path.{◌≡◌, sym, ◌∙◌}
use Prim.Native.Nat.{◌+◌}
use native.Mathlib.Omega.{arith}
use Rattle.threshold.specs.Docks.{chain}
use Rattle.modules.proofs.Laws.{shares_none, rules_none, rules_shares}
use Rattle.threshold.proofs.Laying.{shares_next, kept_longer, longest_stops}
use Rattle.threshold.proofs.dock.Dock.longest.Goals as goal
use Rattle.threshold.proofs.dock.Dock.longest.Goals.{After-still_kept}
use native.Mathlib.Nat.{le_refl}

pub loop-end-init : goal.loop-end-init
loop-end-init c =
    let a = c.args in
    let k = chain a.self.now in
    (rules_none k (a.t + 1) a.t a.q (omega arith) (omega arith), sym (shares_none k (a.t + 1) a.t a.q (omega arith)))

pub overflow_add-sum : goal.overflow_add-sum
overflow_add-sum c =
    let o = c.loop-end in
    let a = c.args in
    let within = rules_shares (chain a.self.now) (a.t + 1) o.end 1 a.q o.invariant.0 in
    omega arith

pub returns-then-not-still_kept : goal.returns-then-not-still_kept
returns-then-not-still_kept c =
    let o = c.loop-end in
    let a = c.args in
    let k = chain a.self.now in
    let asked = kept_longer k a.t a.q o.end o.sum _ (omega arith) o.invariant.1 c.share-added.ensures.0 o.invariant.0 c.still_kept.ensures in
    longest_stops k a.t a.q o.end (omega arith) (omega arith) o.invariant.0 (λ h. sym asked ∙ c.if-not-still_kept.true)

pub loop-end-preserved : goal.loop-end-preserved
loop-end-preserved c =
    let o = c.loop-end in
    let a = c.args in
    let k = chain a.self.now in
    let asked = kept_longer k a.t a.q o.end o.sum _ (omega arith) o.invariant.1 c.share-added.ensures.0 o.invariant.0 c.still_kept.ensures in
    (sym asked ∙ c.if-not-still_kept.false, shares_next k a.t a.q o.end o.sum _ (omega arith) o.invariant.1 c.share-added.ensures.0)

pub returns : goal.returns
returns c =
    let o = c.loop-end in
    let a = c.args in
    let e : o.end ≡ a.self.now.board.tasks = omega arith in
    longest_stops (chain a.self.now) a.t a.q a.self.now.board.tasks (omega arith) (le_refl _) (rw e at o.invariant.0) (λ h. absurd (omega arith))
