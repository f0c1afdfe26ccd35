-- `push` goes from the shortest module on: what is pushed so far is right for every chain whose words these are, and the first module that
-- breaks a rule, or takes all that is left, ends it, since all longer ones do.
use Prim.Native.Nat.{◌+◌, ◌-◌, ◌*◌, ◌≤◌}
use mathlib.Core.Path.{◌≡◌}
use lib.ListN.{get_or}
use Rattle.modules.specs.Model.{Chain, body}
use Rattle.threshold.specs.Words.{Laid, Fixed, Pushed}
use Rattle.threshold.proofs.Pushing.{Spent}
use Rattle.threshold.proofs.fill.push.Given as goal

abbrev pub invariant-loop-t : goal.invariant-loop-t
invariant-loop-t l =
    (l.own ≤ (l.l - l.t) * 8589934592) × (l.q ≤ l.first) × (l.first ≤ l.cores) × Spent l.left l.q l.first l.own l.fixed l.t
    × ((c : Chain) → c.board ≡ l.cores → l.l ≤ c.tasks → 1 ≤ l.q → Laid c l.initial.work → Fixed c l.l l.fixed
    → (l.own ≡ body c (l.t + 1) l.l l.q) × Pushed c l.initial.work l.work (λ b. get_or l.left b 0) (λ b. get_or l.left (33 + b) 0) l.t l.l l.q)
