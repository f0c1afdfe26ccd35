-- `added_up` is the sum: what is added up and what is left of it are the whole, and each turn adds a 32-bit value.
use Rattle.std.proofs.Common.{◌≡◌, ℕ, ◌<◌, ◌+◌, ◌-◌, ◌*◌, ◌≤◌}
use Rattle.modules.specs.Model.{gather, nothing}
use Rattle.modules.proofs.cost.added_up.Given as goal

abbrev pub invariant-loop-t : goal.invariant-loop-t
invariant-loop-t g l =
    (l.sum ≤ (l.t - l.first) * 4294967295)
    × ((f : ℕ → ℕ) → ((t x : ℕ) → t < 256 → goal.F-post g l.value t x → x ≡ f t) → gather f nothing l.first l.last ≡ l.sum + gather f nothing l.t l.last)
