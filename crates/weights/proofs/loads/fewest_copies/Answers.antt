-- `fewest_copies` is `fewest`: one copy is enough, or a division says how many are, or none are.
use mathlib.Core.Path.{sym}
use mathlib.Core.Logic.{⊎_elim}
use Prim.Native.Nat.{◌≤◌}
use native.Mathlib.Omega.{arith}
use Rattle.rounding.specs.Rounding.{rounded_up}
use Rattle.rounding.proofs.Laws.{rounded_least}
use Rattle.records.proofs.Cases.{lt_or_le}
use Rattle.search.proofs.Copies.{fewest_one, fewest_more, fewest_none}
use Rattle.weights.proofs.loads.fewest_copies.Goals as goal
use Rattle.weights.proofs.loads.fewest_copies.Goals.{else-rep-via-then-rep+else-n-ge1, else-rep-via-else-rep}

pub returns-then-one-n : goal.returns-then-one-n
returns-then-one-n c = (omega arith, sym (fewest_one _ _ _ _ c.if-one-n.true))

pub returns-then-n-ge1 : goal.returns-then-n-ge1
unfolding rounded_up
returns-then-n-ge1 c =
    let a = c.args in (
      ⊎_elim (λ h. h) (λ (h : rounded_up a.more a.n ≤ 0). absurd (omega (arith, (rounded_least a.more a.n 0 (omega arith)).0 h, c.requires.0))) (lt_or_le 0 (rounded_up a.more a.n)),
      sym (fewest_more _ _ _ _ (omega arith) (rw c.if-rep.true tt) (omega arith)),
    )

pub returns : goal.returns
returns c = fewest_none _ _ _ _ (omega arith) (λ t e. elim c.else-rep.branch [
  | else-rep-via-then-rep+else-n-ge1 w ↦ omega arith
  | else-rep-via-else-rep w ↦ rw w.if-rep.false at t
])
