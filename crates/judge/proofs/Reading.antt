-- Judge reads the first 48 plan bytes and no more: each of its walks, over those bytes alone, finds the same. By induction along the
-- records. Assumes nothing.
use mathlib.Core.Path.{◌≡◌, refl, ap}
use mathlib.Core.Bool.{true}
use mathlib.Core.List.{List}
use mathlib.Core.Logic.{⊎_elim}
use Prim.Native.Nat.{ℕ, zero, suc, ◌+◌, ◌≤◌}
use native.Mathlib.Omega.{arith}
use lib.ListN.{length, take}
use lib.Dec.{leb}
use lib.Seq.{take_all, length-take-le}
use borrow.Author.Tests.{le-leb}
use Rattle.records.specs.Costs.{read_costs}
use Rattle.records.proofs.Cases.{lt_or_le}
use Rattle.records.proofs.Refusing.{then_same}
use Rattle.modules.specs.declared.Module.{Module}
use Rattle.modules.specs.Model.{Chain, chain_of}
use Rattle.layout.specs.Layout.{most_modules, plan_bytes, module_at}
use Rattle.layout.proofs.First.{module_first, plan_first}
use Rattle.judge.specs.Judge.{blank_fault, shape_fault, judged_bytes, judged}

module _ (w : List ℕ) where
  blank_first : (n i : ℕ) → i + n ≤ most_modules → blank_fault (take plan_bytes w) i n ≡ blank_fault w i n
  unfolding blank_fault
  blank_first zero i h = refl
  blank_first (suc n) i h = rw (module_first w i (omega arith), blank_first n (i + 1) (omega arith))

  shape_first : (k n due i : ℕ) → i + n ≤ most_modules → shape_fault k (take plan_bytes w) due i n ≡ shape_fault k w due i n
  unfolding shape_fault
  shape_first k zero due i h = refl
  shape_first k (suc n) due i h =
      let m = module_first w i (omega arith) in
      rw (m, ap (λ (x : Module). x.last) m, blank_first n (i + 1) (omega arith), shape_first k n ((module_at w i).last + 1) (i + 1) (omega arith))

  -- fewer than 48 bytes are all there are
  bytes_first : (c : Chain) → judged_bytes c (take plan_bytes w) ≡ judged_bytes c w
  unfolding judged_bytes
  bytes_first c = ⊎_elim
      (λ l. rw (take_all plan_bytes w (omega arith)))
      (λ l.
      let t = length-take-le plan_bytes w l in
      let u : leb plan_bytes (length (take plan_bytes w)) ≡ true = le-leb plan_bytes (length (take plan_bytes w)) (omega arith) in
      rw (u, le-leb plan_bytes (length w) l, shape_first c.tasks most_modules 1 0 (omega arith), plan_first w c.tasks))
      (lt_or_le (length w) plan_bytes)

pub judge_first : (s w : List ℕ) → judged s (take plan_bytes w) ≡ judged s w
unfolding judged
judge_first s w = then_same (λ b. bytes_first w (chain_of s b)) (read_costs s)
