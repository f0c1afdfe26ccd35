-- Where nothing is sent to rests of fewer than some cores, copies that leave no more cores to the rest leave nothing: the loops over the copies
-- and over the cores may stop and start there. By the laws of the greatest over a range. And what copies leave beside a row of cheapest
-- transfers is what they leave beside the cheapest transfers.
use Prim.Native.Nat.{ℕ, suc, ◌+◌, ◌-◌, ◌*◌, ◌≤◌, ◌<◌}
use native.Mathlib.Nat.{le_refl, mul-le-mul}
use native.Mathlib.Omega.{arith}
use mathlib.Core.Path.{◌≡◌, ◌∙◌}
use mathlib.Core.Logic.{⊎_elim}
use mathlib.Core.List.{List}
use lib.Dec.{leb, le→leb, leb→le}
use lib.Arith.{lt→nleb}
use Rattle.records.proofs.Cases.{lt_or_le}
use Rattle.search.proofs.Tests.{passed, failed, test}
use Rattle.search.proofs.Least.{pick_yes, pick_no}
use Rattle.modules.specs.Model.{Chain, handed}
use Rattle.slack.specs.Greatest.{larger, greatest}
use Rattle.slack.specs.Fill.{left_by, several, more_by, best_by}
use Rattle.slack.specs.Problem.{none, top_threshold, cheapest_on, one_on, any_on}
use Rattle.slack.proofs.Greatest.{larger_zero, greatest_none, greatest_trim}
use Rattle.slack.proofs.Fill.{left_ext, best_ext}
use Rattle.offers.specs.Words.{time_at, row_of, Cheapest, NoneBelow, NoneLeft, Offered}
use Rattle.offers.specs.Leaving.{Left}

-- ---- copies that leave fewer than `low` cores

module _ (n D : ℕ) (C : (l q c : ℕ) → ℕ) (l q b low : ℕ) (high : n ≤ top_threshold) (some : 1 ≤ q) (few : b ≤ 32) (bare : (c : ℕ) → c < low → C l q c ≡ none) where
  -- no module of at most 32 copies is within the time that stands for none
  left_bare : (r : ℕ) → b < r * q + low → left_by (time_at n) D C l q b r ≡ 0
  unfolding left_by
  left_bare r h = ⊎_elim
      (λ (d : b < r * q). pick_no (leb (r * q) b) _ 0 (lt→nleb (r * q) b d))
      (λ (d : r * q ≤ b).
      let copies : r ≤ 32 = omega (arith, mul-le-mul (le_refl r) some) in
      let time = mul-le-mul {n₁ = n} {m₁ = r} {n₂ = top_threshold} {m₂ = 32} high copies in
      pick_yes (leb (r * q) b) _ 0 (le→leb (r * q) b d) ∙ omega (arith, time, bare (b - r * q) (omega arith)))
      (lt_or_le b (r * q))

  several_bare : (r : ℕ) → (2 ≤ r → b < r * q + low) → several (time_at n) D C l q b r ≡ 0
  unfolding several
  several_bare r h = elim (test (leb 2 r)) [
    | passed t ↦ pick_yes (leb 2 r) (left_by (time_at n) D C l q b r) 0 t ∙ left_bare r (h (leb→le 2 r t))
    | failed t ↦ pick_no (leb 2 r) (left_by (time_at n) D C l q b r) 0 t
  ]

  -- with fewer cores than one copy and such a rest take, one copy leaves nothing, and so do any
  pub one_bare : b < q + low → left_by (time_at n) D C l q b 1 ≡ 0
  one_bare h = left_bare 1 (omega arith)

  pub any_bare : b < q + low → best_by (time_at n) D C l q b ≡ 0
  unfolding best_by more_by
  any_bare h = rw (
    one_bare h,
    greatest_none (suc b) (several (time_at n) D C l q b) (λ r u. several_bare r (λ g. omega (arith, mul-le-mul g (le_refl q)))),
  ) (larger_zero 0)

  -- a loop over the copies may stop where those that have u cores leave fewer than `low`
  pub best_stop : (r u m : ℕ) → u ≡ r * q → b < u + low
      → m ≡ larger (left_by (time_at n) D C l q b 1) (greatest r (several (time_at n) D C l q b)) → m ≡ best_by (time_at n) D C l q b
  unfolding best_by more_by
  best_stop r u m e h is =
      let f = several (time_at n) D C l q b in
      let z : greatest r f ≡ greatest (suc b) f = greatest_trim r (suc b) f
      (λ i g. several_bare i (λ t. omega (arith, mul-le-mul g (le_refl q))))
      (λ i g. several_bare i (λ t. omega (arith, mul-le-mul (le_refl i) some))) in
      is ∙ rw z

-- what is offered there is nothing
pub offered_none : (n extra : ℕ) (row left : List ℕ) (q low cores : ℕ) → n ≤ top_threshold → 1 ≤ q → cores ≤ 32 → q + low ≤ cores + 1 → NoneBelow row low
    → Offered n extra row q cores left → NoneLeft left q (q + low)
offered_none n extra row left q low cores high some few inside bare offered b u v = (
  offered.one b u (omega arith) ∙ one_bare n extra (row_of row) 0 q b low high some (omega arith) bare v,
  offered.any b u (omega arith) ∙ any_bare n extra (row_of row) 0 q b low high some (omega arith) bare v,
)

-- ---- what copies leave beside a row of cheapest transfers is what they leave beside the cheapest transfers

module _ (c : Chain) (n l q : ℕ) (row : List ℕ) (right : Cheapest c n row l q) (b : ℕ) (inside : b ≤ c.board) (some : q ≤ b) where
  same : (e : ℕ) → e ≤ b - q → row_of row l q e ≡ cheapest_on c n l q e
  same e h = right e (omega arith)

  left_right : left_by (time_at n) (handed c 2) (row_of row) 0 q b 1 ≡ one_on c n l q b
  unfolding left_by
  left_right = left_ext (time_at n) (handed c 2) (row_of row) (cheapest_on c n) l q b same 1 (le_refl 1)

  best_right : best_by (time_at n) (handed c 2) (row_of row) 0 q b ≡ any_on c n l q b
  unfolding best_by more_by several left_by
  best_right = best_ext (time_at n) (handed c 2) (row_of row) (cheapest_on c n) l q b same

pub left_offered : (c : Chain) (n extra l q low : ℕ) (row left : List ℕ) → n ≤ top_threshold → 1 ≤ q → c.board ≤ 32 → q + low ≤ c.board + 1 → extra ≡ handed c 2
    → Cheapest c n row l q → NoneBelow row low → Offered n extra row q c.board left → Left c n l q left (q + low)
left_offered c n extra l q low row left high some few inside e right bare offered = record {
  late = omega arith;
  one = λ b u v. offered.one b u v ∙ rw e (left_right c n l q row right b v u);
  any = λ b u v. offered.any b u v ∙ rw e (best_right c n l q row right b v u);
  bare = offered_none n extra row left q low c.board high some few inside bare offered;
}
