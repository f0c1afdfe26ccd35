-- What copies leave, as a loop over the copies keeps it: its start, one turn and its end. By the laws of the greatest over a range.
use Prim.Native.Nat.{ℕ, suc, ◌+◌, ◌*◌, ◌-◌, ◌≤◌, ◌<◌}
use native.Mathlib.Omega.{arith}
use mathlib.Core.Path.{◌≡◌, refl, sym, ◌∙◌, ap}
use lib.Dec.{leb, le→leb}
use lib.Arith.{lt→nleb}
use Rattle.search.proofs.Least.{pick_yes, pick_no}
use Rattle.slack.specs.Greatest.{larger, greatest}
use Rattle.slack.specs.Fill.{added, left_by, several}
use Rattle.slack.proofs.Greatest.{larger_zero, larger_assoc, greatest_more, greatest_none}

added_more : (D r : ℕ) → 2 ≤ r → added D r ≡ D
added_more D r h = pick_no (leb r 1) 0 D (lt→nleb r 1 h)

module _ (time : ℕ → ℕ) (D : ℕ) (C : (l q c : ℕ) → ℕ) (l q b : ℕ) where
  left_none : (r : ℕ) → b < r * q → left_by time D C l q b r ≡ 0
  unfolding left_by
  left_none r h = pick_no (leb (r * q) b) _ 0 (lt→nleb (r * q) b h)

  -- what r copies leave that have u cores
  left_some : (r u v : ℕ) → u ≡ r * q → u ≤ b → v ≡ time r + 1 - (C l q (b - u) + added D r) → v ≡ left_by time D C l q b r
  unfolding left_by
  left_some r u v e h d =
      let z : suc (time r) ≡ time r + 1 = omega arith in
      d ∙ sym (rw (← e, z) (pick_yes (leb u b) _ 0 (le→leb u b h)))

  -- what one copy leaves
  pub left_one : (v : ℕ) → q ≤ b → v ≡ time 1 + 1 - C l q (b - q) → v ≡ left_by time D C l q b 1
  left_one v h d = left_some 1 q v (omega arith) h (omega (arith, d, pick_yes (leb 1 1) 0 D tt))

  -- before any turn
  pub best_start : (m : ℕ) → m ≡ left_by time D C l q b 1 → m ≡ larger (left_by time D C l q b 1) (greatest 2 (several time D C l q b))
  unfolding several
  best_start m e =
      let z : greatest 2 (several time D C l q b) ≡ 0 = greatest_none 2 (several time D C l q b) (λ i h. pick_no (leb 2 i) _ 0 (lt→nleb 2 i h)) in
      e ∙ sym (rw z (larger_zero (left_by time D C l q b 1)))

  -- with r copies, which have u cores
  pub best_more : (r u m v n s : ℕ) → 2 ≤ r → u ≡ r * q → u ≤ b → s ≡ C l q (b - u)
      → m ≡ larger (left_by time D C l q b 1) (greatest r (several time D C l q b)) → v ≡ time r + 1 - (s + D) → n ≡ larger m v
      → n ≡ larger (left_by time D C l q b 1) (greatest (r + 1) (several time D C l q b))
  unfolding several
  best_more r u m v n s p eu h es em ev en =
      let a = left_by time D C l q b 1 in
      let f = several time D C l q b in
      let w : v ≡ left_by time D C l q b r = left_some r u v eu h (ev ∙ rw (es, added_more D r p)) in
      let x : f r ≡ v = pick_yes (leb 2 r) (left_by time D C l q b r) 0 (le→leb 2 r p) ∙ sym w in
      let y : larger (greatest r f) v ≡ greatest (r + 1) f = greatest_more r f (greatest r f) (larger (greatest r f) v) refl (rw x) in
      en ∙ ap (λ z. larger z v) em ∙ larger_assoc a (greatest r f) v ∙ ap (λ z. larger a z) y
