-- Step 4: of the assignments in a row, the best so far is the earliest of least bottleneck. By induction along the row: what is
-- passed has an earliest, and one more is either the new one or comes too late. Assumes nothing.
use mathlib.Core.Path.{◌≡◌, refl, ap, ◌∙◌}
use mathlib.Core.Bool.{true, false}
use mathlib.Core.List.Memᴰ
use mathlib.Core.List.{List, [], ◌∷◌, ◌++◌, append-nil, append_assoc, Memᴰ}
use mathlib.Core.Logic.{⊎_elim}
use Prim.Native.Nat.{◌≤◌, ◌<◌}
use native.Mathlib.Nat.{le_refl}
use native.Mathlib.Omega.{arith}
use lib.Dec.{ltb}
use lib.Seq.{append_snoc}
use borrow.Author.Tests.{ltb-true, ltb-false}
use Rattle.records.proofs.Cases.{true_or_false}
use Rattle.modules.specs.declared.Module.{Module}
use Rattle.modules.specs.Model.{Chain}
use Rattle.greedy.specs.Greedy.{time, better, IsEarliest}

module _ (c : Chain) where
  -- the best of `best` and the row after it, the earlier of equals
  unfoldable pub best_of : List Module → List (List Module) → List Module
  best_of best [] = best
  best_of best (x ∷ xs) = best_of (better c x best) xs

  alone : (x : List Module) → IsEarliest c (x ∷ []) x
  alone x = record {
    before = [];
    after = [];
    split = refl;
    least = λ a m. rw (Memᴰ.eq_of_singleton m) (le_refl (time c x));
    first = λ a m. absurd (Memᴰ.not-nil m);
  }

  module _ (passed : List (List Module)) (best x : List Module) (h : IsEarliest c passed best) where
    one_better : time c x < time c best → IsEarliest c (passed ++ (x ∷ [])) x
    one_better l = record {
      before = passed;
      after = [];
      split = refl;
      least = λ a m. ⊎_elim (λ n. omega (arith, h.least a n)) (λ (n : Memᴰ a (x ∷ [])). rw (Memᴰ.eq_of_singleton n) (le_refl (time c x))) (Memᴰ.append_cases passed m);
      first = λ a m. omega (arith, h.least a m);
    }

    one_worse : time c best ≤ time c x → IsEarliest c (passed ++ (x ∷ [])) best
    one_worse l = record {
      before = h.before;
      after = h.after ++ (x ∷ []);
      split = ap (λ (v : List (List Module)). v ++ (x ∷ [])) h.split ∙ append_assoc h.before (best ∷ h.after) (x ∷ []);
      least = λ a m. ⊎_elim (h.least a) (λ (n : Memᴰ a (x ∷ [])). rw (Memᴰ.eq_of_singleton n) l) (Memᴰ.append_cases passed m);
      first = h.first;
    }

    one_more : IsEarliest c (passed ++ (x ∷ [])) (better c x best)
    one_more = ⊎_elim
        (λ (t : ltb (time c x) (time c best) ≡ true). rw t (one_better (ltb-true _ _ t)))
        (λ (t : ltb (time c x) (time c best) ≡ false). rw t (one_worse (ltb-false _ _ t)))
        (true_or_false (ltb (time c x) (time c best)))

  best_passed : (xs passed : List (List Module)) (best : List Module) → IsEarliest c passed best → IsEarliest c (passed ++ xs) (best_of best xs)
  unfolding best_of
  best_passed [] passed best h = rw (append-nil passed) h
  best_passed (x ∷ xs) passed best h =
      rw (append_snoc passed x xs) at (best_passed xs (passed ++ (x ∷ [])) (better c x best) (one_more passed best x h))

  pub best_earliest : (best : List Module) (xs : List (List Module)) → IsEarliest c (best ∷ xs) (best_of best xs)
  best_earliest best xs = best_passed xs (best ∷ []) best (alone best)

  -- and it is one of them
  pub earliest_visited : (all : List (List Module)) (x : List Module) → IsEarliest c all x → Memᴰ x all
  earliest_visited all x h = rw h.split (Memᴰ.append_right h.before (Memᴰ.head refl))
