-- The whole walk: its result is the best of the assignments in their order, so the earliest of least bottleneck. By induction
-- on the cores left. Assumes nothing.
use mathlib.Core.Path.{◌≡◌, refl, ap}
use mathlib.Core.List.{List, [], ◌∷◌}
use mathlib.Core.Option.{none, some}
use Prim.Native.Nat.{ℕ, zero, suc}
use Rattle.modules.specs.declared.Module.{Module}
use Rattle.modules.specs.Model.{Chain}
use Rattle.greedy.specs.Greedy.{next, better, greedy_from, visited, IsEarliest}
use Rattle.greedy.proofs.Earliest.{best_of, best_earliest}

module _ (c : Chain) where
  -- the assignments after the first
  unfoldable pub later : ℕ → List Module → List (List Module)
  later zero ms = []
  later (suc n) ms = elim (next c ms) [ none ↦ [] | some x ↦ x ∷ later n x ]

  pub visited_is : (n : ℕ) (ms : List Module) → visited c n ms ≡ ms ∷ later n ms
  unfolding visited later
  visited_is zero ms = refl
  visited_is (suc n) ms =
      elim (next c ms) as (λ o. ms ∷ (elim o [ none ↦ [] | some x ↦ visited c n x ]) ≡ ms ∷ (elim o [ none ↦ [] | some x ↦ x ∷ later n x ])) [
        | none ↦ refl
        | some x ↦ ap (λ (v : List (List Module)). ms ∷ v) (visited_is n x)
      ]

  -- where nobody may take a core the walk ends, however many are left
  pub visited_ends : (n : ℕ) (ms : List Module) → next c ms ≡ none → visited c n ms ≡ ms ∷ []
  unfolding visited
  visited_ends zero ms e = refl
  visited_ends (suc n) ms e = rw (e, visited)

  greedy_is : (n : ℕ) (ms best : List Module) → greedy_from c n ms best ≡ best_of c best (later n ms)
  unfolding greedy_from later best_of
  greedy_is zero ms best = refl
  greedy_is (suc n) ms best =
      elim (next c ms) as (λ o. (elim o [ none ↦ best | some x ↦ greedy_from c n x (better c x best) ]) ≡ best_of c best (elim o [ none ↦ [] | some x ↦ x ∷ later n x ])) [
        | none ↦ refl
        | some x ↦ greedy_is n x (better c x best)
      ]

  pub walk_earliest : (n : ℕ) (ms : List Module) → IsEarliest c (visited c n ms) (greedy_from c n ms ms)
  walk_earliest n ms = rw (visited_is n ms, greedy_is n ms ms) (best_earliest c ms (later n ms))
