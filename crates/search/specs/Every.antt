-- The best plan by trying every plan (document 01, "Three services": Best plan): the definition that the product's promise cites.
-- Assumes nothing.
use Rattle.std.specs.Prelude.{ℕ, zero, suc, ◌+◌, ◌*◌, ◌-◌, ◌/◌, Bool, ◌&&◌, cond, List, [], ◌∷◌, ◌++◌, map, leb, eqb}
use Rattle.std.proofs.Math.Option.{Option, none, some}
use Rattle.modules.specs.declared.Module.{Module}
use Rattle.figures.specs.Model.{cores_of}
use Rattle.search.specs.Plan.{Problem, module_after, valid}
use Rattle.search.specs.Bottleneck.{rules}

-- the lists f a, f (a + 1), .. f (a + n - 1), one after the other
unfoldable pub in_turn : ℕ → ℕ → (ℕ → List (List Module)) → List (List Module)
in_turn zero a f = []
in_turn (suc n) a f = f a ++ in_turn n (a + 1) f

-- all plans of at most w cores in module order, for the tasks t + 1 to k and of at most m modules: the first module ends at each
-- task l, in r copies of p cores for each r and p that w allows, and every plan of what is left follows it
unfoldable pub every : (k m t w : ℕ) → List (List Module)
every k zero t w = cond (eqb t k) ([] ∷ []) []
every k (suc m) t w =
    let starting : (l r p : ℕ) → List (List Module) = λ l r p. map (◌∷◌ (module_after t l r p)) (every k m l (w - r * p)) in
    let longer = in_turn (k - t) (t + 1) (λ l. in_turn w 1 (λ r. in_turn (w / r) 1 (starting l r))) in
    cond (eqb t k) ([] ∷ []) longer

module _ (ok : List Module → Bool) (better : List Module → List Module → Bool) where
  -- the plan y takes the place of the best so far: it passes, and is better
  abbrev pub replaces : List Module → Option (List Module) → Bool
  replaces y none = ok y
  replaces y (some x) = ok y && better y x

  -- the best so far after some more plans: the first of the best that pass
  unfoldable pub scan : Option (List Module) → List (List Module) → Option (List Module)
  scan best [] = best
  scan best (y ∷ ys) = scan (cond (replaces y best) (some y) best) ys

module _ (X : Problem) where
  -- the plan keeps the rules, and the cores of the board
  abbrev pub keeps : List Module → Bool
  keeps ms = valid X.tasks (rules X) 0 0 ms && leb (cores_of ms) X.board

  -- of all plans of at most the board's cores in module order, the first of the best that keep the rules
  unfoldable pub search_by : (List Module → List Module → Bool) → Option (List Module)
  search_by better = scan keeps better none (every X.tasks X.tasks 0 X.board)
