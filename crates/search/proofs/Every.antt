-- Trying every plan: the list is sorted in module order and has each plan that keeps the rules; so the search finds a plan that is
-- no worse than any and better than those before it. By induction on the modules, and on the list that is searched.
use Prim.Native.Nat.{ℕ, zero, suc, ◌+◌, ◌*◌, ◌-◌, ◌/◌, ◌≤◌, ◌<◌}
use native.Mathlib.Omega.{arith}
use native.Mathlib.Nat.{le_refl, eq-or-lt_of_le, le-div_iff_mul-le}
use mathlib.Core.Path.{◌≡◌, refl, sym, subst}
use mathlib.Core.Bool.{Bool, not}
use mathlib.Core.Logic.{inl, inr}
use mathlib.Core.List.Memᴰ
use mathlib.Core.List.{List, [], ◌∷◌, ◌++◌, map, Memᴰ}
use mathlib.Core.Option.{Option, none, some}
use lib.Dec.{T, eqb, eqb→eq, T_not}
use Rattle.modules.specs.declared.Module.{Module}
use Rattle.figures.specs.Model.{cores_of}
use Rattle.figures.specs.Plan.{ModuleBefore, Before}
use Rattle.search.specs.Plan.{Rule, module_after, valid}
use Rattle.search.specs.Every.{in_turn, every, replaces, scan}
use Rattle.search.proofs.Tests.{and_l, and_r, and_i, cond_case}
use Rattle.search.proofs.Plan.{valid_tail, valid_module, Fair, fair_at, copies_le}

-- ---- sorted lists of plans

-- each plan is before the later ones
abbrev pub Sorted : List (List Module) → Type 0
Sorted [] = Unit {0}
Sorted (x ∷ xs) = ((y : List Module) → Memᴰ y xs → Before x y) × Sorted xs

sorted_append : (a b : List (List Module)) → Sorted a → Sorted b → ((x y : List Module) → Memᴰ x a → Memᴰ y b → Before x y)
    → Sorted (a ++ b)
sorted_append [] b p q h = q
sorted_append (x ∷ xs) b p q h = (
  λ y m. elim (Memᴰ.append_cases xs m) [ inl n ↦ p.0 y n | inr n ↦ h x y (Memᴰ.head refl) n ],
  sorted_append xs b p.1 q (λ z y m n. h z y (Memᴰ.tail m) n),
)

sorted_map : (x : Module) (a : List (List Module)) → Sorted a → Sorted (map (◌∷◌ x) a)
unfolding Before
sorted_map x [] s = tt
sorted_map x (y ∷ ys) s = (
  λ z m. let (w, n, e) = Memᴰ.of_map (◌∷◌ x) ys m in rw (← e) (inr (refl, s.0 w n)),
  sorted_map x ys s.1,
)

-- ---- lists in turn

in_turn_in : (n a : ℕ) (f : ℕ → List (List Module)) (i : ℕ) (x : List Module) → a ≤ i → i < a + n → Memᴰ x (f i)
    → Memᴰ x (in_turn n a f)
unfolding in_turn
in_turn_in zero a f i x h g m = absurd (omega arith)
in_turn_in (suc n) a f i x h g m = elim (eq-or-lt_of_le h) [
  | inl e ↦ Memᴰ.append_left {s = f a} (in_turn n (a + 1) f) (rw e m)
  | inr l ↦ Memᴰ.append_right (f a) (in_turn_in n (a + 1) f i x (omega arith) (omega arith) m)
]

in_turn_out : (n a : ℕ) (f : ℕ → List (List Module)) (x : List Module) → Memᴰ x (in_turn n a f)
    → (i : ℕ) × (a ≤ i) × (i < a + n) × Memᴰ x (f i)
unfolding in_turn
in_turn_out zero a f x m = absurd (Memᴰ.not-nil m)
in_turn_out (suc n) a f x m = elim (Memᴰ.append_cases (f a) m) [
  | inl l ↦ (a, le_refl a, omega arith, l)
  | inr r ↦ let (i, h, g, l) = in_turn_out n (a + 1) f x r in (i, omega arith, omega arith, l)
]

in_turn_sorted : (n a : ℕ) (f : ℕ → List (List Module)) → ((i : ℕ) → Sorted (f i))
    → ((i j : ℕ) (x y : List Module) → i < j → Memᴰ x (f i) → Memᴰ y (f j) → Before x y) → Sorted (in_turn n a f)
unfolding in_turn
in_turn_sorted zero a f s h = tt
in_turn_sorted (suc n) a f s h =
    sorted_append (f a) (in_turn n (a + 1) f) (s a) (in_turn_sorted n (a + 1) f s h)
    (λ x y m r. let (i, b, g, l) = in_turn_out n (a + 1) f y r in h a i x y (omega arith) m l)

-- ---- the plans after the task t that take at most w cores, rest l w giving those after a module up to l

module _ (rest : ℕ → ℕ → List (List Module)) (t w : ℕ) where
  -- those that start with the module l r p
  abbrev start_with : (l r p : ℕ) → List (List Module)
  start_with l r p = map (◌∷◌ (module_after t l r p)) (rest l (w - r * p))

  -- those whose first module has the last task l and r copies
  abbrev start_copies : (l r : ℕ) → List (List Module)
  start_copies l r = in_turn (w / r) 1 (start_with l r)

  -- those whose first module has the last task l
  abbrev start_last : (l : ℕ) → List (List Module)
  start_last l = in_turn w 1 (start_copies l)

  start_with_out : (l r p : ℕ) (x : List Module) → Memᴰ x (start_with l r p) → (ys : List Module) × (x ≡ module_after t l r p ∷ ys)
  start_with_out l r p x m = let (y, n, e) = Memᴰ.of_map (◌∷◌ (module_after t l r p)) (rest l (w - r * p)) m in (y, sym e)

  start_copies_out : (l r : ℕ) (x : List Module) → Memᴰ x (start_copies l r)
      → (p : ℕ) × (ys : List Module) × (x ≡ module_after t l r p ∷ ys)
  start_copies_out l r x m =
      let (p, a, b, n) = in_turn_out (w / r) 1 (start_with l r) x m in
      let (ys, e) = start_with_out l r p x n in
      (p, ys, e)

  start_last_out : (l : ℕ) (x : List Module) → Memᴰ x (start_last l)
      → (r p : ℕ) × (ys : List Module) × (x ≡ module_after t l r p ∷ ys)
  start_last_out l x m =
      let (r, a, b, n) = in_turn_out w 1 (start_copies l) x m in
      let (p, ys, e) = start_copies_out l r x n in
      (r, p, ys, e)

  module _ (sorted : (l v : ℕ) → Sorted (rest l v)) where
    start_copies_sorted : (l r : ℕ) → Sorted (start_copies l r)
    unfolding Before ModuleBefore
    start_copies_sorted l r = in_turn_sorted (w / r) 1 (start_with l r)
        (λ p. sorted_map (module_after t l r p) (rest l (w - r * p)) (sorted l (w - r * p)))
        (λ i j x y h m n.
        let (a, e) = start_with_out l r i x m in
        let (b, d) = start_with_out l r j y n in
        rw (e, d) (inl (inr (refl, inr (refl, h)))))

    start_last_sorted : (l : ℕ) → Sorted (start_last l)
    unfolding Before ModuleBefore
    start_last_sorted l = in_turn_sorted w 1 (start_copies l) (start_copies_sorted l)
        (λ i j x y h m n.
        let (p, a, e) = start_copies_out l i x m in
        let (q, b, d) = start_copies_out l j y n in
        rw (e, d) (inl (inr (refl, inl h))))

    start_sorted : (k : ℕ) → Sorted (in_turn (k - t) (t + 1) start_last)
    unfolding Before ModuleBefore
    start_sorted k = in_turn_sorted (k - t) (t + 1) start_last start_last_sorted
        (λ i j x y h m n.
        let (r, p, a, e) = start_last_out i x m in
        let (r', p', b, d) = start_last_out j y n in
        rw (e, d) (inl (inl h)))

  -- a plan with a right first module and a right rest is there
  start_has : (k : ℕ) (x : Module) (ms : List Module) → module_after t x.last x.copies x.cores ≡ x
      → t < x.last → x.last ≤ k → 1 ≤ x.copies → 1 ≤ x.cores → x.copies ≤ w → x.copies * x.cores ≤ w
      → Memᴰ ms (rest x.last (w - x.copies * x.cores)) → Memᴰ (x ∷ ms) (in_turn (k - t) (t + 1) start_last)
  start_has k x ms e hl hk hr hp hw hc m =
      let d = (le-div_iff_mul-le {k = x.copies} {x = x.cores} {y = w} hr).1 (omega arith) in
      let y = module_after t x.last x.copies x.cores in
      in_turn_in (k - t) (t + 1) start_last x.last (x ∷ ms) (omega arith) (omega arith)
      (in_turn_in w 1 (start_copies x.last) x.copies (x ∷ ms) (omega arith) (omega arith)
      (in_turn_in (w / x.copies) 1 (start_with x.last x.copies) x.cores (x ∷ ms) (omega arith) (omega arith)
      (subst (λ z. Memᴰ (z ∷ ms) (start_with x.last x.copies x.cores)) e (Memᴰ.map (◌∷◌ y) m))))

-- ---- every plan

module _ (k : ℕ) where
  -- the plans of at least one module, where m more may follow
  abbrev longer : (m t w : ℕ) → List (List Module)
  longer m t w = in_turn (k - t) (t + 1) (start_last (every k m) t w)

  empty_sorted : Sorted ([] ∷ [])
  empty_sorted = (λ y m. absurd (Memᴰ.not-nil m), tt)

  pub every_sorted : (m t w : ℕ) → Sorted (every k m t w)
  unfolding every
  every_sorted zero t w = cond_case (eqb t k) Sorted ([] ∷ []) [] (λ u. empty_sorted) (λ u. tt)
  every_sorted (suc m) t w =
      cond_case (eqb t k) Sorted ([] ∷ []) (longer m t w) (λ u. empty_sorted) (λ u. start_sorted (every k m) t w (every_sorted m) k)

  pub every_has : (fits : Rule) → Fair k fits → (m s t w : ℕ) (ms : List Module) → T (valid k fits s t ms) → cores_of ms ≤ w
      → k ≤ t + m → Memᴰ ms (every k m t w)
  unfolding every cores_of
  every_has fits F zero s t w [] v h f =
      cond_case (eqb t k) (Memᴰ []) ([] ∷ []) [] (λ u. Memᴰ.head refl) (λ u. absurd (T_not (eqb t k) u v))
  every_has fits F (suc m) s t w [] v h f =
      cond_case (eqb t k) (Memᴰ []) ([] ∷ []) (longer m t w) (λ u. Memᴰ.head refl) (λ u. absurd (T_not (eqb t k) u v))
  every_has fits F zero s t w (x ∷ ms) v h f = absurd (omega (arith, fair_at k fits F s t x ms v))
  every_has fits F (suc m) s t w (x ∷ ms) v h f =
      let g = fair_at k fits F s t x ms v in
      let c = copies_le k fits F s t x ms v in
      let d = valid_tail k fits s t x ms v in
      let e = valid_module k fits s t x ms v in
      let rest = every_has fits F m x.cores x.last (w - x.copies * x.cores) ms d (omega arith) (omega arith) in
      cond_case (eqb t k) (Memᴰ (x ∷ ms)) ([] ∷ []) (longer m t w) (λ u. absurd (omega (arith, eqb→eq t k u)))
      (λ u. start_has (every k m) t w k x ms e g.0 g.1 g.2 g.3 (omega arith) (omega arith) rest)

-- ---- the first of the best of those that pass

module _ (ok : List Module → Bool) (better : List Module → List Module → Bool) where
  pub scan_none : (ys : List (List Module)) → ((y : List Module) → T (ok y) → ⊥) → scan ok better none ys ≡ none
  unfolding scan
  scan_none [] h = refl
  scan_none (y ∷ ys) h = cond_case (ok y) (λ c. scan ok better c ys ≡ none) (some y) none (λ u. absurd (h y u)) (λ u. scan_none ys h)

  -- x passes, nothing that passes is better, and it is better than what passes and comes before it
  module _ (x : List Module) (okay : T (ok x)) (top : (y : List Module) → T (ok y) → T (not (better y x)))
      (ahead : (y : List Module) → T (ok y) → Before y x → T (better x y)) where
    scan_stays : (ys : List (List Module)) → scan ok better (some x) ys ≡ some x
    unfolding scan
    scan_stays [] = refl
    scan_stays (y ∷ ys) = cond_case (replaces ok better y (some x)) (λ c. scan ok better c ys ≡ some x) (some y) (some x)
        (λ u. absurd (T_not (better y x) (top y (and_l (ok y) (better y x) u)) (and_r (ok y) (better y x) u))) (λ u. scan_stays ys)

    -- x is better than the best so far
    abbrev Ahead : Option (List Module) → Type 0
    Ahead none = Unit {0}
    Ahead (some c) = T (better x c)

    ahead_replaces : (c : Option (List Module)) → Ahead c → T (replaces ok better x c)
    ahead_replaces none l = okay
    ahead_replaces (some c) l = and_i (ok x) (better x c) okay l

    replaces_passes : (c : Option (List Module)) (y : List Module) → T (replaces ok better y c) → T (ok y)
    replaces_passes none y u = u
    replaces_passes (some c) y u = and_l (ok y) (better y c) u

    -- so it is found where it is in a sorted list
    scan_reaches : (c : Option (List Module)) (ys : List (List Module)) → Ahead c → Sorted ys → Memᴰ x ys
        → scan ok better c ys ≡ some x
    unfolding scan
    scan_reaches c [] l s m = absurd (Memᴰ.not-nil m)
    scan_reaches c (y ∷ ys) l s m = elim (Memᴰ.cases_cons m) [
      | inl e ↦ cond_case (replaces ok better y c) (λ d. scan ok better d ys ≡ some x) (some y) c
          (λ u. rw (← e) (scan_stays ys)) (λ u. absurd (T_not (replaces ok better x c) (rw e u) (ahead_replaces c l)))
      | inr n ↦ cond_case (replaces ok better y c) (λ d. scan ok better d ys ≡ some x) (some y) c
          (λ u. scan_reaches (some y) ys (ahead y (replaces_passes c y u) (s.0 x n)) s.1 n)
          (λ u. scan_reaches c ys l s.1 n)
    ]

    pub scan_finds : (ys : List (List Module)) → Sorted ys → Memᴰ x ys → scan ok better none ys ≡ some x
    scan_finds ys s m = scan_reaches none ys tt s m
