-- Plans of the fewest cores: in such a plan each rest has the fewest cores too, so its modules spare; a lightest plan is one; so the
-- lightest plans within n, and the first of them, are found among modules that spare. By induction on the plan, and by what one core weighs.
use Prim.Native.Nat.{ℕ, zero, suc, ◌+◌, ◌*◌, ◌-◌, ◌≤◌, ◌<◌}
use native.Mathlib.Omega.{arith}
use native.Mathlib.Nat.{le_refl, le_trans, le_antisymm, eq-or-lt_of_le, mul-le-mul, mul-le-mul_left}
use mathlib.Core.Path.{◌≡◌, refl, sym, subst, ◌∙◌}
use mathlib.Core.Bool.{Bool, ◌&&◌, not}
use mathlib.Core.Logic.{inl, inr}
use mathlib.Core.List.{List, [], ◌∷◌}
use lib.Dec.{T, leb, leb→le, le→leb, eqb, T_not}
use Rattle.records.proofs.Cases.{lt_or_le}
use Rattle.modules.specs.declared.Module.{Module}
use Rattle.figures.specs.Model.{head_cores, cores_of}
use Rattle.search.specs.Least.{least}
use Rattle.search.specs.Find.{find, some}
use Rattle.search.specs.Plan.{Rule, Problem, valid, cap}
use Rattle.search.specs.Weight.{table}
use Rattle.search.specs.Walk.{walk, Fine, First}
use Rattle.search.specs.Bottleneck.{within, PlanWithin, Keeps}
use Rattle.search.specs.Best.{plan_weight, fits_at, light, room_at, plan, Feasible, Laws}
use Rattle.search.specs.Sparing.{Enough, fewest, need, sparing, Rest, Tells}
use Rattle.search.proofs.Tests.{and_l, and_r, and_i, ne→neqb}
use Rattle.search.proofs.Least.{pick_yes, pick_no, pick_le, least_le, least_ge}
use Rattle.search.proofs.Find.{find_yes, find_le, find_is, some_i, some_e}
use Rattle.search.proofs.Plan.{valid_first, valid_head, valid_tail, valid_cons, valid_map, Fair, fair_at, head_le, tight_fits, tight_i, cores_weigh, on_board}
use Rattle.search.proofs.Weight.{attained, table_le}
use Rattle.search.proofs.Bottleneck.{within_fair, within_rules}
use Rattle.search.proofs.Order.{before_asym}
use Rattle.search.proofs.Walk.{walk_is}
use Rattle.search.proofs.Best.{fits_fair, plan_is, plan_within, plan_keeps, plan_weighs, light_le}

-- ---- the first of 0 .. P that passes, P + 1 where none does

find_most : (n a : ℕ) (f : ℕ → Bool) → find n a f ≤ a + n
unfolding find
find_most zero a f = omega arith
find_most (suc n) a f = pick_le (f a) a (find n (a + 1) f) (a + suc n) (omega arith) (omega (arith, find_most n (a + 1) f))

module _ (P : ℕ) (f : ℕ → Bool) where
  first_most : find (suc P) 0 f ≤ suc P
  first_most = omega (arith, find_most (suc P) 0 f)

  first_is : (x : ℕ) → x ≤ suc P → (x ≤ P → T (f x)) → ((b : ℕ) → b < x → T (not (f b))) → find (suc P) 0 f ≡ x
  first_is x h t g = elim (eq-or-lt_of_le h) [
    | inr l ↦ find_is (suc P) f x l (t (omega arith)) g
    | inl e ↦ elim (eq-or-lt_of_le first_most) [
      | inl d ↦ d ∙ sym e
      | inr d ↦ absurd (T_not (f (find (suc P) 0 f)) (g (find (suc P) 0 f) (omega arith)) (find_yes (suc P) 0 f (omega arith)))
    ]
  ]

module _ (P : ℕ) (enough : Enough) where
  -- ---- the fewest cores of a whole plan

  -- so many cores are enough for a whole plan
  abbrev whole : ℕ → Bool
  whole b = some (suc P) (λ q. enough 0 0 q b)

  pub fewest_is : (x : ℕ) → x ≤ suc P → (x ≤ P → T (some (suc P) (λ q. enough 0 0 q x)))
      → ((b : ℕ) → b < x → T (not (some (suc P) (λ q. enough 0 0 q b)))) → fewest P enough ≡ x
  unfolding fewest
  fewest_is x h t g = first_is P whole x h t g

  pub fewest_most : fewest P enough ≤ suc P
  unfolding fewest
  fewest_most = first_most P whole

  -- what is enough is no less
  pub fewest_le : (q b : ℕ) → q ≤ P → b ≤ P → T (enough 0 0 q b) → fewest P enough ≤ b
  unfolding fewest
  fewest_le q b hq hb t =
      find_le (suc P) 0 whole b (omega arith) (omega arith) (some_i (suc P) (λ q. enough 0 0 q b) q (omega arith) t)

  -- so many cores, where a board has them, are enough with some first module
  pub fewest_found : fewest P enough ≤ P → (q : ℕ) × T (enough 0 0 q (fewest P enough))
  unfolding fewest
  fewest_found h =
      let f : ℕ → Bool = λ q. enough 0 0 q (fewest P enough) in
      (find (suc P) 0 f, some_e (suc P) f (find_yes (suc P) 0 whole (omega arith)))

  -- ---- the fewest cores of a rest

  pub need_start : (s q : ℕ) → need P enough s 0 q ≡ fewest P enough
  unfolding need
  need_start s q = pick_yes (eqb 0 0) (fewest P enough) (find (suc P) 0 (enough s 0 q)) tt

  module _ (s t q : ℕ) where
    need_later : 1 ≤ t → need P enough s t q ≡ find (suc P) 0 (enough s t q)
    unfolding need
    need_later h = pick_no (eqb t 0) (fewest P enough) (find (suc P) 0 (enough s t q)) (ne→neqb t 0 (λ e. omega arith))

    pub need_is : (x : ℕ) → 1 ≤ t → x ≤ suc P → (x ≤ P → T (enough s t q x)) → ((b : ℕ) → b < x → T (not (enough s t q b)))
        → need P enough s t q ≡ x
    need_is x later h u g = need_later later ∙ first_is P (enough s t q) x h u g

    pub need_most : need P enough s t q ≤ suc P
    unfolding need
    need_most = pick_le (eqb t 0) (fewest P enough) (find (suc P) 0 (enough s t q)) (suc P) fewest_most (first_most P (enough s t q))

    -- what is enough is no less
    pub need_le : (b : ℕ) → 1 ≤ t → b ≤ P → T (enough s t q b) → need P enough s t q ≤ b
    need_le b later h u = rw (need_later later) (find_le (suc P) 0 (enough s t q) b (omega arith) (omega arith) u)

    -- so many cores, where a board has them, are enough
    pub need_found : 1 ≤ t → need P enough s t q ≤ P → T (enough s t q (need P enough s t q))
    need_found later h =
        let e = need_later later in rw e (find_yes (suc P) 0 (enough s t q) (omega arith))

-- ---- modules that spare

-- a rest may be changed for another one whose first module has as many cores
other_rest : (k : ℕ) (fits : Rule) (s t : ℕ) (x : Module) (ms ns : List Module) → T (valid k fits s t (x ∷ ms))
    → head_cores ns ≡ head_cores ms → T (valid k fits x.cores x.last ns) → T (valid k fits s t (x ∷ ns))
other_rest k fits s t x ms ns v e w =
    valid_cons k fits s t x ns (valid_first k fits s t x ms v)
    (subst (λ q. T (fits s t x.last x.copies x.cores q)) (sym e) (valid_head k fits s t x ms v)) w

module _ (X : Problem) (n : ℕ) (enough : Enough) where
  -- their rule
  abbrev g : Rule
  g = sparing X n enough

  -- the fewest cores of a rest
  abbrev least_cores : (s t q : ℕ) → ℕ
  least_cores = need X.board enough

  module _ (s t l r p q : ℕ) where
    -- it has no more cores than the fewest
    abbrev few : Bool
    few = leb (r * p) (least_cores s t p)

    -- what it leaves is enough
    abbrev left : Bool
    left = enough p l q (least_cores s t p - r * p)

    pub sparing_fits : T (sparing X n enough s t l r p q) → T (fits_at X n s t l r p q)
    sparing_fits u = and_l (fits_at X n s t l r p q) (few && left) u

    pub sparing_spares : T (sparing X n enough s t l r p q)
        → (r * p ≤ need X.board enough s t p) × T (enough p l q (need X.board enough s t p - r * p))
    sparing_spares u =
        let v : T (few && left) = and_r (fits_at X n s t l r p q) (few && left) u in
        (leb→le (r * p) (least_cores s t p) (and_l few left v), and_r few left v)

    pub sparing_i : T (fits_at X n s t l r p q) → r * p ≤ need X.board enough s t p
        → T (enough p l q (need X.board enough s t p - r * p)) → T (sparing X n enough s t l r p q)
    sparing_i u h v = and_i (fits_at X n s t l r p q) (few && left) u (and_i few left (le→leb (r * p) (least_cores s t p) h) v)

  pub sparing_fair : Fair X.tasks (sparing X n enough)
  sparing_fair = record { fair = λ s t l r p q u. (fits_fair X n).fair s t l r p q (sparing_fits s t l r p q u) }

  -- modules that spare are within n
  pub sparing_within : (s t : ℕ) (ms : List Module) → T (valid X.tasks (sparing X n enough) s t ms)
      → T (valid X.tasks (within X n) s t ms)
  sparing_within s t ms v = valid_map X.tasks g (within X n)
      (λ s t l r p q u. tight_fits X.board (within X n) s t l r p q (sparing_fits s t l r p q u)) s t ms v

  -- ---- rests of the fewest cores

  module _ (W : Tells X n enough) where
    -- a rest has no fewer
    pub need_low : (s t : ℕ) (ms : List Module) → (t ≡ 0 → s ≡ 0) → T (valid X.tasks (within X n) s t ms) → cores_of ms ≤ X.board
        → need X.board enough s t (head_cores ms) ≤ cores_of ms
    need_low s zero ms e v h =
        let z = e refl in
        let v' : T (valid X.tasks (within X n) 0 0 ms) = subst (λ a. T (valid X.tasks (within X n) a 0 ms)) z v in
        let b = head_le X.tasks (within X n) (within_fair X n) s 0 ms v in
        rw (need_start X.board enough s (head_cores ms))
        (fewest_le X.board enough (head_cores ms) (cores_of ms) (omega arith) h (W.told 0 0 (cores_of ms) ms v' (le_refl (cores_of ms))))
    need_low s (suc t) ms e v h =
        need_le X.board enough s (suc t) (head_cores ms) (cores_of ms) (omega arith) h
        (W.told s (suc t) (cores_of ms) ms v (le_refl (cores_of ms)))

    -- where a module and its rest have the fewest cores, so has the rest: else the module and a rest of fewer cores had fewer
    rest_low : (s t : ℕ) (x : Module) (ms : List Module) → (t ≡ 0 → s ≡ 0) → T (valid X.tasks (within X n) s t (x ∷ ms))
        → cores_of (x ∷ ms) ≤ X.board → cores_of (x ∷ ms) ≤ need X.board enough s t x.cores
        → cores_of ms ≤ need X.board enough x.cores x.last (head_cores ms)
    unfolding cores_of
    rest_low s t x ms e v h low =
        let k = X.tasks in
        let p = x.cores in
        let l = x.last in
        let q = head_cores ms in
        let f = fair_at k (within X n) (within_fair X n) s t x ms v in
        let m = need_low p l ms (λ z. absurd (omega arith)) (valid_tail k (within X n) s t x ms v) (omega arith) in
        let w = W.found p l q (need X.board enough p l q) (need_found X.board enough p l q (omega arith) (omega arith)) in
        let u = other_rest k (within X n) s t x ms w.modules v w.head w.ok in
        omega (arith, w.cores, need_low s t (x ∷ w.modules) e u (omega (arith, w.cores)))

    -- modules of the fewest cores spare
    pub spared : (s t : ℕ) (ms : List Module) → (t ≡ 0 → s ≡ 0) → T (valid X.tasks (within X n) s t ms) → s + cores_of ms ≤ X.board
        → cores_of ms ≤ need X.board enough s t (head_cores ms) → T (valid X.tasks (sparing X n enough) s t ms)
    unfolding cores_of
    spared s t [] e v h low = v
    spared s t (x ∷ ms) e v h low =
        let k = X.tasks in
        let l = x.last in
        let r = x.copies in
        let p = x.cores in
        let q = head_cores ms in
        let f = fair_at k (within X n) (within_fair X n) s t x ms v in
        let d = valid_tail k (within X n) s t x ms v in
        let y = mul-le-mul f.2 (le_refl p) in
        valid_cons k g s t x ms (valid_first k (within X n) s t x ms v)
        (sparing_i s t l r p q
        (tight_i X.board (within X n) s t l r p q (valid_head k (within X n) s t x ms v)
        (omega (arith, head_le k (within X n) (within_fair X n) p l ms d)))
        (omega arith)
        (W.told p l (need X.board enough s t p - r * p) ms d (omega arith)))
        (spared p l ms (λ z. absurd (omega arith)) d (omega arith) (rest_low s t x ms e v (omega arith) low))

  -- ---- lightest plans

  module _ (L : Laws X) (W : Tells X n enough) where
    -- a lightest plan has the fewest cores: the plan of the fewest cores weighs less than one more core
    pub light_fewest : (b : List Module) → Keeps X b → PlanWithin X n b → plan_weight X b ≤ light X n → cores_of b ≤ fewest X.board enough
    light_fewest b kept v h = elim (lt_or_le (fewest X.board enough) (cores_of b)) [
      | inr d ↦ d
      | inl d ↦
          let m = fewest X.board enough in
          let (q, u) = fewest_found X.board enough (omega (arith, kept.1)) in
          let w : Rest X n 0 0 q m = W.found 0 0 q m u in
          let k : Keeps X w.modules = (within_rules X n 0 0 w.modules w.ok, omega (arith, w.cores, kept.1)) in
          let fewer : suc (cores_of w.modules) ≤ cores_of b = omega (arith, w.cores) in
          absurd (omega (
            arith,
            L.level w.modules k,
            mul-le-mul_left X.unit fewer,
            cores_weigh X L.priced 0 0 b,
            light_le X L n w.modules k w.ok,
          ))
    ]

    -- so its modules spare
    pub light_spared : (b : List Module) → Keeps X b → PlanWithin X n b → plan_weight X b ≤ light X n
        → T (valid X.tasks (sparing X n enough) 0 0 b)
    light_spared b kept v h =
        spared W 0 0 b (λ z. refl) v (omega (arith, kept.1))
        (rw (need_start X.board enough 0 (head_cores b)) (light_fewest b kept v h))

    module _ (feasible : Feasible X n) where
      -- the plan of n is one of them
      pub sparing_fine : Fine X (sparing X n enough) 0 0 (room_at X n) (plan X n)
      sparing_fine =
          let A = L.priced in
          record {
            ok = light_spared (plan X n) (plan_keeps X A n feasible) (plan_within X A n feasible) (omega (arith, plan_weighs X A n feasible));
            light = (plan_is X A n feasible).fine.light;
          }

      -- so their least weight is that of all
      pub sparing_light : least (cap X) (suc X.board) (table X (sparing X n enough) 0 0) ≡ light X n
      sparing_light =
          let A = L.priced in
          let b = plan X n in
          let w = plan_weighs X A n feasible in
          let k = plan_keeps X A n feasible in
          let first = head_le X.tasks g sparing_fair 0 0 b sparing_fine.ok in
          le_antisymm
          (le_trans (least_le (cap X) (suc X.board) (table X g 0 0) (head_cores b) (omega arith))
          (le_trans (table_le X g sparing_fair A 0 0 b sparing_fine.ok (omega arith)) (omega arith)))
          (least_ge (cap X) (suc X.board) (table X g 0 0) (light X n) (omega arith) (λ q h. no_less q))
        where
          no_less : (q : ℕ) → light X n ≤ table X g 0 0 q
          no_less q = elim (lt_or_le (table X g 0 0 q) (cap X)) [
            | inr h ↦ omega arith
            | inl h ↦
                let a = attained X g X.tasks 0 0 q h in
                let b = a.modules in
                let v : PlanWithin X n b = sparing_within 0 0 b a.ok in
                let k : Keeps X b = (within_rules X n 0 0 b v, on_board X L.priced 0 0 b (omega (arith, a.weighs))) in
                omega (arith, a.weighs, light_le X L n b k v)
          ]

      -- and the walk among them is the plan: each is the first of lists among which is the other
      first_spared : First X g 0 0 (room_at X n) (walk X g (table X g) X.tasks 0 0 (room_at X n))
      first_spared =
          walk_is X g (table X g) sparing_fair L.priced (table_le X g sparing_fair L.priced) (attained X g X.tasks)
          X.tasks 0 0 (room_at X n) (omega arith) (λ q. feasible) (plan X n) sparing_fine

      fine_at : (ms : List Module) → Fine X g 0 0 (room_at X n) ms → Fine X (fits_at X n) 0 0 (room_at X n) ms
      fine_at ms f = record { ok = valid_map X.tasks g (fits_at X n) sparing_fits 0 0 ms f.ok; light = f.light }

      pub sparing_plan : walk X (sparing X n enough) (table X (sparing X n enough)) X.tasks 0 0 (room_at X n) ≡ plan X n
      sparing_plan =
          let w = walk X g (table X g) X.tasks 0 0 (room_at X n) in
          elim (first_spared.first (plan X n) sparing_fine) [
            | inl e ↦ e
            | inr u ↦ elim ((plan_is X L.priced n feasible).first w (fine_at w first_spared.fine)) [
              | inl e ↦ sym e
              | inr v ↦ absurd (before_asym w (plan X n) u v)
            ]
          ]
