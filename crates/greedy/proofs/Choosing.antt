-- Step 3: who gets a core. The candidates against the best so far, and the slowest module with its neighbours. Assumes nothing.
use mathlib.Core.Path.{◌≡◌, refl, sym, ap, subst, ◌∙◌}
use mathlib.Core.Bool.{Bool, true, false, ◌&&◌, and-false}
use mathlib.Core.List.Memᴰ
use mathlib.Core.List.{List, [], ◌∷◌, Memᴰ}
use mathlib.Core.Logic.{◌↔◌, ⊎_elim}
use Rattle.std.specs.Prelude.{Option as Maybe, Some, None, IfSome}
use mathlib.Core.Option.{Option, none, some}
use Prim.Native.Nat.{ℕ, zero, suc, ◌+◌, ◌-◌, ◌*◌, ◌≤◌, ◌<◌}
use native.Mathlib.Omega.{arith}
use lib.ListN.{length, get_or, set}
use lib.Dec.{ltb}
use borrow.Author.Tests.{lt-ltb, le-ltb, ltb-true}
use Rattle.records.proofs.Cases.{true_or_false, false_unless, and-true, lt_or_le}
use Rattle.modules.specs.declared.Module.{Module}
use Rattle.modules.specs.Model.{Chain}
use Rattle.modules.specs.Rules.{within_limit}
use Rattle.modules.proofs.Laws.{full_exactly}
use Rattle.layout.specs.Layout.{most_modules, modules_of}
use Rattle.figures.specs.declared.Slowest.{Slowest}
use Rattle.figures.specs.Model.{cores_of, bottleneck}
use Rattle.figures.specs.Rules.{covers}
use Rattle.figures.specs.Claims.{loads}
use Rattle.figures.proofs.Covering.{covers_end}
use Rattle.figures.proofs.Tops.{bottleneck_is}
use Rattle.judge.specs.Claims.{no_module}
use Rattle.greedy.specs.declared.greedy.Choice.{Choice}
use Rattle.greedy.specs.Greedy.{time, give, may_take, AtLimit, consider, predecessor, next}
use Rattle.greedy.specs.Assignment.{Assigned, choice_of, Chosen}
use Rattle.greedy.proofs.Bytes.{given_assigned}
use Rattle.greedy.proofs.Giving.{give_cores}

-- ---- a candidate against the best so far

found_none : {x : List Module} → ◌≡◌ {A = Option (List Module)} (some x) none → ⊥
found_none e = let z : ◌≡◌ {A = ℕ} 0 1 = cc in omega arith

module _ (c : Chain) (ms : List Module) (i : ℕ) where
  -- who may take a core exists, and with it is within its limit
  pub take_parts : may_take c ms i ≡ true → (i < length ms) × (within_limit c (get_or ms i no_module).first (get_or ms i no_module).last ((get_or ms i no_module).cores + 1) ≡ true)
  unfolding may_take
  take_parts e = let h = and-true _ _ e in (ltb-true i (length ms) h.0, h.1)

  pub take_none : length ms ≤ i → may_take c ms i ≡ false
  unfolding may_take
  take_none h = simp (le-ltb i (length ms) h)

  pub take_some : {m : Module} {x : Bool} → i < length ms → m ≡ get_or ms i no_module → x ≡ within_limit c m.first m.last (m.cores + 1) → x ≡ may_take c ms i
  unfolding may_take
  take_some h e d = d ∙ rw e (simp (lt-ltb i (length ms) h))

  consider_none : (best : Option (List Module)) → may_take c ms i ≡ false → consider c ms best i ≡ best
  unfolding consider
  consider_none none h = simp h
  consider_none (some x) h = simp h

  consider_first : may_take c ms i ≡ true → consider c ms none i ≡ some (give ms i)
  unfolding consider
  consider_first h = simp h

  consider_less : (x : List Module) → may_take c ms i ≡ true → time c (give ms i) < time c x → consider c ms (some x) i ≡ some (give ms i)
  unfolding consider
  consider_less x h l = simp (h, lt-ltb (time c (give ms i)) (time c x) l)

  consider_more : (x : List Module) → time c x ≤ time c (give ms i) → consider c ms (some x) i ≡ some x
  unfolding consider
  consider_more x l = simp (le-ltb (time c (give ms i)) (time c x) l, and-false)

  consider_nothing : (best : Option (List Module)) → consider c ms best i ≡ none → (best ≡ none) × (may_take c ms i ≡ false)
  unfolding consider
  consider_nothing none e = (refl, false_unless (may_take c ms i) (λ t. absurd (found_none (sym (consider_first t) ∙ e))) (λ z. z))
  consider_nothing (some x) e = absurd (⊎_elim
      (λ (t : (may_take c ms i && ltb (time c (give ms i)) (time c x)) ≡ true). found_none (rw t at e))
      (λ (t : (may_take c ms i && ltb (time c (give ms i)) (time c x)) ≡ false). found_none (rw t at e))
      (true_or_false (may_take c ms i && ltb (time c (give ms i)) (time c x))))

-- the next assignment is none exactly if none of the three may take a core
module _ (c : Chain) (ms : List Module) where
  pub next_none : next c ms ≡ none
      ↔ (let i = (bottleneck c ms).number - 1 in (may_take c ms i ≡ false) × (may_take c ms (predecessor ms i) ≡ false) × (may_take c ms (i + 1) ≡ false))
  unfolding next
  next_none =
      let i = (bottleneck c ms).number - 1 in (
        λ e.
            let z = consider_nothing c ms (i + 1) _ e in
            let y = consider_nothing c ms (predecessor ms i) _ z.0 in
            let x = consider_nothing c ms i none y.0 in
            (x.1, y.1, z.1),
        λ h. rw (consider_none c ms i none h.0, consider_none c ms (predecessor ms i) none h.1) (consider_none c ms (i + 1) none h.2),
      )

  -- where a module has a core and is within its limit, it takes none exactly if it is at it
  pub full_takes_none : (i : ℕ)
      → (i < length ms → (1 ≤ (get_or ms i no_module).cores) × (within_limit c (get_or ms i no_module).first (get_or ms i no_module).last (get_or ms i no_module).cores ≡ true))
      → (may_take c ms i ≡ false) ↔ AtLimit c ms i
  full_takes_none i known = (
    λ e h. let k = known h in (full_exactly c _ _ _ k.0 k.1).0 (take_some c ms i h refl refl ∙ e),
    λ full. ⊎_elim
        (λ h. let k = known h in sym (take_some c ms i h refl refl) ∙ (full_exactly c _ _ _ k.0 k.1).1 (full h))
        (take_none c ms i)
        (lt_or_le i (length ms)),
  )

-- what holds of the assignment that there may be
abbrev pub Holds : (List Module → Type 0) → Option (List Module) → Type 0
Holds P none = Unit {0}
Holds P (some x) = P x

module _ (c : Chain) (ms : List Module) (P : List Module → Type 0) (given : (i : ℕ) → may_take c ms i ≡ true → P (give ms i)) where
  consider_holds : (best : Option (List Module)) (i : ℕ) → Holds P best → Holds P (consider c ms best i)
  consider_holds best i h = ⊎_elim (λ l. takes best l h) (λ l. subst (Holds P) (sym (consider_none c ms i best l)) h) (true_or_false (may_take c ms i))
    where
      takes : (o : Option (List Module)) → may_take c ms i ≡ true → Holds P o → Holds P (consider c ms o i)
      takes none l g = subst (Holds P) (sym (consider_first c ms i l)) (given i l)
      takes (some x) l g = ⊎_elim
          (λ t. subst (Holds P) (sym (consider_less c ms i x l t)) (given i l))
          (λ t. subst (Holds P) (sym (consider_more c ms i x t)) g)
          (lt_or_le (time c (give ms i)) (time c x))

  -- the next assignment is one with a core more for a module
  pub next_holds : Holds P (next c ms)
  unfolding next
  next_holds = consider_holds _ _ (consider_holds _ _ (consider_holds none _ tt))

-- ---- the same on choices

abbrev taken : ℕ → List ℕ → Choice
taken t v = record { time = t; plan = v }

-- the best so far is `best`, and the i-th of the modules that w says is considered
module _ (c : Chain) (w : List ℕ) (i : ℕ) (best : Maybe Choice) (b : IfSome best (Chosen c (modules_of w c.tasks))) where
  abbrev Considered : Maybe Choice → Type 0
  Considered o = IfSome o (Chosen c (modules_of w c.tasks)) × (choice_of c.tasks o ≡ consider c (modules_of w c.tasks) (choice_of c.tasks best) i)

  pub considered_none : may_take c (modules_of w c.tasks) i ≡ false → Considered best
  considered_none h = (b, sym (consider_none c (modules_of w c.tasks) i (choice_of c.tasks best) h))

  -- v is w with one core more for it, and t its bottleneck
  module _ {v : List ℕ} {t : ℕ} (a : Assigned c.tasks w) (some_tasks : 1 ≤ c.tasks) (tasks_most : c.tasks ≤ most_modules) (takes : may_take c (modules_of w c.tasks) i ≡ true)
      (e : v ≡ set w (4 * i + 3) (get_or w (4 * i + 3) 0 + 1)) (d : t ≡ time c (modules_of v c.tasks)) where
    there : i < length (modules_of w c.tasks)
    there = (take_parts c (modules_of w c.tasks) i takes).0

    given : Assigned c.tasks v × (modules_of v c.tasks ≡ give (modules_of w c.tasks) i)
    given = given_assigned c.tasks w i tasks_most a there some_tasks e

    given_time : t ≡ time c (give (modules_of w c.tasks) i)
    given_time = d ∙ ap (time c) given.1

    considered_taken : consider c (modules_of w c.tasks) (choice_of c.tasks best) i ≡ some (give (modules_of w c.tasks) i) → Considered (Some (taken t v))
    considered_taken q = (
      record { held = given.0; timed = d; dearer = ap cores_of given.1 ∙ give_cores (modules_of w c.tasks) i a.single there },
      ap some given.1 ∙ sym q,
    )

    pub considered_first : best ≡ None → Considered (Some (taken t v))
    considered_first f = considered_taken (rw f (consider_first c (modules_of w c.tasks) i takes))

    pub considered_less : (r : Choice) → best ≡ Some r → t < r.time → Considered (Some (taken t v))
    considered_less r f l =
        let x = modules_of r.plan c.tasks in
        let h = rw f at b in
        considered_taken (rw f (consider_less c (modules_of w c.tasks) i x takes (omega (arith, h.timed, given_time))))

    pub considered_more : (r : Choice) → best ≡ Some r → r.time ≤ t → Considered (Some r)
    considered_more r f l =
        let x = modules_of r.plan c.tasks in
        let h = rw f at b in
        (h, rw f (sym (consider_more c (modules_of w c.tasks) i x (omega (arith, h.timed, given_time)))))

-- ---- the slowest module and its neighbours

-- the numbers of a plan's modules run from n on
loads_number : (c : Chain) (ms : List Module) (s n : ℕ) (x : Slowest) → Memᴰ x (loads c s n ms) → (n ≤ x.number) × (x.number < n + length ms)
unfolding loads
loads_number c [] s n x i = absurd (Memᴰ.not-nil i)
loads_number c (m ∷ ms) s n x i = ⊎_elim
    (λ e. omega (arith, ap (λ (y : Slowest). y.number) e))
    (λ j. omega (arith, loads_number c ms m.cores (n + 1) x j))
    (Memᴰ.cases_cons i)

pub slowest_number : (c : Chain) (k : ℕ) (ms : List Module) → covers k 1 ms ≡ true → 1 ≤ k → (1 ≤ (bottleneck c ms).number) × ((bottleneck c ms).number ≤ length ms)
slowest_number c k [] e h = absurd (omega (arith, covers_end k 1 e))
slowest_number c k (m ∷ ms) e h = omega (arith, loads_number c (m ∷ ms) 0 1 _ (bottleneck_is c k 1 m ms e).one)

pub before_first : (ms : List Module) (i : ℕ) → i ≤ 0 → predecessor ms i ≡ length ms
unfolding predecessor
before_first ms zero h = refl
before_first ms (suc i) h = absurd (omega arith)

pub before_later : (ms : List Module) (i : ℕ) → 0 < i → predecessor ms i ≡ i - 1
unfolding predecessor
before_later ms zero h = absurd (omega arith)
before_later ms (suc i) h = omega arith

-- the next assignment, one candidate after another
pub next_is : (c : Chain) (ms : List Module) {i before : ℕ} {own left last : Option (List Module)} → i ≡ (bottleneck c ms).number - 1 → before ≡ predecessor ms i
    → own ≡ consider c ms none i → left ≡ consider c ms own before → last ≡ consider c ms left (i + 1) → last ≡ next c ms
unfolding next
next_is c ms e d o l r = rw (r, l, o, d, e)
