-- The rules along the walk: the start keeps them where it fits the board and the limits, a core more for a module that may take it
-- breaks none, and no more are given than are left. By induction along the modules and on the cores left. Assumes nothing.
use mathlib.Core.Path.{◌≡◌, refl}
use mathlib.Core.Bool.{true, false}
use mathlib.Core.List.Memᴰ
use mathlib.Core.List.{List, [], ◌∷◌, Memᴰ}
use mathlib.Core.Logic.{◌↔◌, ⊎_elim}
use mathlib.Core.Option.{none, some}
use Prim.Native.Nat.{ℕ, zero, suc, ◌+◌, ◌-◌, ◌≤◌, ◌<◌}
use native.Mathlib.Omega.{arith}
use lib.ListN.{length, get_or}
use borrow.Author.Tests.{le-leb, leb-true, eqb-true}
use Rattle.records.proofs.Cases.{true_or_false, and-true}
use Rattle.modules.specs.declared.Module.{Module}
use Rattle.modules.specs.Model.{Chain}
use Rattle.modules.specs.Rules.{memory_fits, copies_allowed, within_limit, module_rules, fewest_cores}
use Rattle.modules.proofs.Laws.{fewest_least, memory_more}
use Rattle.figures.specs.Model.{cores_of}
use Rattle.figures.specs.Rules.{covers, each_allowed, keeps_rules}
use Rattle.figures.proofs.Covering.{covers_head}
use Rattle.figures.proofs.Kept.{allowed_head, keeps_parts}
use Rattle.judge.specs.Judge.{limit_test}
use Rattle.judge.specs.Claims.{no_module, AllPass}
use Rattle.judge.proofs.Faults.{pass_rest}
use Rattle.judge.proofs.Laws.{none_fails}
use Rattle.greedy.specs.Greedy.{bit, least, start_from, start, start_fits, give, may_take, AtLimit, next, visited, greedy_plan}
use Rattle.greedy.specs.Assignment.{Single}
use Rattle.greedy.proofs.Choosing.{Holds, take_parts, next_holds, full_takes_none}
use Rattle.greedy.proofs.Earliest.{earliest_visited}
use Rattle.greedy.proofs.Giving.{give_covers, give_single, give_cores}
use Rattle.greedy.proofs.Starting.{start_covered, start_single}
use Rattle.greedy.proofs.Visiting.{later, visited_is, walk_earliest}

module _ (c : Chain) where
  -- ---- memory

  memory_least : (first last : ℕ) → fewest_cores c first last ≤ c.board → memory_fits c first last (fewest_cores c first last) ≡ true
  memory_least first last h = ((fewest_least c first last (fewest_cores c first last) h).0 refl).fits

  -- ---- the rules of each module

  allowed_cons : (m : Module) (ms : List Module) → copies_allowed c m.first m.last m.copies ≡ true → memory_fits c m.first m.last m.cores ≡ true
      → within_limit c m.first m.last m.cores ≡ true → each_allowed c ms ≡ true → each_allowed c (m ∷ ms) ≡ true
  unfolding each_allowed module_rules
  allowed_cons m ms a b l e = simp (a, b, l, e)

  give_allowed : (ms : List Module) (i : ℕ) → within_limit c (get_or ms i no_module).first (get_or ms i no_module).last ((get_or ms i no_module).cores + 1) ≡ true
      → each_allowed c ms ≡ true → each_allowed c (give ms i) ≡ true
  unfolding give
  give_allowed [] i l e = e
  give_allowed (m ∷ ms) zero l e =
      let h = allowed_head c m ms e in
      allowed_cons (record { first = m.first; last = m.last; copies = m.copies; cores = m.cores + 1 }) ms h.0 (memory_more c m.first m.last m.cores (m.cores + 1) (omega arith) h.1) l h.3
  give_allowed (m ∷ ms) (suc i) l e = let h = allowed_head c m ms e in allowed_cons m (give ms i) h.0 h.1 h.2 (give_allowed ms i l h.3)

  -- each has a core and is within its limit
  module_parts : (k t : ℕ) (ms : List Module) (i : ℕ) → covers k t ms ≡ true → each_allowed c ms ≡ true → i < length ms
      → (1 ≤ (get_or ms i no_module).cores) × (within_limit c (get_or ms i no_module).first (get_or ms i no_module).last (get_or ms i no_module).cores ≡ true)
  module_parts k t [] i a b h = absurd (omega arith)
  module_parts k t (m ∷ ms) zero a b h = ((covers_head k t m ms a).4, (allowed_head c m ms b).2)
  module_parts k t (m ∷ ms) (suc i) a b h = module_parts k (m.last + 1) ms i (covers_head k t m ms a).5 (allowed_head c m ms b).3 (omega arith)

  -- so that of a plan that keeps the rules those at their limit, and no others, take no core
  pub takes_unless_full : (ms : List Module) → keeps_rules c ms ≡ true → (i : ℕ) → (may_take c ms i ≡ false) ↔ AtLimit c ms i
  takes_unless_full ms e i = let h = keeps_parts c ms e in full_takes_none c ms i (module_parts c.tasks 1 ms i h.0 h.1)

  -- ---- the start

  start_allowed : (g n first t : ℕ) → cores_of (start_from c g first t n) ≤ c.board → AllPass (limit_test c) (start_from c g first t n) → each_allowed c (start_from c g first t n) ≡ true
  unfolding start_from cores_of each_allowed copies_allowed
  start_allowed g zero first t h a = allowed_cons (least c first t) [] refl (memory_least first t (omega arith)) (a.passes 0 (omega arith)) refl
  start_allowed g (suc n) first t h a = ⊎_elim
      (λ (b : bit g (t - 1) ≡ true).
      let r = rw b at h in
      let x = rw b at a in
      rw b (allowed_cons (least c first t) (start_from c g (t + 1) (t + 1) n) refl (memory_least first t (omega arith)) (x.passes 0 (omega arith))
      (start_allowed g n (t + 1) (t + 1) (omega arith) (pass_rest (limit_test c) (least c first t) (start_from c g (t + 1) (t + 1) n) x))))
      (λ (b : bit g (t - 1) ≡ false). rw b (start_allowed g n first (t + 1) (rw b at h) (rw b at a)))
      (true_or_false (bit g (t - 1)))

  -- what fits the board and the limits
  pub fits_parts : (g : ℕ) → start_fits c g ≡ true → (cores_of (start c g) ≤ c.board) × AllPass (limit_test c) (start c g)
  unfolding start_fits
  fits_parts g e = let h = and-true _ _ e in (leb-true _ _ h.0, (none_fails (limit_test c) (start c g)).0 (eqb-true _ _ h.1))

  -- ---- the walk

  -- the assignment ms, with n cores left
  record Kept (n : ℕ) (ms : List Module) : Type 0 where
    covered : covers c.tasks 1 ms ≡ true
    single : Single ms
    allowed : each_allowed c ms ≡ true
    room : cores_of ms + n ≤ c.board

  start_kept : (g : ℕ) → 1 ≤ c.tasks → start_fits c g ≡ true → Kept (c.board - cores_of (start c g)) (start c g)
  unfolding start
  start_kept g h e =
      let f = fits_parts g e in
      record {
        covered = start_covered c g h;
        single = start_single c g;
        allowed = start_allowed g (c.tasks - 1) 1 1 f.0 f.1;
        room = omega (arith, f.0);
      }

  kept_give : (n : ℕ) (ms : List Module) → Kept (suc n) ms → (i : ℕ) → may_take c ms i ≡ true → Kept n (give ms i)
  kept_give n ms k i e =
      let h = take_parts c ms i e in
      record {
        covered = give_covers c.tasks 1 ms i k.covered;
        single = give_single ms i k.single;
        allowed = give_allowed ms i h.1 k.allowed;
        room = omega (arith, k.room, give_cores ms i k.single h.0);
      }

  kept_rules : (n : ℕ) (ms : List Module) → Kept n ms → keeps_rules c ms ≡ true
  unfolding keeps_rules
  kept_rules n ms k = simp (k.covered, k.allowed, le-leb (cores_of ms) c.board (omega (arith, k.room)))

  later_keeps : (n : ℕ) (ms : List Module) → Kept n ms → (a : List Module) → Memᴰ a (later c n ms) → keeps_rules c a ≡ true
  unfolding later
  later_keeps zero ms k a m = absurd (Memᴰ.not-nil m)
  later_keeps (suc n) ms k a m =
      elim (next c ms) as (λ o. Holds (Kept n) o → Memᴰ a (elim o [ none ↦ [] | some x ↦ x ∷ later c n x ]) → keeps_rules c a ≡ true) [
        | none ↦ λ h d. absurd (Memᴰ.not-nil d)
        | some x ↦ λ h d. ⊎_elim (λ e. rw e (kept_rules n x h)) (later_keeps n x h a) (Memᴰ.cases_cons d)
      ] (next_holds c ms (Kept n) (kept_give n ms k)) m

  visited_keeps : (n : ℕ) (ms : List Module) → Kept n ms → (a : List Module) → Memᴰ a (visited c n ms) → keeps_rules c a ≡ true
  visited_keeps n ms k a m = ⊎_elim
      (λ e. rw e (kept_rules n ms k))
      (later_keeps n ms k a)
      (Memᴰ.cases_cons (rw (visited_is c n ms) at m))

  pub walk_keeps : (g : ℕ) → 1 ≤ c.tasks → start_fits c g ≡ true → (a : List Module) → Memᴰ a (visited c (c.board - cores_of (start c g)) (start c g)) → keeps_rules c a ≡ true
  walk_keeps g h l = visited_keeps (c.board - cores_of (start c g)) (start c g) (start_kept g h l)

  pub plan_keeps : (g : ℕ) → 1 ≤ c.tasks → start_fits c g ≡ true → keeps_rules c (greedy_plan c g) ≡ true
  unfolding greedy_plan
  plan_keeps g h l =
      let n = c.board - cores_of (start c g) in
      walk_keeps g h l _ (earliest_visited c (visited c n (start c g)) _ (walk_earliest c n (start c g)))
