-- The words of a search in the small steps of its loops: when a module of one copy is the longest, which modules may have copies, and words
-- that are laid. By the laws of modules and of lists. Assumes nothing.
use mathlib.Core.Path.{◌≡◌}
use mathlib.Core.Bool.{Bool, true, false}
use mathlib.Core.List.{List}
use mathlib.Core.Logic.{⊎_elim}
use Prim.Native.Nat.{ℕ, ◌+◌, ◌-◌, ◌*◌, ◌≤◌, ◌<◌}
use native.Mathlib.Nat.{le_refl}
use native.Mathlib.Omega.{arith}
use borrow.Author.Tests.{le-leb, lt-leb, eq-eqb, eqb-true}
use Rattle.records.proofs.Cases.{lt_or_le, true_not_false, false_unless}
use Rattle.modules.specs.Model.{Chain, gather, nothing}
use Rattle.modules.specs.Rules.{mark, share, shares, module_rules, still_kept, copies_allowed}
use Rattle.modules.proofs.Laws.{shares_more, rules_drop}
use Rattle.modules.proofs.Amounts.{copies_drop}
use Rattle.modules.proofs.Sums.{gather_split}
use Rattle.slack.proofs.Growing as growing
use Rattle.threshold.specs.Words.{Longest, TaskLaid, Fixed}

-- ---- the longest module of one copy

module _ (c : Chain) (t q : ℕ) where
  -- the shares with one task more
  pub shares_next : (end sum added : ℕ) → t ≤ end → sum ≡ shares c (t + 1) end q → added ≡ share c (end + 1) q → sum + added ≡ shares c (t + 1) (end + 1) q
  shares_next end sum added h e f =
      let d : end + 1 - 1 ≡ end = omega arith in
      omega (arith, e, f, rw d at (shares_more c (t + 1) (end + 1) q (omega arith) (omega arith)))

  -- what is answered of the sum with the next task's share (M-103) says whether the module keeps the rules with that task too
  pub kept_longer : (end sum added : ℕ) {kept : Bool} → t ≤ end → sum ≡ shares c (t + 1) end q → added ≡ share c (end + 1) q
      → module_rules c (t + 1) end 1 q ≡ true → kept ≡ still_kept c (end + 1) q (sum + added) → kept ≡ module_rules c (t + 1) (end + 1) 1 q
  kept_longer end sum added h e f before asked =
      let d : end + 1 - 1 ≡ end = omega arith in
      growing.kept_longer c t (end + 1) q sum added (omega arith) (rw d e) f (rw d before) asked

  -- a module that keeps the rules, and breaks one with the next task if there is one, is the longest: dropping tasks breaks none
  pub longest_stops : (l : ℕ) → t ≤ l → l ≤ c.tasks → module_rules c (t + 1) l 1 q ≡ true → (l < c.tasks → module_rules c (t + 1) (l + 1) 1 q ≡ false) → Longest c t q l
  longest_stops l later inside keeps stops = record {
    later = later;
    inside = inside;
    exact = λ e a b. ⊎_elim
        (λ h. rw (lt-leb e l h)
        (false_unless (module_rules c (t + 1) e 1 q) (λ u. rules_drop c (t + 1) e (t + 1) (l + 1) (le_refl (t + 1)) (omega arith) 1 q u)
        (λ v. true_not_false (module_rules c (t + 1) (l + 1) 1 q) v (stops (omega arith)))))
        (λ h. rw (le-leb e l h) (rules_drop c (t + 1) l (t + 1) e (le_refl (t + 1)) h 1 q keeps))
        (lt_or_le l e);
  }

-- ---- which modules may have copies

module _ (c : Chain) where
  -- a module may have two copies exactly if none of its tasks is marked
  copies_unmarked : (first last : ℕ) → copies_allowed c first last 2 ≡ true → gather (mark c) nothing first last ≡ 0
  unfolding copies_allowed
  copies_unmarked first last e = eqb-true (gather (mark c) nothing first last) 0 e

  unmarked_copies : (first last : ℕ) → gather (mark c) nothing first last ≡ 0 → copies_allowed c first last 2 ≡ true
  unfolding copies_allowed
  unmarked_copies first last e = eq-eqb (gather (mark c) nothing first last) 0 e

  -- every module from after the task t on to l may have copies
  abbrev pub Free : (t l : ℕ) → Type 0
  Free t l = (i : ℕ) → t ≤ i → i < l → copies_allowed c (i + 1) l 2 ≡ true

  -- one task more in front that may have copies leaves them so
  pub free_more : (t l : ℕ) → 1 ≤ t → t ≤ l → copies_allowed c t t 2 ≡ true → Free t l → Free (t - 1) l
  free_more t l some inside one free i a b = ⊎_elim
      (λ h.
      let e : i + 1 ≡ t = omega arith in
      rw e (⊎_elim
      (λ g. unmarked_copies t l (omega (arith, gather_split (mark c) nothing t t l (le_refl t) g, copies_unmarked t t one, copies_unmarked (t + 1) l (free t (le_refl t) g))))
      (λ g. let d : l ≡ t = omega arith in rw d one)
      (lt_or_le t l)))
      (λ h. free i h b)
      (lt_or_le i t)

  -- a task that may have no copies is the last such one: every module up to l that starts before it holds it
  pub fixed_here : (t l : ℕ) → 1 ≤ t → t ≤ l → copies_allowed c t t 2 ≡ false → Free t l → Fixed c l t
  fixed_here t l some inside one free = record {
    inside = inside;
    exact = λ i a. ⊎_elim
        (λ h. rw (lt-leb t i h)
        (false_unless (copies_allowed c (i + 1) l 2) (λ u. copies_drop c (i + 1) l t t (omega arith) inside 2 u) (λ v. true_not_false (copies_allowed c t t 2) v one)))
        (λ h. rw (le-leb t i h) (free i h a))
        (lt_or_le i t);
  }

-- ---- the words of a task

module _ (c : Chain) where
  -- the words of the tasks before t + 1 at all cores, and of t + 1 below q cores
  abbrev pub LaidUpto : List ℕ → (t q : ℕ) → Type 0
  LaidUpto w t q = (i p : ℕ) → 1 ≤ p → p ≤ c.board → i * 33 + p < t * 33 + q → TaskLaid c w i p
