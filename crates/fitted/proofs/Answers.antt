-- What the service answers and writes, case by case. Assumes nothing.
use mathlib.Core.Path.{◌≡◌, refl, sym, ap, ◌∙◌}
use mathlib.Core.Bool.{true, false}
use mathlib.Core.List.{List, ◌++◌}
use mathlib.Core.Logic.{⊎_elim}
use Prim.Native.Nat.{ℕ, ◌+◌, ◌*◌, ◌≤◌, ◌<◌}
use native.Mathlib.Omega.{arith}
use lib.ListN.{length, drop}
use lib.Seq.{sets}
use lib.Dec.{eqb}
use borrow.Author.Tests.{ne_eqb, le-leb, lt-leb, eqb-true}
use Rattle.std.specs.Prelude.{Result, Ok, Err}
use Rattle.records.specs.declared.Board.{Board}
use Rattle.records.specs.declared.refusal.Refusal.{Refusal}
use Rattle.records.specs.declared.refusal.Refusal.TheVariants.{ShortOutput}
use Rattle.records.specs.Costs.{count_of, read_board}
use Rattle.records.specs.Refusals.{number_of}
use Rattle.records.proofs.Cases.{true_or_false, not_fine}
use Rattle.records.proofs.Refusing.{number_some}
use Rattle.fitted.specs.Fill.{tasks_fault, read_first, law_count, laws_meet, values_meet, records_from, all_records, laws_fault, answer_on, bytes_on, fill_answer, fill_bytes}
use Rattle.fitted.proofs.Stores.{sets_behind}
use Rattle.fitted.proofs.Stated.{meets_laws}
use Rattle.fitted.proofs.Dues.{all_length}

-- ---- the laws

module _ (l : List ℕ) (k p : ℕ) where
  pub fault_none : laws_fault l k p ≡ Ok tt → (laws_meet l k ≡ true) × (values_meet l p 0 (law_count k) ≡ true)
  unfolding laws_fault
  fault_none e = ⊎_elim
      (λ (t : laws_meet l k ≡ true). ⊎_elim
      (λ u. (t, u))
      (λ (u : values_meet l p 0 (law_count k) ≡ false). absurd (not_fine (sym (rw (t, u) at e))))
      (true_or_false (values_meet l p 0 (law_count k))))
      (λ (t : laws_meet l k ≡ false). absurd (not_fine (sym (rw t at e))))
      (true_or_false (laws_meet l k))

-- ---- on a board

module _ (head l : List ℕ) (k p : ℕ) (out : List ℕ) where
  pub refuse_on : {e : Refusal} → laws_fault l k p ≡ Err e → (Err e ≡ answer_on l k p out) × (out ≡ bytes_on head l k p out)
  unfolding answer_on bytes_on
  refuse_on {e} h = (rw h refl, rw h (simp (ne_eqb (number_of e) 0 (number_some e))))

  module _ (e : laws_fault l k p ≡ Ok tt) where
    pub short_on : length out < 8 * count_of k p → (Err ShortOutput ≡ answer_on l k p out) × (out ≡ bytes_on head l k p out)
    unfolding answer_on bytes_on
    short_on n = (rw e (simp (lt-leb (8 * count_of k p) (length out) n)), rw e (simp (lt-leb (8 * count_of k p) (length out) n)))

    pub filled_on : 8 * count_of k p ≤ length out → {x : List ℕ} {bytes : ℕ} → bytes ≡ 8 * count_of k p → x ≡ all_records head l k p ++ drop (8 * count_of k p) out
        → (Ok bytes ≡ answer_on l k p out) × (x ≡ bytes_on head l k p out)
    unfolding answer_on bytes_on
    filled_on n b q = (rw (b, e) (simp (le-leb (8 * count_of k p) (length out) n)), q ∙ rw e (simp (le-leb (8 * count_of k p) (length out) n)))

  -- the first part, then the records of the laws behind it
  pub put_both : 1 ≤ k → laws_fault l k p ≡ Ok tt → length head ≡ 8 * (1 + k) → 8 * count_of k p ≤ length out → {x y : List ℕ} → x ≡ head ++ drop (length head) out
      → y ≡ sets x (8 * (1 + k)) (records_from l p 0 (law_count k)) → y ≡ all_records head l k p ++ drop (8 * count_of k p) out
  unfolding all_records
  put_both some e long n q r =
      let records : List ℕ = records_from l p 0 (law_count k) in
      let all = all_length l k p some (meets_laws l k some (fault_none l k p e).0) in
      let total : length head + length records ≡ 8 * count_of k p = omega (arith, all) in
      r ∙ rw (q, ← long) (sets_behind head records out (omega (arith, total)) ∙ ap (λ (i : ℕ). head ++ records ++ drop i out) total)

-- ---- from the first part on

module _ (head l out : List ℕ) where
  pub refuse_board : {e : Refusal} → read_board head ≡ Err e → (Err e ≡ fill_answer head l out) × (out ≡ fill_bytes head l out)
  unfolding fill_answer fill_bytes read_first
  refuse_board {e} h = (rw h refl, rw h (simp (ne_eqb (number_of e) 0 (number_some e))))

  module _ {b : Board} (h : read_board head ≡ Ok b) where
    pub refuse_tasks : {e : Refusal} → tasks_fault head b ≡ Err e → (Err e ≡ fill_answer head l out) × (out ≡ fill_bytes head l out)
    unfolding fill_answer fill_bytes read_first
    refuse_tasks {e} n = (rw (h, n) refl, rw (h, n) (simp (ne_eqb (number_of e) 0 (number_some e))))

    module _ (n : tasks_fault head b ≡ Ok tt) where
      -- the first part is accepted, with the board of its first record
      first_read : read_first head ≡ Ok b
      unfolding read_first
      first_read = rw (h, n) refl

      pub filled_first : {a : Result ℕ Refusal} {x : List ℕ} → (a ≡ answer_on l b.tasks b.cores out) × (x ≡ bytes_on head l b.tasks b.cores out)
          → (a ≡ fill_answer head l out) × (x ≡ fill_bytes head l out)
      unfolding fill_answer fill_bytes
      filled_first g = (g.0 ∙ rw first_read refl, g.1 ∙ rw first_read refl)

      pub first_length : length head ≡ 8 * (1 + b.tasks)
      unfolding tasks_fault
      first_length = ⊎_elim
          (λ t. eqb-true (length head) (8 * (1 + b.tasks)) t)
          (λ (t : eqb (length head) (8 * (1 + b.tasks)) ≡ false). absurd (not_fine (sym (rw t at n))))
          (true_or_false (eqb (length head) (8 * (1 + b.tasks))))
