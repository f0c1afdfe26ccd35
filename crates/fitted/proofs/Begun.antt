-- Reading the first part against M-101's direct statement: it finds exactly what is to be found. Assumes nothing.
use mathlib.Core.Path.{◌≡◌, refl, sym, subst, ◌∙◌}
use mathlib.Core.Bool.{true, false}
use mathlib.Core.List.{List}
use mathlib.Core.Logic.{⊎_elim}
use Prim.Native.Nat.{ℕ, ◌+◌, ◌*◌, ◌≤◌, ◌<◌}
use native.Mathlib.Nat.{mul-mod_right}
use native.Mathlib.Omega.{arith}
use lib.ListN.{length, drop}
use lib.Dec.{eqb}
use borrow.Author.Tests.{eq-eqb, ne_eqb, eqb-true, eqb-false}
use Rattle.std.specs.Prelude.{Result, Ok, Err}
use Rattle.records.specs.declared.Board.{Board}
use Rattle.records.specs.declared.Key.{Key}
use Rattle.records.specs.declared.refusal.Fault.{Fault}
use Rattle.records.specs.declared.refusal.Fault.TheVariants.{WrongKey, WrongValue}
use Rattle.records.specs.declared.refusal.Refusal.{Refusal}
use Rattle.records.specs.declared.refusal.Refusal.TheVariants.{NotWhole, NoBoard, BoardRange, Faulty}
use Rattle.records.specs.Refusals.{and_then}
use Rattle.records.specs.Costs.{key, fault_at, first_fault, board_of, read_board}
use Rattle.records.specs.Format.{Deserves, Deserves.right, Deserves.wrong_key, Deserves.wrong_value, Whole, Headed, Ranged, Opens, Opens.board, Opens.length_wrong, Opens.head_wrong, Opens.board_wrong}
use Rattle.records.proofs.Cases.{true_or_false, not_fine, same_value, same_error}
use Rattle.records.proofs.Exact.{deserved, deserved_only, no_fault_right, opens, opens_only}
use Rattle.records.proofs.Walk.{fault_of, Scanned, Scanned.clean, Scanned.found, scanned, scanned_only}
use Rattle.fitted.specs.Fill.{tasks_fault, read_first}
use Rattle.fitted.specs.Claims.{TasksBelow, IsFirst, Begun, FirstFinds, FirstFinds.first, FirstFinds.opening_wrong, FirstFinds.count_wrong, FirstFinds.key_wrong, FirstFinds.value_wrong}
use Rattle.fitted.proofs.Parts.{listed, listed_count, listed_fault}

module _ (s : List ℕ) where
  b : Board
  b = board_of s

  keys : List Key
  unfolding b
  keys = listed b.tasks

  long_keys : length keys ≡ 1 + b.tasks
  unfolding keys
  long_keys = listed_count b.tasks

  fault_of_lem : (n : ℕ) → 1 ≤ n → n ≤ b.tasks → fault_of s keys n ≡ fault_at s n (key 2 n 0 0)
  unfolding keys
  fault_of_lem = listed_fault s b.tasks

  -- ---- what reading finds is to be found

  tasks_below : (n : ℕ) → n ≤ 1 + b.tasks → ((i : ℕ) → 1 ≤ i → i < n → fault_of s keys i ≡ Ok tt) → TasksBelow s n
  tasks_below n m h i l u = no_fault_right s i (key 2 i 0 0) (sym (fault_of_lem i l (omega arith)) ∙ h i l u)

  walked : Begun s → (f : Result Unit Refusal) → Scanned s keys 1 f → FirstFinds s (and_then (λ u. Ok b) f)
  unfolding b
  walked g f (clean h) =
      first b (record {
        headed = g.headed;
        board = refl;
        ranged = g.ranged;
        long = g.long;
        right = tasks_below (1 + b.tasks) (omega arith) (λ i l u. h i l (omega (arith, long_keys)));
      })
  walked g f (found i l u h x z) = decided (fault_at s i (key 2 i 0 0)) x (deserved s i (key 2 i 0 0)) (sym (fault_of_lem i l inside) ∙ z)
    where
      inside : i ≤ b.tasks
      inside = omega (arith, long_keys)

      before : TasksBelow s i
      before = tasks_below i (omega (arith, inside)) h

      decided : (y : Result Unit Fault) (f : Fault) → Deserves s i (key 2 i 0 0) y → y ≡ Err f → FirstFinds s (Err (Faulty f (i + 1)))
      decided y f (right c r) e = absurd (not_fine e)
      decided y f (wrong_key c) e = subst (λ (x : Fault). FirstFinds s (Err (Faulty x (i + 1)))) (same_error e) (key_wrong i g l inside before c)
      decided y f (wrong_value c r) e = subst (λ (x : Fault). FirstFinds s (Err (Faulty x (i + 1)))) (same_error e) (value_wrong i g l inside before c r)

  tasks_finds : Whole s → Headed s → Ranged b → FirstFinds s (and_then (λ u. Ok b) (tasks_fault s b))
  unfolding tasks_fault keys b
  tasks_finds w h r = ⊎_elim
      (λ (t : eqb (length s) (8 * (1 + b.tasks)) ≡ true). rw t (walked (record { headed = h; ranged = r; long = eqb-true _ _ t }) (first_fault s 1 (drop 1 keys)) (scanned s keys 1 (omega (arith, long_keys)))))
      (λ (t : eqb (length s) (8 * (1 + b.tasks)) ≡ false). rw t (count_wrong w h r (eqb-false _ _ t)))
      (true_or_false (eqb (length s) (8 * (1 + b.tasks))))

  after : (r : Result Board Refusal) → Opens s r → FirstFinds s (and_then (λ c. and_then (λ u. Ok c) (tasks_fault s c)) r)
  unfolding b
  after r (board w h g) = tasks_finds w h g
  after r (length_wrong w) = opening_wrong NotWhole (length_wrong w)
  after r (head_wrong w h) = opening_wrong NoBoard (head_wrong w h)
  after r (board_wrong w h g) = opening_wrong BoardRange (board_wrong w h g)

  pub finds : FirstFinds s (read_first s)
  unfolding read_first
  finds = after (read_board s) (opens s)

  -- ---- what is to be found, reading finds

  begun_whole : Begun s → Whole s
  begun_whole g = record { some = omega (arith, g.long); whole = rw g.long (mul-mod_right 8 (1 + (board_of s).tasks)) }

  begun_reads : (f : Result Unit Refusal) → Begun s → Scanned s keys 1 f → read_first s ≡ and_then (λ u. Ok b) f
  unfolding read_first tasks_fault keys b
  begun_reads f g h =
      let e = scanned_only s keys 1 f (omega (arith, long_keys)) h in
      simp (opens_only s (Ok b) (board (begun_whole g) g.headed g.ranged), eq-eqb (length s) (8 * (1 + b.tasks)) g.long, e)

  first_reads : IsFirst s b → read_first s ≡ Ok b
  unfolding b
  first_reads c =
      begun_reads (Ok tt) (record { headed = c.headed; ranged = c.ranged; long = c.long })
      (clean (λ i l u. let r = c.right i l (omega (arith, long_keys)) in fault_of_lem i l (omega (arith, long_keys)) ∙ deserved_only s i (key 2 i 0 0) (Ok tt) (right r.0 r.1)))

  module _ (n : ℕ) (g : Begun s) (l : 1 ≤ n) (u : n ≤ b.tasks) (before : TasksBelow s n) where
    fault_reads : (f : Fault) → fault_at s n (key 2 n 0 0) ≡ Err f → read_first s ≡ Err (Faulty f (n + 1))
    fault_reads f e =
        begun_reads (Err (Faulty f (n + 1))) g
        (found n l (omega (arith, long_keys)) (λ j p q. let r = before j p q in fault_of_lem j p (omega arith) ∙ deserved_only s j (key 2 j 0 0) (Ok tt) (right r.0 r.1))
        f (fault_of_lem n l u ∙ e))

  pub finds_only : (r : Result Board Refusal) → FirstFinds s r → read_first s ≡ r
  unfolding b read_first tasks_fault
  finds_only r (first c h) = rw h.board (first_reads (rw h.board at h))
  finds_only r (opening_wrong e o) = rw (opens_only s (Err e) o) refl
  finds_only r (count_wrong w h g c) = rw (opens_only s (Ok b) (board w h g)) (simp (ne_eqb (length s) (8 * (1 + b.tasks)) c))
  finds_only r (key_wrong n g l u before k) = fault_reads n g l u before WrongKey (deserved_only s n (key 2 n 0 0) (Err WrongKey) (wrong_key k))
  finds_only r (value_wrong n g l u before k v) = fault_reads n g l u before WrongValue (deserved_only s n (key 2 n 0 0) (Err WrongValue) (wrong_value k v))

  -- a board that is found is a first part's
  pub finds_first : {c : Board} (r : Result Board Refusal) → FirstFinds s r → r ≡ Ok c → IsFirst s c
  finds_first r (first d h) e = subst (IsFirst s) (same_value e) h
  finds_first r (opening_wrong x o) e = absurd (not_fine (sym e))
  finds_first r (count_wrong w h g c) e = absurd (not_fine (sym e))
  finds_first r (key_wrong n g l u before k) e = absurd (not_fine (sym e))
  finds_first r (value_wrong n g l u before k v) e = absurd (not_fine (sym e))
