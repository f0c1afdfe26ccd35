-- The walk along the due keys part by part: a fault in the first part decides, and behind a clean part the walk goes on; so
-- also along a run of keys, and along runs one after another. Assumes nothing.
use mathlib.Core.Path.{◌≡◌, refl, sym, ap, ◌∙◌}
use mathlib.Core.List.{List, [], ◌∷◌, ◌++◌}
use mathlib.Core.Logic.{⊎_elim}
use Prim.Native.Nat.{ℕ, suc, ◌+◌, ◌-◌, ◌*◌, ◌≤◌, ◌<◌}
use native.Mathlib.Nat.{suc-mul}
use native.Mathlib.Omega.{arith}
use lib.ListN.{length, drop}
use Rattle.std.specs.Prelude.{Result, Ok, Err}
use Rattle.records.specs.declared.refusal.Fault.{Fault}
use Rattle.records.specs.declared.refusal.Refusal.{Refusal}
use Rattle.records.specs.declared.Key.{Key}
use Rattle.records.specs.Costs.{key, each_from, join_from, each, join, due_keys, fault_at, placed, first_fault}
use Rattle.records.specs.Runs.{task_keys, row_keys, square_keys}
use Rattle.records.proofs.Cases.{fine_or_not, not_fine}
use Rattle.records.proofs.Listing.{length_each, length_join}

-- ---- two parts, of the first of which r is found

module _ (s : List ℕ) where
  fault_first : (n : ℕ) (xs ys : List Key) {x : Refusal} → first_fault s n xs ≡ Err x → first_fault s n (xs ++ ys) ≡ Err x
  unfolding first_fault
  fault_first n [] ys h = absurd (not_fine h)
  fault_first n (d ∷ ds) ys h = ⊎_elim
      (λ (t : fault_at s n d ≡ Ok tt). rw t (fault_first (n + 1) ds ys (rw t at h)))
      (λ (t : (f : Fault) × (fault_at s n d ≡ Err f)). rw t.1 (rw t.1 at h))
      (fine_or_not (fault_at s n d))

  fault_later : (n : ℕ) (xs ys : List Key) → first_fault s n xs ≡ Ok tt → first_fault s n (xs ++ ys) ≡ first_fault s (n + length xs) ys
  unfolding first_fault
  fault_later n [] ys h = let e : n + 0 ≡ n = omega arith in rw e (refl)
  fault_later n (d ∷ ds) ys h = ⊎_elim
      (λ (t : fault_at s n d ≡ Ok tt).
      let e : n + suc (length ds) ≡ n + 1 + length ds = omega arith in
      rw (t, e) (fault_later (n + 1) ds ys (rw t at h)))
      (λ (t : (f : Fault) × (fault_at s n d ≡ Err f)). absurd (not_fine (sym (rw t.1 at h))))
      (fine_or_not (fault_at s n d))

  module _ (n : ℕ) (xs ys : List Key) {r : Result Unit Refusal} (e : r ≡ first_fault s n xs) where
    pub part_found : {x : Refusal} → r ≡ Err x → Err x ≡ first_fault s n (xs ++ ys)
    part_found z = sym (fault_first n xs ys (sym e ∙ z))

    pub part_clean : (m : ℕ) → n + length xs ≡ m → r ≡ Ok tt → first_fault s n (xs ++ ys) ≡ first_fault s m ys
    part_clean m next z = fault_later n xs ys (sym e ∙ z) ∙ rw next (refl)

-- ---- a run of keys f of 1, 2, .. up to count, which the records after record `before` are to bear; i is next

pub record Running (s : List ℕ) (before count : ℕ) (f : ℕ → Key) (i : ℕ) : Type 0 where
  pub some : 1 ≤ i
  pub most : i ≤ count + 1
  pub same : first_fault s (before + 1) (each count f) ≡ first_fault s (before + i) (each_from (i - 1) (count + 1 - i) f)

module _ (s : List ℕ) (before count : ℕ) (f : ℕ → Key) where
  pub run_starts : Running s before count f 1
  run_starts =
      let e : count + 1 - 1 ≡ count = omega arith in
      record { some = omega arith; most = omega arith; same = rw e (refl) }

  pub run_ends : {i : ℕ} → Running s before count f i → count < i → Ok tt ≡ first_fault s (before + 1) (each count f)
  unfolding first_fault each_from
  run_ends {i} h l = let e : count + 1 - i ≡ 0 = omega arith in sym (h.same ∙ rw e (refl))

  module _ {i : ℕ} (h : Running s before count f i) (l : i ≤ count) where
    here : first_fault s (before + 1) (each count f) ≡ first_fault s (before + i) (f i ∷ each_from i (count - i) f)
    unfolding each_from
    here =
        let e : count + 1 - i ≡ suc (count - i) = omega arith in
        let z : i - 1 + 1 ≡ i = omega (arith, h.some) in
        h.same ∙ rw e (rw z (refl))

    pub run_found : {n : ℕ} {r : Result Unit Refusal} {x : Refusal} → n ≡ before + i → r ≡ placed (n + 1) (fault_at s n (f i)) → r ≡ Err x
        → Err x ≡ first_fault s (before + 1) (each count f)
    unfolding first_fault
    run_found {n} at e z = let found = sym e ∙ z in sym (here ∙ rw (← at) (simp found))

    pub run_next : {n : ℕ} {r : Result Unit Refusal} → n ≡ before + i → r ≡ placed (n + 1) (fault_at s n (f i)) → r ≡ Ok tt → Running s before count f (i + 1)
    unfolding first_fault
    run_next {n} at e z =
        let none : placed (before + i + 1) (fault_at s (before + i) (f i)) ≡ Ok tt = rw (← at) (sym e ∙ z) in
        let a : count + 1 - (i + 1) ≡ count - i = omega arith in
        let b : i + 1 - 1 ≡ i = omega arith in
        let d : before + (i + 1) ≡ before + i + 1 = omega arith in
        record {
          some = omega arith;
          most = omega arith;
          same = here ∙ rw (a, b, d) (simp none);
        }

-- ---- runs f of 1, 2, .. up to count, each of w keys; the records up to `done` are passed, and run t is next

pub record Joining (s : List ℕ) (before count w : ℕ) (f : ℕ → List Key) (done t : ℕ) : Type 0 where
  pub some : 1 ≤ t
  pub most : t ≤ count + 1
  pub room : done + (count + 1 - t) * w ≡ before + count * w
  pub same : first_fault s (before + 1) (join count f) ≡ first_fault s (done + 1) (join_from (t - 1) (count + 1 - t) f)

module _ (s : List ℕ) (before count w : ℕ) (f : ℕ → List Key) where
  pub joins_start : Joining s before count w f before 1
  joins_start =
      let e : count + 1 - 1 ≡ count = omega arith in
      record { some = omega arith; most = omega arith; room = rw e (refl); same = rw e (refl) }

  pub joins_end : {done t : ℕ} → Joining s before count w f done t → count < t → Ok tt ≡ first_fault s (before + 1) (join count f)
  unfolding first_fault join_from
  joins_end {done} {t} h l = let e : count + 1 - t ≡ 0 = omega arith in sym (h.same ∙ rw e (refl))

  module _ {done t : ℕ} (h : Joining s before count w f done t) (l : t ≤ count) where
    left : count + 1 - t ≡ suc (count - t)
    left = omega arith

    after : done + w + (count - t) * w ≡ before + count * w
    after = omega (arith, ap (λ (n : ℕ). n * w) left, suc-mul (count - t) w, h.room)

    pub joins_room : done + w ≤ before + count * w
    joins_room = omega (arith, after)

    turn : first_fault s (before + 1) (join count f) ≡ first_fault s (done + 1) (f t ++ join_from t (count - t) f)
    unfolding join_from
    turn =
        let z : t - 1 + 1 ≡ t = omega (arith, h.some) in
        h.same ∙ rw left (rw z (refl))

    pub joins_found : {r : Result Unit Refusal} {x : Refusal} → r ≡ first_fault s (done + 1) (f t) → r ≡ Err x → Err x ≡ first_fault s (before + 1) (join count f)
    joins_found e z = part_found s (done + 1) (f t) (join_from t (count - t) f) e z ∙ sym turn

    pub joins_next : {r : Result Unit Refusal} → length (f t) ≡ w → r ≡ first_fault s (done + 1) (f t) → r ≡ Ok tt → Joining s before count w f (done + w) (t + 1)
    joins_next long e z =
        let a : count + 1 - (t + 1) ≡ count - t = omega arith in
        let b : t + 1 - 1 ≡ t = omega arith in
        let next : done + 1 + length (f t) ≡ done + w + 1 = omega arith in
        record {
          some = omega arith;
          most = omega arith;
          room = rw a after;
          same = turn ∙ rw (a, b) (part_clean s (done + 1) (f t) (join_from t (count - t) f) e (done + w + 1) next z);
        }

-- ---- the kinds one after another: the walk goes on behind those that are clean

module _ (s : List ℕ) (k p : ℕ) where
  -- the due keys from kind 5, 4 and 3 on
  abbrev from5 : List Key
  from5 = join (k - 1) (square_keys p)

  abbrev from4 : List Key
  from4 = join (k - 1) (row_keys 4 p) ++ from5

  abbrev from3 : List Key
  from3 = join k (row_keys 3 p) ++ from4

  abbrev whole : Result Unit Refusal
  whole = first_fault s 1 (drop 1 (due_keys k p))

  module _ {r : Result Unit Refusal} (e : r ≡ first_fault s 1 (task_keys k)) where
    pub tasks_found : {x : Refusal} → r ≡ Err x → Err x ≡ whole
    unfolding due_keys
    tasks_found = part_found s 1 (task_keys k) from3 e

    pub tasks_clean : r ≡ Ok tt → whole ≡ first_fault s (k + 1) from3
    unfolding due_keys
    tasks_clean = part_clean s 1 (task_keys k) from3 e (k + 1) (omega (arith, length_each 0 k (λ t. key 2 t 0 0)))

  module _ (before : whole ≡ first_fault s (k + 1) from3) {r : Result Unit Refusal} (e : r ≡ first_fault s (k + 1) (join k (row_keys 3 p))) where
    pub executions_found : {x : Refusal} → r ≡ Err x → Err x ≡ whole
    executions_found z = part_found s (k + 1) (join k (row_keys 3 p)) from4 e z ∙ sym before

    pub executions_clean : r ≡ Ok tt → whole ≡ first_fault s (k + k * p + 1) from4
    executions_clean z =
        let long = length_join p (row_keys 3 p) (λ t. length_each 0 p (λ a. key 3 t a 0)) 0 k in
        before ∙ part_clean s (k + 1) (join k (row_keys 3 p)) from4 e (k + k * p + 1) (omega arith) z

  module _ (before : whole ≡ first_fault s (k + k * p + 1) from4) {r : Result Unit Refusal} (e : r ≡ first_fault s (k + k * p + 1) (join (k - 1) (row_keys 4 p))) where
    pub internals_found : {x : Refusal} → r ≡ Err x → Err x ≡ whole
    internals_found z = part_found s (k + k * p + 1) (join (k - 1) (row_keys 4 p)) from5 e z ∙ sym before

    pub internals_clean : r ≡ Ok tt → whole ≡ first_fault s (k + k * p + (k - 1) * p + 1) from5
    internals_clean z =
        let long = length_join p (row_keys 4 p) (λ t. length_each 0 p (λ a. key 4 t a 0)) 0 (k - 1) in
        before ∙ part_clean s (k + k * p + 1) (join (k - 1) (row_keys 4 p)) from5 e (k + k * p + (k - 1) * p + 1) (omega arith) z
