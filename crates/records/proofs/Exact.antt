-- The reader's definition against document 01's direct statement: each test holds exactly where its claim does, so
-- `read_costs` finds exactly what is to be found. Assumes nothing.
use mathlib.Core.Path.{subst, ◌≡◌, refl, sym}
use mathlib.Core.List.{List}
use mathlib.Core.Bool.{true, false, not, ◌&&◌, ◌||◌}
use mathlib.Core.Logic.{⊎_elim}
use Prim.Native.Nat.{ℕ, ◌+◌, ◌*◌, ◌%◌, ◌≤◌, ◌<◌}
use native.Mathlib.Nat.{mul-mod_right}
use native.Mathlib.Omega.{arith}
use lib.ListN.{length, drop}
use lib.Dec.{eqb, leb}
use borrow.Author.Tests.{eq-eqb, ne_eqb, le-leb, eqb-true, eqb-false, leb-true}
use Rattle.fields.specs.Fields.{byte_at, value_at}
use Rattle.records.specs.declared.Board.{Board}
use Rattle.std.specs.Prelude.{Result, Ok, Err}
use Rattle.records.specs.declared.refusal.Fault.{Fault}
use Rattle.records.specs.declared.refusal.Fault.TheVariants.{WrongKey, WrongValue}
use Rattle.records.specs.declared.refusal.Refusal.{Refusal}
use Rattle.records.specs.declared.refusal.Refusal.TheVariants.{NotWhole, NoBoard, BoardRange, Faulty}
use Rattle.records.specs.Refusals.{number_in, and_then}
use Rattle.records.specs.declared.Key.{Key}
use Rattle.records.specs.Costs.{most_tasks, most_cores, most_value, due_keys, count_of, task_meets, key_meets, value_meets, fault_at, first_fault, length_meets, head_meets, board_of, board_meets, read_head, read_board, read_records, read_costs}
use Rattle.records.specs.Format.{Bears, InRange, Deserves, Deserves.right, Deserves.wrong_key, Deserves.wrong_value, Whole, Headed, Ranged, Long, due_at, RightBelow, IsCosts, Opens, Opens.board, Opens.length_wrong as opens-length, Opens.head_wrong as opens-head, Opens.board_wrong as opens-board, Framed, Finds, Finds.costs, Finds.length_wrong, Finds.head_wrong, Finds.board_wrong, Finds.count_wrong, Finds.key_wrong, Finds.value_wrong}
use Rattle.records.proofs.Cases.{not_fine, same_value, same_error, true_or_false, true_not_false, false_unless, and-true, or_right, or_unless}
use Rattle.records.proofs.Listing.{keys_count}
use Rattle.records.proofs.Walk.{fault_of, Scanned, Scanned.clean, Scanned.found, scanned, scanned_only}

-- a record at fault has one fault
keys_apart : WrongValue ≡ WrongKey → ⊥
keys_apart h = cc

-- ---- one record

module _ (s : List ℕ) (n : ℕ) (d : Key) where
  pub meets_bears : key_meets s n d ≡ true → Bears s n d
  unfolding key_meets task_meets
  meets_bears e =
      let h₂ = and-true _ _ e in
      let h₁ = and-true _ _ h₂.0 in
      record {
        kind = eqb-true _ _ h₁.0;
        task = λ other. eqb-true _ _ (or_right (eqb d.kind 1) _ h₁.1 (ne_eqb d.kind 1 other));
        a = λ other. eqb-true _ _ (both h₂.1 other).0;
        b = λ other. eqb-true _ _ (both h₂.1 other).1;
      }
    where
      both : (eqb d.kind 2 || (eqb (byte_at s n 2) d.a && eqb (byte_at s n 3) d.b)) ≡ true → (d.kind ≡ 2 → ⊥)
          → (eqb (byte_at s n 2) d.a ≡ true) × (eqb (byte_at s n 3) d.b ≡ true)
      both h other = and-true _ _ (or_right (eqb d.kind 2) _ h (ne_eqb d.kind 2 other))

  pub bears_meets : Bears s n d → key_meets s n d ≡ true
  unfolding key_meets task_meets
  bears_meets h =
      simp (eq-eqb (byte_at s n 0) d.kind h.kind, or_unless (eqb d.kind 1) (eqb (byte_at s n 1) d.task) (λ f. eq-eqb (byte_at s n 1) d.task (h.task (eqb-false d.kind 1 f))))
      (or_unless (eqb d.kind 2) (eqb (byte_at s n 2) d.a && eqb (byte_at s n 3) d.b) (λ f.
      let other = eqb-false d.kind 2 f in
      simp (eq-eqb (byte_at s n 2) d.a (h.a other), eq-eqb (byte_at s n 3) d.b (h.b other))))

  meets_in_range : value_meets s n d ≡ true → InRange s n d
  unfolding value_meets
  meets_in_range e =
      let h = and-true _ _ e in
      record {
        value = leb-true _ _ h.0;
        flag = λ two. leb-true _ _ (both h.1 two).0;
        limit = λ two. leb-true _ _ (both h.1 two).1;
      }
    where
      both : (not (eqb d.kind 2) || (leb (byte_at s n 2) 1 && leb (byte_at s n 3) most_cores)) ≡ true → d.kind ≡ 2
          → (leb (byte_at s n 2) 1 ≡ true) × (leb (byte_at s n 3) most_cores ≡ true)
      both h two = and-true _ _ (or_right (not (eqb d.kind 2)) _ h (simp (eq-eqb d.kind 2 two)))

  in_range_meets : InRange s n d → value_meets s n d ≡ true
  unfolding value_meets
  in_range_meets h =
      simp (le-leb (value_at s n) most_value h.value)
      (or_unless (not (eqb d.kind 2)) (leb (byte_at s n 2) 1 && leb (byte_at s n 3) most_cores) (λ f.
      simp (le-leb (byte_at s n 2) 1 (h.flag (two f)), le-leb (byte_at s n 3) most_cores (h.limit (two f)))))
    where
      two : not (eqb d.kind 2) ≡ false → d.kind ≡ 2
      two f = ⊎_elim (λ t. eqb-true _ _ t) (λ (t : eqb d.kind 2 ≡ false). true_not_false (not (eqb d.kind 2)) (simp t) f) (true_or_false (eqb d.kind 2))

  pub deserved : Deserves s n d (fault_at s n d)
  unfolding fault_at
  deserved = ⊎_elim
      (λ (t : key_meets s n d ≡ true). ⊎_elim
      (λ (u : value_meets s n d ≡ true). rw (t, u) (right (meets_bears t) (meets_in_range u)))
      (λ (u : value_meets s n d ≡ false). rw (t, u) (wrong_value (meets_bears t) (λ r. true_not_false _ (in_range_meets r) u)))
      (true_or_false (value_meets s n d)))
      (λ (t : key_meets s n d ≡ false). rw t (wrong_key (λ b. true_not_false _ (bears_meets b) t)))
      (true_or_false (key_meets s n d))

  pub deserved_only : (f : Result Unit Fault) → Deserves s n d f → fault_at s n d ≡ f
  unfolding fault_at
  deserved_only f (right b r) = simp (bears_meets b, in_range_meets r)
  deserved_only f (wrong_key b) = simp (false_unless (key_meets s n d) meets_bears b)
  deserved_only f (wrong_value b r) = simp (bears_meets b, false_unless (value_meets s n d) meets_in_range r)

  pub no_fault_right : fault_at s n d ≡ Ok tt → Bears s n d × InRange s n d
  no_fault_right e = none (fault_at s n d) deserved e
    where
      none : (f : Result Unit Fault) → Deserves s n d f → f ≡ Ok tt → Bears s n d × InRange s n d
      none f (right b r) z = (b, r)
      none f (wrong_key b) z = absurd (not_fine (sym z))
      none f (wrong_value b r) z = absurd (not_fine (sym z))

-- ---- what stands before the walk

meets_whole : (s : List ℕ) → length_meets s ≡ true → Whole s
unfolding length_meets
meets_whole s e = let h = and-true _ _ e in record { some = leb-true _ _ h.0; whole = eqb-true _ _ h.1 }

whole_meets : (s : List ℕ) → Whole s → length_meets s ≡ true
unfolding length_meets
whole_meets s h = simp (le-leb 8 (length s) h.some, eq-eqb (length s % 8) 0 h.whole)

meets_headed : (s : List ℕ) → head_meets s ≡ true → Headed s
unfolding head_meets
meets_headed s e = record { kind = eqb-true _ _ e }

headed_meets : (s : List ℕ) → Headed s → head_meets s ≡ true
unfolding head_meets
headed_meets s h = eq-eqb (byte_at s 0 0) 1 h.kind

pub meets_ranged : (b : Board) → board_meets b ≡ true → Ranged b
unfolding board_meets
meets_ranged b e =
    let h₅ = and-true _ _ e in
    let h₄ = and-true _ _ h₅.0 in
    let h₃ = and-true _ _ h₄.0 in
    let h₂ = and-true _ _ h₃.0 in
    let h₁ = and-true _ _ h₂.0 in
    record {
      one_core = leb-true _ _ h₁.0;
      cores_most = leb-true _ _ h₁.1;
      some_tasks = leb-true _ _ h₂.1;
      tasks_most = leb-true _ _ h₃.1;
      some_capacity = leb-true _ _ h₄.1;
      most_capacity = leb-true _ _ h₅.1;
    }

ranged_meets : (b : Board) → Ranged b → board_meets b ≡ true
unfolding board_meets
ranged_meets b h =
    simp (
      le-leb 1 b.cores h.one_core,
      le-leb b.cores most_cores h.cores_most,
      le-leb 1 b.tasks h.some_tasks,
      le-leb b.tasks most_tasks h.tasks_most,
      le-leb 1 b.capacity h.some_capacity,
      le-leb b.capacity most_value h.most_capacity,
    )

pub some_records : (k p : ℕ) → 1 ≤ count_of k p
unfolding count_of
some_records k p = omega arith

-- ---- what reading finds is to be found

module _ (s : List ℕ) where
  b : Board
  b = board_of s

  keys : List Key
  unfolding b
  keys = due_keys b.tasks b.cores

  right_below : (n : ℕ) → ((i : ℕ) → 1 ≤ i → i < n → fault_of s keys i ≡ Ok tt) → RightBelow s b n
  unfolding keys b
  right_below n h i l u = no_fault_right s i (due_at b i) (h i l u)

  walked : Framed s → (f : Result Unit Refusal) → Scanned s keys 1 f → Finds s (and_then (λ u. Ok b) f)
  unfolding keys b
  walked g f (clean h) =
      costs b (record {
        headed = g.headed;
        board = refl;
        ranged = g.ranged;
        long = g.long;
        right = right_below (count_of b.tasks b.cores) (λ i l u. h i l (omega (arith, keys_count b.tasks b.cores)));
      })
  walked g f (found i l u h x z) = faulty x (subst (λ (y : Result Unit Fault). Deserves s i (due_at b i) y) z (deserved s i (due_at b i)))
    where
      inside : i < count_of b.tasks b.cores
      inside = omega (arith, keys_count b.tasks b.cores)

      faulty : (f : Fault) → Deserves s i (due_at b i) (Err f) → Finds s (Err (Faulty f (i + 1)))
      faulty f d = decided (Err f) f d refl
        where
          decided : (y : Result Unit Fault) (f : Fault) → Deserves s i (due_at b i) y → y ≡ Err f → Finds s (Err (Faulty f (i + 1)))
          decided y f (right c r) e = absurd (not_fine e)
          decided y WrongKey (wrong_key c) e = key_wrong i g l inside (right_below i h) c
          decided y WrongValue (wrong_key c) e = absurd (keys_apart (sym (same_error e)))
          decided y WrongValue (wrong_value c r) e = value_wrong i g l inside (right_below i h) c r
          decided y WrongKey (wrong_value c r) e = absurd (keys_apart (same_error e))

  long_finds : Whole s → Headed s → Ranged b → Finds s (read_records s b)
  unfolding read_records keys b
  long_finds w h r = ⊎_elim
      (λ t. rw t (walked (record { whole = w; headed = h; ranged = r; long = eqb-true _ _ t }) (first_fault s 1 (drop 1 keys))
      (scanned s keys 1 (omega (arith, keys_count b.tasks b.cores, some_records b.tasks b.cores)))))
      (λ t. rw t (count_wrong w h r (eqb-false _ _ t)))
      (true_or_false (eqb (length s) (8 * count_of b.tasks b.cores)))

  head_opens : Whole s → Opens s (read_head s)
  unfolding read_head b
  head_opens w = ⊎_elim
      (λ (t : head_meets s ≡ true). ⊎_elim
      (λ (u : board_meets b ≡ true). rw (t, u) (board w (meets_headed s t) (meets_ranged b u)))
      (λ (u : board_meets b ≡ false). rw (t, u) (opens-board w (meets_headed s t) (λ r. true_not_false _ (ranged_meets b r) u)))
      (true_or_false (board_meets b)))
      (λ t. rw t (opens-head w (λ h. true_not_false _ (headed_meets s h) t)))
      (true_or_false (head_meets s))

  pub opens : Opens s (read_board s)
  unfolding read_board
  opens = ⊎_elim
      (λ t. rw t (head_opens (meets_whole s t)))
      (λ t. rw t (opens-length (λ w. true_not_false _ (whole_meets s w) t)))
      (true_or_false (length_meets s))

  pub opens_only : (r : Result Board Refusal) → Opens s r → read_board s ≡ r
  unfolding b read_head read_board
  opens_only r (board w h g) = simp (whole_meets s w, headed_meets s h, ranged_meets b g)
  opens_only r (opens-length w) = simp (false_unless (length_meets s) (meets_whole s) w)
  opens_only r (opens-head w h) = simp (whole_meets s w, false_unless (head_meets s) (meets_headed s) h)
  opens_only r (opens-board w h g) = simp (whole_meets s w, headed_meets s h, false_unless (board_meets b) (meets_ranged b) g)

  pub opens_ranged : {c : Board} → read_board s ≡ Ok c → Ranged c
  opens_ranged {c} e = ranged (read_board s) opens e
    where
      ranged : (r : Result Board Refusal) → Opens s r → r ≡ Ok c → Ranged c
      ranged r (board w h g) z = subst Ranged (same_value z) g
      ranged r (opens-length w) z = absurd (not_fine (sym z))
      ranged r (opens-head w h) z = absurd (not_fine (sym z))
      ranged r (opens-board w h g) z = absurd (not_fine (sym z))

  -- what follows the first record, or its refusal
  after : (r : Result Board Refusal) → Opens s r → Finds s (and_then (read_records s) r)
  unfolding b
  after r (board w h g) = long_finds w h g
  after r (opens-length w) = length_wrong w
  after r (opens-head w h) = head_wrong w h
  after r (opens-board w h g) = board_wrong w h g

  pub reads : Finds s (read_costs s)
  unfolding read_costs
  reads = after (read_board s) opens

  -- ---- what is to be found, reading finds

  framed_reads : (f : Result Unit Refusal) → Framed s → Scanned s keys 1 f → read_costs s ≡ and_then (λ u. Ok b) f
  unfolding read_costs read_records keys b
  framed_reads f g h =
      let e = scanned_only s keys 1 f (omega (arith, keys_count b.tasks b.cores, some_records b.tasks b.cores)) h in
      simp (opens_only (Ok b) (board g.whole g.headed g.ranged), eq-eqb (length s) (8 * count_of b.tasks b.cores) g.long, e)

  costs_whole : Long s b → Whole s
  unfolding b
  costs_whole h = record { some = omega (arith, some_records b.tasks b.cores); whole = rw h (mul-mod_right 8 (count_of b.tasks b.cores)) }

  costs_reads : IsCosts s b → read_costs s ≡ Ok b
  unfolding keys b
  costs_reads c =
      framed_reads (Ok tt) (record { whole = costs_whole c.long; headed = c.headed; ranged = c.ranged; long = c.long })
      (clean (λ i l u. let r = c.right i l (omega (arith, keys_count b.tasks b.cores)) in deserved_only s i (due_at b i) (Ok tt) (right r.0 r.1)))

  -- the first record of accepted costs says their board
  pub costs_board : (c : Board) → IsCosts s c → read_board s ≡ Ok c
  unfolding b
  costs_board c h =
      let g = rw h.board at h in
      rw h.board (opens_only (Ok b) (board (costs_whole g.long) g.headed g.ranged))

  module _ (n : ℕ) (g : Framed s) (l : 1 ≤ n) (u : n < count_of b.tasks b.cores) (before : RightBelow s b n) where
    fault_reads : (f : Fault) → fault_at s n (due_at b n) ≡ Err f → read_costs s ≡ Err (Faulty f (n + 1))
    unfolding keys b
    fault_reads f e =
        framed_reads (Err (Faulty f (n + 1))) g
        (found n l (omega (arith, keys_count b.tasks b.cores))
        (λ j p q. let r = before j p q in deserved_only s j (due_at b j) (Ok tt) (right r.0 r.1)) f e)

  pub reads_only : (r : Result Board Refusal) → Finds s r → read_costs s ≡ r
  unfolding b read_costs read_records
  reads_only r (costs c h) = rw h.board (costs_reads (rw h.board at h))
  reads_only r (length_wrong w) = simp (opens_only (Err NotWhole) (opens-length w))
  reads_only r (head_wrong w h) = simp (opens_only (Err NoBoard) (opens-head w h))
  reads_only r (board_wrong w h g) = simp (opens_only (Err BoardRange) (opens-board w h g))
  reads_only r (count_wrong w h g c) = simp (opens_only (Ok b) (board w h g), ne_eqb (length s) (8 * count_of b.tasks b.cores) c)
  reads_only r (key_wrong n g l u before k) = fault_reads n g l u before WrongKey (deserved_only s n (due_at b n) (Err WrongKey) (wrong_key k))
  reads_only r (value_wrong n g l u before k v) = fault_reads n g l u before WrongValue (deserved_only s n (due_at b n) (Err WrongValue) (wrong_value k v))

  pub finds_costs : {c : Board} (r : Result Board Refusal) → Finds s r → r ≡ Ok c → IsCosts s c
  finds_costs r (costs d h) e = subst (IsCosts s) (same_value e) h
  finds_costs r (length_wrong w) e = absurd (not_fine (sym e))
  finds_costs r (head_wrong w h) e = absurd (not_fine (sym e))
  finds_costs r (board_wrong w h g) e = absurd (not_fine (sym e))
  finds_costs r (count_wrong w h g c) e = absurd (not_fine (sym e))
  finds_costs r (key_wrong n g l u before k) e = absurd (not_fine (sym e))
  finds_costs r (value_wrong n g l u before k v) e = absurd (not_fine (sym e))

  pub finds_most : (r : Result Board Refusal) → Finds s r → number_in r ≤ 6
  finds_most r (costs c h) = omega arith
  finds_most r (length_wrong w) = omega arith
  finds_most r (head_wrong w h) = omega arith
  finds_most r (board_wrong w h g) = omega arith
  finds_most r (count_wrong w h g c) = omega arith
  finds_most r (key_wrong n g l u before k) = omega arith
  finds_most r (value_wrong n g l u before k v) = omega arith
