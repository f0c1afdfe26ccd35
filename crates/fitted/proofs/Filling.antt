-- The costs filled in are accepted costs of the first part's board, and each is its law's value. Assumes nothing.
use mathlib.Core.Path.{◌≡◌, refl, sym, ◌∙◌}
use mathlib.Core.List.{List, [], ◌∷◌}
use mathlib.Core.Logic.{◌⊎◌, inl, inr, ⊎_elim}
use Prim.Native.Nat.{ℕ, zero, suc, ◌+◌, ◌-◌, ◌*◌, ◌/◌, ◌%◌, ◌≤◌, ◌<◌}
use native.Mathlib.Nat.{mod-lt, div-lt_iff_lt-mul}
use native.Mathlib.Omega.{arith}
use lib.ListN.{length, get_or, drop, take, length-append, length-drop, get_or-append}
use lib.Seq.{get_or-append-add, get_or-drop, take-append_seam}
use borrow.Author.Tests.{lt-ltb, le-ltb}
use Rattle.fields.specs.Fields.{value_at}
use Rattle.records.specs.declared.Board.{Board}
use Rattle.records.specs.declared.Key.{Key}
use Rattle.records.specs.Costs.{most_value, key, due_keys, due_key, count_of, board_of}
use Rattle.records.specs.Format.{Bears, InRange, due_at, IsCosts}
use Rattle.records.proofs.Cases.{lt_or_le, pos_of_lt_mul}
use Rattle.records.proofs.Listing.{keys_count, key_at}
use Rattle.records.proofs.Laws.{read_accepts}
use Rattle.lookups.proofs.Places.{due_task_lem}
use Rattle.lookups.proofs.Laws.{execution_says, internal_says, external_says}
use Rattle.fitted.specs.Fill.{law_count, record_of, records_of, records_from, all_records}
use Rattle.fitted.specs.Claims.{IsFirst, IsLaws, InBounds, Follows}
use Rattle.fitted.proofs.Keys.{no_key}
use Rattle.fitted.proofs.Walks.{length_record}
use Rattle.fitted.proofs.Dues.{due_value, due_records, all_length}
use Rattle.fitted.proofs.Stated.{place_of}

zero_or_more : (n : ℕ) → (n ≡ 0) ⊎ (1 ≤ n)
zero_or_more zero = inl refl
zero_or_more (suc n) = inr (omega arith)

-- ---- one record

-- byte j of the i-th of the records of keys
records_at : (f : Key → ℕ) (ds : List Key) (i j : ℕ) → i < length ds → j < 8
    → get_or (records_of f ds) (8 * i + j) 0 ≡ get_or (record_of (get_or ds i no_key) (f (get_or ds i no_key))) j 0
unfolding records_of
records_at f [] i j h u = absurd (omega arith)
records_at f (d ∷ ds) zero j h u =
    let e : 8 * 0 + j ≡ j = omega arith in
    rw e (get_or-append (record_of d (f d)) (records_of f ds) 0 j (omega (arith, length_record d (f d))))
records_at f (d ∷ ds) (suc i) j h u =
    let e : 8 * suc i + j ≡ length (record_of d (f d)) + (8 * i + j) = omega (arith, length_record d (f d)) in
    rw e (get_or-append-add (record_of d (f d)) (records_of f ds) (8 * i + j) 0 ∙ records_at f ds i j (omega arith) u)

-- its bytes make its value
value_bytes : (v : ℕ) → v ≤ most_value → v % 256 + 256 * (v / 256 % 256) + 65536 * (v / 65536 % 256) + 16777216 * (v / 16777216) ≡ v
value_bytes v h = omega arith

-- ---- the value of a due key is in range

module _ (l : List ℕ) (k p : ℕ) (v : InBounds l k p) where
  execution_bounded : (e : ℕ) → e < k * p → due_value l k (key 3 (e / p + 1) (e % p + 1) 0) ≤ most_value
  unfolding due_value place_of
  execution_bounded e h =
      let s = pos_of_lt_mul e k p h in
      v.executions (e / p + 1) (e % p + 1) (omega arith) (omega (arith, (div-lt_iff_lt-mul {k = p} {x = e} {y = k} s).1 h)) (omega arith) (omega (arith, mod-lt e s))

  internal_bounded : (t : ℕ) → t < (k - 1) * p → due_value l k (key 4 (t / p + 1) (t % p + 1) 0) ≤ most_value
  unfolding due_value place_of
  internal_bounded t h =
      let s = pos_of_lt_mul t (k - 1) p h in
      v.internals (t / p + 1) (t % p + 1) (omega arith) (omega (arith, (div-lt_iff_lt-mul {k = p} {x = t} {y = k - 1} s).1 h)) (omega arith) (omega (arith, mod-lt t s))

  external_bounded : (x : ℕ) → x < (k - 1) * (p * p) → due_value l k (key 5 (x / (p * p) + 1) (x % (p * p) / p + 1) (x % (p * p) % p + 1)) ≤ most_value
  unfolding due_value place_of
  external_bounded x h =
      let s = pos_of_lt_mul x (k - 1) (p * p) h in
      let y = mod-lt x s in
      let w = pos_of_lt_mul (x % (p * p)) p p y in
      v.externals (x / (p * p) + 1) (x % (p * p) / p + 1) (x % (p * p) % p + 1) (omega arith) (omega (arith, (div-lt_iff_lt-mul {k = p * p} {x = x} {y = k - 1} s).1 h))
      (omega arith) (omega (arith, (div-lt_iff_lt-mul {k = p} {x = x % (p * p)} {y = p} w).1 y)) (omega arith) (omega (arith, mod-lt (x % (p * p)) w))

  due_bounded : (n : ℕ) → 1 + k ≤ n → n < count_of k p → due_value l k (due_key k p n) ≤ most_value
  unfolding due_key count_of
  due_bounded n a u =
      rw (le-ltb (n - 1) k (omega arith)) (⊎_elim
      (λ (h : n - 1 - k < k * p). rw (lt-ltb (n - 1 - k) (k * p) h) (execution_bounded (n - 1 - k) h))
      (λ (g : k * p ≤ n - 1 - k). rw (le-ltb (n - 1 - k) (k * p) g) (⊎_elim
      (λ (h : n - 1 - k - k * p < (k - 1) * p). rw (lt-ltb (n - 1 - k - k * p) ((k - 1) * p) h) (internal_bounded (n - 1 - k - k * p) h))
      (λ (j : (k - 1) * p ≤ n - 1 - k - k * p). rw (le-ltb (n - 1 - k - k * p) ((k - 1) * p) j) (external_bounded (n - 1 - k - k * p - (k - 1) * p) (omega arith)))
      (lt_or_le (n - 1 - k - k * p) ((k - 1) * p))))
      (lt_or_le (n - 1 - k) (k * p)))

-- ---- the whole

module _ (head l : List ℕ) (b : Board) (first : IsFirst head b) (laws : IsLaws l b.tasks) (bounds : InBounds l b.tasks b.cores) where
  k : ℕ
  k = b.tasks

  p : ℕ
  p = b.cores

  s : List ℕ
  unfolding k p
  s = all_records head l k p

  records : List ℕ
  unfolding k p
  records = records_from l p 0 (law_count k)

  pub all_long : length (all_records head l b.tasks b.cores) ≡ 8 * count_of b.tasks b.cores
  unfolding s all_records records k p
  all_long = omega (arith, length-append head records, first.long, all_length l k p first.ranged.some_tasks laws)

  all_first : take (8 * (1 + k)) s ≡ head
  unfolding s all_records records k p
  all_first = rw (← first.long) (take-append_seam head records)

  -- a record of the first part stands in it as it was
  first_byte : (i : ℕ) → i < 8 * (1 + k) → get_or s i 0 ≡ get_or head i 0
  unfolding s all_records records k p
  first_byte i h = get_or-append head records 0 i (omega (arith, first.long))

  first_value : (n : ℕ) → n ≤ k → value_at s n ≡ value_at head n
  unfolding value_at
  first_value n h =
      rw (first_byte (8 * n + 4) (omega arith), first_byte (8 * n + 5) (omega arith), first_byte (8 * n + 6) (omega arith), first_byte (8 * n + 7) (omega arith)) (refl)

  -- a later one has the due key and its law's value
  later_byte : (n j : ℕ) → 1 + k ≤ n → n < count_of k p → j < 8 → get_or s (8 * n + j) 0 ≡ get_or (record_of (due_key k p n) (due_value l k (due_key k p n))) j 0
  unfolding s all_records records k p
  later_byte n j a u h =
      let ds : List Key = drop (1 + k) (due_keys k p) in
      let e : 8 * n + j ≡ length head + (8 * (n - (1 + k)) + j) = omega (arith, first.long) in
      let long : length ds ≡ count_of k p - (1 + k) = omega (arith, length-drop (1 + k) (due_keys k p), keys_count k p) in
      let z : 1 + k + (n - (1 + k)) ≡ n = omega arith in
      let d : get_or ds (n - (1 + k)) no_key ≡ due_key k p n = get_or-drop (1 + k) (due_keys k p) (n - (1 + k)) no_key ∙ rw z (key_at k p no_key n (omega arith) u) in
      rw e (get_or-append-add head records (8 * (n - (1 + k)) + j) 0
      ∙ rw (due_records l k p first.ranged.some_tasks laws) (records_at (due_value l k) ds (n - (1 + k)) j (omega (arith, long)) h ∙ rw d (refl)))

  later_value : (n : ℕ) → 1 + k ≤ n → n < count_of k p → value_at s n ≡ due_value l k (due_key k p n)
  unfolding value_at record_of k p
  later_value n a u =
      rw (later_byte n 4 a u (omega arith), later_byte n 5 a u (omega arith), later_byte n 6 a u (omega arith), later_byte n 7 a u (omega arith))
      (value_bytes (due_value l k (due_key k p n)) (due_bounded l k p bounds n a u))

  later_bears : (n : ℕ) → 1 + k ≤ n → n < count_of k p → Bears s n (due_key k p n)
  unfolding record_of
  later_bears n a u = record {
    kind = later_byte n 0 a u (omega arith);
    task = λ _. later_byte n 1 a u (omega arith);
    a = λ _. later_byte n 2 a u (omega arith);
    b = λ _. later_byte n 3 a u (omega arith);
  }

  -- ---- accepted costs

  later_kind : (n : ℕ) → 1 + k ≤ n → 3 ≤ (due_key k p n).kind
  unfolding due_key k p
  later_kind n a =
      rw (le-ltb (n - 1) k (omega arith)) (⊎_elim
      (λ (h : n - 1 - k < k * p). rw (lt-ltb (n - 1 - k) (k * p) h) (omega arith))
      (λ (g : k * p ≤ n - 1 - k). rw (le-ltb (n - 1 - k) (k * p) g) (⊎_elim
      (λ (h : n - 1 - k - k * p < (k - 1) * p). rw (lt-ltb (n - 1 - k - k * p) ((k - 1) * p) h) (omega arith))
      (λ (h : (k - 1) * p ≤ n - 1 - k - k * p). rw (le-ltb (n - 1 - k - k * p) ((k - 1) * p) h) (omega arith))
      (lt_or_le (n - 1 - k - k * p) ((k - 1) * p))))
      (lt_or_le (n - 1 - k) (k * p)))

  first_right : (n : ℕ) → 1 ≤ n → n ≤ k → Bears s n (key 2 n 0 0) × InRange s n (key 2 n 0 0)
  unfolding k
  first_right n a u =
      let h = first.right n a (omega arith) in (
        record {
          kind = first_byte (8 * n + 0) (omega arith) ∙ h.0.kind;
          task = λ other. first_byte (8 * n + 1) (omega arith) ∙ h.0.task other;
          a = λ other. absurd (other refl);
          b = λ other. absurd (other refl);
        },
        record {
          value = rw (first_value n u) h.1.value;
          flag = λ e. rw (first_byte (8 * n + 2) (omega arith)) (h.1.flag e);
          limit = λ e. rw (first_byte (8 * n + 3) (omega arith)) (h.1.limit e);
        },
      )

  later_right : (n : ℕ) → 1 + k ≤ n → n < count_of k p → Bears s n (due_key k p n) × InRange s n (due_key k p n)
  unfolding k p
  later_right n a u = (
    later_bears n a u,
    record {
      value = rw (later_value n a u) (due_bounded l k p bounds n a u);
      flag = λ e. absurd (omega (arith, later_kind n a));
      limit = λ e. absurd (omega (arith, later_kind n a));
    },
  )

  right : (n : ℕ) → 1 ≤ n → n < count_of k p → Bears s n (due_at b n) × InRange s n (due_at b n)
  unfolding k p
  right n a u = rw (key_at k p no_key n a u) (⊎_elim
      (λ h. rw (due_task_lem k p n a (omega arith)) (first_right n a (omega arith)))
      (λ h. later_right n h u)
      (lt_or_le n (1 + k)))

  same_board : b ≡ board_of s
  unfolding k
  same_board = first.board ∙ sym (rw (first_byte 3 (omega arith), first_byte 2 (omega arith), first_value 0 (omega arith)) (refl))

  costs : IsCosts s b
  unfolding s k p
  costs = record {
    headed = record { kind = first_byte 0 (omega arith) ∙ first.headed.kind };
    board = same_board;
    ranged = first.ranged;
    long = all_long;
    right = right;
  }

  -- ---- each cost is its law's value

  says : (kind t a c n : ℕ) → 3 ≤ kind → n < count_of k p → Bears s n (key kind t a c) → value_at s n ≡ due_value l k (key kind t a c)
  unfolding due_value place_of
  says kind t a c n other u e = ⊎_elim before (λ h. after h (later_bears n h u)) (lt_or_le n (1 + k))
    where
      before : n < 1 + k → value_at s n ≡ due_value l k (key kind t a c)
      before h = ⊎_elim
          (λ (z : n ≡ 0). let f : kind ≡ 1 = sym (rw z at e.kind) ∙ costs.headed.kind in absurd (omega arith))
          (λ (z : 1 ≤ n). let f : kind ≡ 2 = sym e.kind ∙ (first_right n z (omega arith)).0.kind in absurd (omega arith))
          (zero_or_more n)

      after : 1 + k ≤ n → Bears s n (due_key k p n) → value_at s n ≡ due_value l k (key kind t a c)
      after h d =
          let other_kind : kind ≡ 2 → ⊥ = λ z. omega arith in
          let e₀ : (due_key k p n).kind ≡ kind = sym d.kind ∙ e.kind in
          let e₁ : (due_key k p n).task ≡ t = sym (d.task (λ z. omega (arith, later_kind n h))) ∙ e.task (λ z. omega arith) in
          let e₂ : (due_key k p n).a ≡ a = sym (d.a (λ z. omega (arith, later_kind n h))) ∙ e.a other_kind in
          let e₃ : (due_key k p n).b ≡ c = sym (d.b (λ z. omega (arith, later_kind n h))) ∙ e.b other_kind in
          later_value n h u ∙ rw (e₀, e₁, e₂, e₃) (refl)

  pub follows : Follows (all_records head l b.tasks b.cores) head l b
  unfolding s k p due_value place_of
  follows = record {
    reads = (read_accepts s b).1 costs;
    first_part = all_first;
    executions = λ t a x y z w. let r = execution_says s b costs t a x z w y in r.says ∙ says 3 t a 0 r.place (omega arith) r.there r.bears;
    internals = λ t a x y z w. let r = internal_says s b costs t a x z w y in r.says ∙ says 4 t a 0 r.place (omega arith) r.there r.bears;
    externals = λ t a c x y z w v q. let r = external_says s b costs t x y a c z w v q in r.says ∙ says 5 t a c r.place (omega arith) r.there r.bears;
  }
