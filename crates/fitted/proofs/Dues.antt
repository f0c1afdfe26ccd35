-- The records of all laws, one law after another, are the cost records that are due after the first part: the same keys in the same
-- order, each with its law's value. Assumes nothing.
use mathlib.Core.Path.{◌≡◌, refl, sym, ap, ◌∙◌}
use mathlib.Core.List.{List, [], ◌∷◌, ◌++◌, append_assoc, append-nil}
use Prim.Native.Nat.{ℕ, zero, suc, ◌+◌, ◌-◌, ◌*◌, ◌≤◌, ◌<◌}
use native.Mathlib.Omega.{arith}
use lib.ListN.{length, get_or, drop, length-drop}
use lib.Seq.{drop_at}
use Rattle.records.specs.declared.Key.{Key}
use Rattle.records.specs.Costs.{key, each, join, join_from, due_keys, count_of}
use Rattle.records.proofs.Bounds.{place_bound}
use Rattle.records.proofs.Listing.{length_each, keys_count}
use Rattle.laws.specs.Laws.{law_at}
use Rattle.laws.specs.Form.{law_of, cost_at}
use Rattle.fitted.specs.Fill.{law_count, cost_keys, value_by, record_of, records_of, cost_records, records_from}
use Rattle.fitted.specs.Claims.{IsLaws}
use Rattle.fitted.proofs.Keys.{no_key, cost_count_lem, cost_key}
use Rattle.fitted.proofs.Walks.{length_records}
use Rattle.fitted.proofs.Stated.{place_of, execution_at_lem, internal_at_lem, external_at}

-- ---- records of keys

records_append : (f : Key → ℕ) (xs ys : List Key) → records_of f (xs ++ ys) ≡ records_of f xs ++ records_of f ys
unfolding records_of
records_append f [] ys = refl
records_append f (d ∷ xs) ys =
    ap (λ (t : List ℕ). record_of d (f d) ++ t) (records_append f xs ys) ∙ sym (append_assoc (record_of d (f d)) (records_of f xs) (records_of f ys))

same_records : (f g : Key → ℕ) (ds : List Key) → ((j : ℕ) → j < length ds → f (get_or ds j no_key) ≡ g (get_or ds j no_key)) → records_of f ds ≡ records_of g ds
unfolding records_of
same_records f g [] h = refl
same_records f g (d ∷ ds) h = rw (h 0 (omega arith), same_records f g ds (λ j b. h (suc j) (omega arith))) (refl)

-- ---- costs of one kind, one after another

module _ (l : List ℕ) (p : ℕ) (f : Key → ℕ) (kind : ℕ) where
  -- f gives the value of law record m for its keys, which have that kind
  Gives : ℕ → Type 0
  Gives m = ((cost_at l m).kind ≡ kind) × ((a b : ℕ) → f (key kind (cost_at l m).task a b) ≡ law_at (cost_at l m).law a b)

  cost_same : (m : ℕ) → Gives m → cost_records (cost_at l m) p ≡ records_of f (cost_keys kind (cost_at l m).task p)
  unfolding Gives
  cost_same m g =
      let c = cost_at l m in
      rw g.0 (same_records (value_by c.law) f (cost_keys kind c.task p) (λ j b.
      let e = cost_key kind c.task p j (omega (arith, cost_count_lem kind c.task p)) in rw e (sym (g.1 _ _))))

  section : (n i t rest : ℕ) → ((m : ℕ) → i ≤ m → m < i + n → ((cost_at l m).task + i ≡ m + t + 1) × Gives m)
      → records_from l p i (n + rest) ≡ records_of f (join_from t n (λ u. cost_keys kind u p)) ++ records_from l p (i + n) rest
  unfolding records_from records_of join_from
  section zero i t rest h =
      let e : 0 + rest ≡ rest = omega arith in
      let z : i + 0 ≡ i = omega arith in
      rw (e, z) (refl)
  section (suc n) i t rest h =
      let e : suc n + rest ≡ suc (n + rest) = omega arith in
      let z : i + suc n ≡ i + 1 + n = omega arith in
      let here = h i (omega arith) (omega arith) in
      let u : (cost_at l i).task ≡ t + 1 = omega (arith, here.0) in
      let more = section n (i + 1) (t + 1) rest (λ m a b. let g = h m (omega arith) (omega arith) in (omega (arith, g.0), g.1)) in
      rw (e, z, more, cost_same i here.1, u, records_append f (cost_keys kind (t + 1) p) (join_from (t + 1) n (λ v. cost_keys kind v p)))
      (sym (append_assoc (records_of f (cost_keys kind (t + 1) p)) (records_of f (join_from (t + 1) n (λ v. cost_keys kind v p))) (records_from l p (i + 1 + n) rest)))

-- ---- all costs

-- the value that is due for a key: that of the law of its kind and task
unfoldable pub due_value : List ℕ → ℕ → Key → ℕ
due_value l k d = law_at (law_of l (place_of k d.kind d.task)) d.a d.b

-- the keys that are due after the first part
after_first : (k p : ℕ) → drop (1 + k) (due_keys k p)
    ≡ join k (λ t. cost_keys 3 t p) ++ (join (k - 1) (λ t. cost_keys 4 t p) ++ join (k - 1) (λ t. cost_keys 5 t p))
unfolding due_keys cost_keys
after_first k p =
    let e : 1 + k ≡ suc k = omega arith in
    rw e (drop_at (each k (λ t. key 2 t 0 0)) _ k (length_each 0 k (λ t. key 2 t 0 0)))

pub count_bound : (k p : ℕ) → k < 256 → p < 256 → count_of k p < 33554432
unfolding count_of
count_bound k p h i = place_bound {t = k} h i h

pub count_more : (k p : ℕ) → 1 + k ≤ count_of k p
unfolding count_of
count_more k p = omega arith

module _ (l : List ℕ) (k p : ℕ) (some : 1 ≤ k) (h : IsLaws l k) where
  execution_gives : (m : ℕ) → 0 ≤ m → m < 0 + k → ((cost_at l m).task + 0 ≡ m + 0 + 1) × Gives l p (due_value l k) 3 m
  unfolding cost_at Gives due_value place_of
  execution_gives m a b =
      let s = execution_at_lem l k h m (omega arith) in
      let z : m + 1 - 1 ≡ m = omega arith in
      (omega (arith, s.task_is), (s.kind_is, λ x y. rw (s.task_is, z) (refl)))

  internal_gives : (m : ℕ) → 0 + k ≤ m → m < 0 + k + (k - 1) → ((cost_at l m).task + (0 + k) ≡ m + 0 + 1) × Gives l p (due_value l k) 4 m
  unfolding cost_at Gives due_value place_of
  internal_gives m a b =
      let s = internal_at_lem l k h m (omega arith) (omega arith) in
      let z : k + (m - k + 1 - 1) ≡ m = omega arith in
      (omega (arith, s.task_is), (s.kind_is, λ x y. rw (s.task_is, z) (refl)))

  external_gives : (m : ℕ) → 0 + k + (k - 1) ≤ m → m < 0 + k + (k - 1) + (k - 1) → ((cost_at l m).task + (0 + k + (k - 1)) ≡ m + 0 + 1) × Gives l p (due_value l k) 5 m
  unfolding cost_at Gives due_value place_of
  external_gives m a b =
      let s = external_at l k h m (k + (k - 1)) refl (omega arith) (omega arith) in
      let z : k + (k - 1) + (m - (k + (k - 1)) + 1 - 1) ≡ m = omega arith in
      (omega (arith, s.task_is), (s.kind_is, λ x y. rw (s.task_is, z) (refl)))

  pub due_records : records_from l p 0 (law_count k) ≡ records_of (due_value l k) (drop (1 + k) (due_keys k p))
  unfolding records_from
  due_records =
      let f : Key → ℕ = due_value l k in
      let x : List Key = join k (λ t. cost_keys 3 t p) in
      let y : List Key = join (k - 1) (λ t. cost_keys 4 t p) in
      let z : List Key = join (k - 1) (λ t. cost_keys 5 t p) in
      let e : law_count k ≡ k + (k - 1 + (k - 1 + 0)) = omega arith in
      rw (e, after_first k p, records_append f x (y ++ z), records_append f y z)
      (section l p f 3 k 0 0 (k - 1 + (k - 1 + 0)) execution_gives
      ∙ ap (λ (t : List ℕ). records_of f x ++ t)
      (section l p f 4 (k - 1) (0 + k) 0 (k - 1 + 0) internal_gives
      ∙ ap (λ (t : List ℕ). records_of f y ++ t) (section l p f 5 (k - 1) (0 + k + (k - 1)) 0 0 external_gives ∙ append-nil (records_of f z))))

  pub all_length : 8 * (1 + k) + length (records_from l p 0 (law_count k)) ≡ 8 * count_of k p
  all_length =
      rw due_records
      (omega (arith, length_records (due_value l k) (drop (1 + k) (due_keys k p)), length-drop (1 + k) (due_keys k p), keys_count k p, count_more k p))
