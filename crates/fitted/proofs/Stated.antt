-- The test of a chain's laws against M-101's direct statement: it holds exactly where each record is the law that is due. Assumes nothing.
use mathlib.Core.Path.{◌≡◌, refl, sym, subst, ◌∙◌}
use mathlib.Core.Bool.{true, cond}
use mathlib.Core.List.{List, [], ◌∷◌}
use mathlib.Core.Logic.{⊎_elim}
use Prim.Native.Nat.{ℕ, zero, suc, ◌+◌, ◌-◌, ◌*◌, ◌≤◌, ◌<◌}
use native.Mathlib.Omega.{arith}
use lib.ListN.{length, get_or}
use lib.Dec.{eqb}
use borrow.Author.Tests.{eq-eqb, eqb-true, lt-ltb, le-ltb}
use Rattle.records.specs.declared.Key.{Key}
use Rattle.records.proofs.Cases.{lt_or_le, and-true}
use Rattle.laws.specs.Form.{law_byte, law_of, law_meets}
use Rattle.laws.specs.Claims.{States}
use Rattle.laws.proofs.Laws.{law_exactly}
use Rattle.fitted.specs.Fill.{law_count, law_keys, law_key, meet_from, laws_meet}
use Rattle.fitted.specs.Claims.{IsLaws, LawSays, execution_place, internal_place, external_place}
use Rattle.fitted.proofs.Keys.{no_key, laws_count, law_key_at}

-- ---- all records

module _ (l : List ℕ) where
  each_meets : (n : ℕ) (ds : List Key) → meet_from l n ds ≡ true → (j : ℕ) → j < length ds → law_meets l (n + j) (get_or ds j no_key) ≡ true
  unfolding meet_from
  each_meets n [] e j h = absurd (omega arith)
  each_meets n (d ∷ ds) e zero h =
      let z : n + 0 ≡ n = omega arith in rw z (and-true (law_meets l n d) (meet_from l (n + 1) ds) e).0
  each_meets n (d ∷ ds) e (suc j) h =
      let z : n + suc j ≡ n + 1 + j = omega arith in rw z (each_meets (n + 1) ds (and-true (law_meets l n d) (meet_from l (n + 1) ds) e).1 j (omega arith))

  all_meet : (n : ℕ) (ds : List Key) → ((j : ℕ) → j < length ds → law_meets l (n + j) (get_or ds j no_key) ≡ true) → meet_from l n ds ≡ true
  unfolding meet_from
  all_meet n [] h = refl
  all_meet n (d ∷ ds) h =
      let z : n + 0 ≡ n = omega arith in
      let first : law_meets l n d ≡ true = rw z at (h 0 (omega arith)) in
      let rest = all_meet (n + 1) ds (λ j b. let y : n + suc j ≡ n + 1 + j = omega arith in rw y at (h (suc j) (omega arith))) in
      simp (first, rest)

-- ---- the laws of a chain

-- the place of the law of a kind and task
unfoldable pub place_of : ℕ → ℕ → ℕ → ℕ
place_of k kind t = cond (eqb kind 3) (execution_place t) (cond (eqb kind 4) (internal_place k t) (external_place k t))

-- record m by the range that it lies in
module _ (l : List ℕ) (k : ℕ) (h : IsLaws l k) (m : ℕ) where
  pub execution_at_lem : m < k → States l m 3 (m + 1)
  execution_at_lem a =
      let z : m + 1 - 1 ≡ m = omega arith in
      subst (λ (i : ℕ). States l i 3 (m + 1)) z (h.executions (m + 1) (omega arith) (omega arith))

  pub internal_at_lem : k ≤ m → m < k + (k - 1) → States l m 4 (m - k + 1)
  internal_at_lem a b =
      let z : k + (m - k + 1 - 1) ≡ m = omega arith in
      subst (λ (i : ℕ). States l i 4 (m - k + 1)) z (h.internals (m - k + 1) (omega arith) (omega arith))

  pub external_at : (start : ℕ) → start ≡ k + (k - 1) → start ≤ m → m < law_count k → States l m 5 (m - start + 1)
  external_at start e a b =
      let z : k + (k - 1) + (m - start + 1 - 1) ≡ m = omega arith in
      subst (λ (i : ℕ). States l i 5 (m - start + 1)) z (h.externals (m - start + 1) (omega arith) (omega arith))

module _ (l : List ℕ) (k : ℕ) (some : 1 ≤ k) where
  -- record n is the law of its kind and task
  Stated : ℕ → Type 0
  Stated n = States l n (law_key k n).kind (law_key k n).task

  meets_stated : laws_meet l k ≡ true → (n : ℕ) → n < law_count k → Stated n
  unfolding laws_meet Stated
  meets_stated e n h =
      let z : 0 + n ≡ n = omega arith in
      let m = each_meets l 0 (law_keys k) (and-true (eqb (length l) (24 * law_count k)) (meet_from l 0 (law_keys k)) e).1 n (omega (arith, laws_count k)) in
      (law_exactly l n (law_key k n)).0 (rw (z, law_key_at k some n h) at m)

  stated_meets : length l ≡ 24 * law_count k → ((n : ℕ) → n < law_count k → Stated n) → laws_meet l k ≡ true
  unfolding laws_meet Stated
  stated_meets long h =
      simp (eq-eqb (length l) (24 * law_count k) long)
      (all_meet l 0 (law_keys k) (λ j b.
      let z : 0 + j ≡ j = omega arith in
      let u : j < law_count k = omega (arith, laws_count k) in
      rw (z, law_key_at k some j u) ((law_exactly l j (law_key k j)).1 (h j u))))

  pub meets_laws : laws_meet l k ≡ true → IsLaws l k
  unfolding laws_meet Stated law_key
  meets_laws e = record {
    long = eqb-true (length l) (24 * law_count k) (and-true (eqb (length l) (24 * law_count k)) (meet_from l 0 (law_keys k)) e).0;
    executions = λ t a b.
        let z : t - 1 + 1 ≡ t = omega arith in
        rw (lt-ltb (t - 1) k (omega arith), z) at (meets_stated e (t - 1) (omega arith));
    internals = λ t a b.
        let z : k + (t - 1) - k + 1 ≡ t = omega arith in
        rw (le-ltb (k + (t - 1)) k (omega arith), lt-ltb (k + (t - 1)) (2 * k - 1) (omega arith), z) at (meets_stated e (k + (t - 1)) (omega arith));
    externals = λ t a b.
        let z : k + (k - 1) + (t - 1) - (2 * k - 1) + 1 ≡ t = omega arith in
        rw (le-ltb (k + (k - 1) + (t - 1)) k (omega arith), le-ltb (k + (k - 1) + (t - 1)) (2 * k - 1) (omega arith), z) at (meets_stated e (k + (k - 1) + (t - 1)) (omega arith));
  }

  pub laws_meet_lem : IsLaws l k → laws_meet l k ≡ true
  unfolding Stated law_key
  laws_meet_lem h = stated_meets h.long (λ n u. ⊎_elim
      (λ (a : n < k). rw (lt-ltb n k a) (execution_at_lem l k h n a))
      (λ (a : k ≤ n). rw (le-ltb n k a) (⊎_elim
      (λ (b : n < 2 * k - 1). rw (lt-ltb n (2 * k - 1) b) (internal_at_lem l k h n a (omega arith)))
      (λ (b : 2 * k - 1 ≤ n). rw (le-ltb n (2 * k - 1) b) (external_at l k h n (2 * k - 1) (omega arith) b u))
      (lt_or_le n (2 * k - 1))))
      (lt_or_le n k))

  -- ---- the one record of a kind and task

  place_of_key : (n : ℕ) → n < law_count k → place_of k (law_key k n).kind (law_key k n).task ≡ n
  unfolding place_of law_key
  place_of_key n u = ⊎_elim
      (λ (a : n < k). rw (lt-ltb n k a) (omega arith))
      (λ (a : k ≤ n). rw (le-ltb n k a) (⊎_elim
      (λ (b : n < 2 * k - 1). rw (lt-ltb n (2 * k - 1) b) (omega arith))
      (λ (b : 2 * k - 1 ≤ n). rw (le-ltb n (2 * k - 1) b) (omega arith))
      (lt_or_le n (2 * k - 1))))
      (lt_or_le n k)

  module _ (h : IsLaws l k) where
    alone : (kind t n : ℕ) → n < law_count k → law_byte l n 0 ≡ kind → law_byte l n 1 ≡ t → n ≡ place_of k kind t
    unfolding Stated
    alone kind t n u e f =
        let s = meets_stated (laws_meet_lem h) n u in
        sym (place_of_key n u) ∙ rw (← s.kind_is, ← s.task_is, e, f) (refl)

    says : (kind t n : ℕ) → n < law_count k → n ≡ place_of k kind t → States l n kind t → LawSays l k kind t (law_of l n)
    says kind t n u e s = record {
      place = n;
      there = u;
      kind_is = s.kind_is;
      task_is = s.task_is;
      alone = λ m v f g. alone kind t m v f g ∙ sym e;
      says = refl;
    }

    pub execution_law : (t : ℕ) → 1 ≤ t → t ≤ k → LawSays l k 3 t (law_of l (execution_place t))
    unfolding place_of
    execution_law t a b = says 3 t (execution_place t) (omega arith) refl (h.executions t a b)

    pub internal_law : (t : ℕ) → 1 ≤ t → t < k → LawSays l k 4 t (law_of l (internal_place k t))
    unfolding place_of
    internal_law t a b = says 4 t (internal_place k t) (omega arith) refl (h.internals t a b)

    pub external_law : (t : ℕ) → 1 ≤ t → t < k → LawSays l k 5 t (law_of l (external_place k t))
    unfolding place_of
    external_law t a b = says 5 t (external_place k t) (omega arith) refl (h.externals t a b)
