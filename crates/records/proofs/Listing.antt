-- The due keys as document 01 lists them and by their place: the list has the stated count, and its n-th key is the computed
-- one, for every k, P and n. By the parts of the list: a run of keys, and runs of equal length one after another.
-- Assumes nothing.
use mathlib.Core.Path.{◌≡◌, refl, sym, ap, ◌∙◌}
use mathlib.Core.List.{List, ◌∷◌, ◌++◌}
use mathlib.Core.Logic.{⊎_elim}
use Prim.Native.Nat.{ℕ, zero, suc, ◌+◌, ◌-◌, ◌*◌, ◌/◌, ◌%◌, ◌≤◌, ◌<◌}
use native.Mathlib.Nat.{zero-mul, suc-mul, div-eq_of_lt, mod-eq_of_lt, div-eq-sub-div, mod-eq-sub-mod, mod-lt}
use native.Mathlib.Omega.{arith}
use lib.ListN.{length, get_or, length-append, get_or-append}
use lib.Seq.{get_or-append-add}
use borrow.Author.Tests.{lt-ltb, le-ltb}
use Rattle.records.specs.declared.Key.{Key}
use Rattle.records.specs.Costs.{key, each_from, join_from, each, join, due_keys, due_key, count_of}
use Rattle.records.proofs.Cases.{lt_or_le, pos_of_lt_mul}

-- ---- a list in two parts

module _ (xs ys : List Key) (w : ℕ) (long : length xs ≡ w) (d : Key) (n : ℕ) where
  pub get_or_before : n < w → get_or (xs ++ ys) n d ≡ get_or xs n d
  get_or_before h = get_or-append xs ys d n (omega arith)

  pub get_or_past : w ≤ n → get_or (xs ++ ys) n d ≡ get_or ys (n - w) d
  get_or_past h =
      let e : n ≡ length xs + (n - w) = omega arith in
      ap (λ (m : ℕ). get_or (xs ++ ys) m d) e ∙ get_or-append-add xs ys (n - w) d

pub get_or_behind : (x : Key) (xs : List Key) (d : Key) (n : ℕ) → 1 ≤ n → get_or (x ∷ xs) n d ≡ get_or xs (n - 1) d
get_or_behind x xs d zero h = absurd (omega arith)
get_or_behind x xs d (suc n) h = ap (λ (m : ℕ). get_or xs m d) (omega arith)

-- ---- runs of keys

pub length_each : (i n : ℕ) (f : ℕ → Key) → length (each_from i n f) ≡ n
unfolding each_from
length_each i zero f = refl
length_each i (suc n) f = ap suc (length_each (i + 1) n f)

each_from_at : (i n : ℕ) (f : ℕ → Key) (d : Key) (j : ℕ) → j < n → get_or (each_from i n f) j d ≡ f (i + j + 1)
unfolding each_from
each_from_at i zero f d j h = absurd (omega arith)
each_from_at i (suc n) f d zero h = ap f (omega arith)
each_from_at i (suc n) f d (suc j) h = each_from_at (i + 1) n f d j (omega arith) ∙ ap f (omega arith)

pub each_at : (n : ℕ) (f : ℕ → Key) (d : Key) (j : ℕ) → j < n → get_or (each n f) j d ≡ f (j + 1)
each_at n f d j h = each_from_at 0 n f d j h ∙ ap f (omega arith)

module _ (w : ℕ) (f : ℕ → List Key) (long : (t : ℕ) → length (f t) ≡ w) where
  pub length_join : (i n : ℕ) → length (join_from i n f) ≡ n * w
  unfolding join_from
  length_join i zero = sym (zero-mul w)
  length_join i (suc n) = omega (arith, length-append (f (i + 1)) (join_from (i + 1) n f), long (i + 1), length_join (i + 1) n, suc-mul n w)

  join_from_at : 1 ≤ w → (d : Key) (i n j : ℕ) → j < n * w → get_or (join_from i n f) j d ≡ get_or (f (i + j / w + 1)) (j % w) d
  unfolding join_from
  join_from_at p d i zero j h = absurd (omega (arith, zero-mul w))
  join_from_at p d i (suc n) j h = ⊎_elim (λ l. here l) (λ l. later l (join_from_at p d (i + 1) n (j - w) (omega (arith, suc-mul n w)))) (lt_or_le j w)
    where
      here : j < w → get_or (join_from i (suc n) f) j d ≡ get_or (f (i + j / w + 1)) (j % w) d
      here l =
          let e : i + 1 ≡ i + j / w + 1 = omega (arith, div-eq_of_lt l) in
          get_or_before (f (i + 1)) (join_from (i + 1) n f) w (long (i + 1)) d j l ∙ rw (mod-eq_of_lt l, e)

      later : w ≤ j → get_or (join_from (i + 1) n f) (j - w) d ≡ get_or (f (i + 1 + (j - w) / w + 1)) ((j - w) % w) d → get_or (join_from i (suc n) f) j d ≡ get_or (f (i + j / w + 1)) (j % w) d
      later l rest =
          let e : i + 1 + (j - w) / w + 1 ≡ i + j / w + 1 = omega (arith, div-eq-sub-div p l) in
          get_or_past (f (i + 1)) (join_from (i + 1) n f) w (long (i + 1)) d j l ∙ rest ∙ rw (mod-eq-sub-mod l, e)

  pub join_at : (d : Key) (n j : ℕ) → j < n * w → get_or (join n f) j d ≡ get_or (f (j / w + 1)) (j % w) d
  join_at d n j h =
      let e : 0 + j / w + 1 ≡ j / w + 1 = omega arith in
      join_from_at (pos_of_lt_mul j n w h) d 0 n j h ∙ ap (λ (t : ℕ). get_or (f t) (j % w) d) e

pub length_square : (p t : ℕ) → length (join p (λ a. each p (λ b. key 5 t a b))) ≡ p * p
length_square p t = length_join p (λ a. each p (λ b. key 5 t a b)) (λ a. length_each 0 p (λ b. key 5 t a b)) 0 p

-- ---- the whole list

module _ (k p : ℕ) where
  tasks : List Key
  tasks = each k (λ t. key 2 t 0 0)

  executions : List Key
  executions = join k (λ t. each p (λ a. key 3 t a 0))

  internals : List Key
  internals = join (k - 1) (λ t. each p (λ a. key 4 t a 0))

  square : ℕ → List Key
  square t = join p (λ a. each p (λ b. key 5 t a b))

  externals : List Key
  unfolding square
  externals = join (k - 1) square

  length_tasks : length tasks ≡ k
  unfolding tasks
  length_tasks = length_each 0 k (λ t. key 2 t 0 0)

  length_executions : length executions ≡ k * p
  unfolding executions
  length_executions = length_join p (λ t. each p (λ a. key 3 t a 0)) (λ t. length_each 0 p (λ a. key 3 t a 0)) 0 k

  length_internals : length internals ≡ (k - 1) * p
  unfolding internals
  length_internals = length_join p (λ t. each p (λ a. key 4 t a 0)) (λ t. length_each 0 p (λ a. key 4 t a 0)) 0 (k - 1)

  length_externals : length externals ≡ (k - 1) * (p * p)
  unfolding externals square
  length_externals = length_join (p * p) square (length_square p) 0 (k - 1)

  pub keys_count : length (due_keys k p) ≡ count_of k p
  unfolding due_keys count_of tasks executions internals externals square
  keys_count =
      omega (
        arith,
        length-append tasks (executions ++ (internals ++ externals)),
        length-append executions (internals ++ externals),
        length-append internals externals,
        length_tasks,
        length_executions,
        length_internals,
        length_externals,
      )

  module _ (d : Key) (n : ℕ) (some : 1 ≤ n) where
    -- the places among the records after the first, after kind 2, after kind 3 and after kind 4
    m : ℕ
    m = n - 1

    e : ℕ
    unfolding m
    e = m - k

    t : ℕ
    unfolding e
    t = e - k * p

    x : ℕ
    unfolding t
    x = t - (k - 1) * p

    keys : ℕ → Key
    unfolding tasks executions internals externals
    keys i = get_or (tasks ++ (executions ++ (internals ++ externals))) i d

    task_key : m < k → keys m ≡ due_key k p n
    unfolding due_key keys tasks m
    task_key h =
        let last : n - 1 + 1 ≡ n = omega arith in
        get_or_before tasks (executions ++ (internals ++ externals)) k length_tasks d (n - 1) h ∙ each_at k (λ t. key 2 t 0 0) d (n - 1) h
        ∙ simp (lt-ltb (n - 1) k h, last)

    module _ (after_tasks : k ≤ m) where
      from_executions : keys m ≡ get_or (executions ++ (internals ++ externals)) e d
      unfolding keys e
      from_executions = get_or_past tasks (executions ++ (internals ++ externals)) k length_tasks d m after_tasks

      execution_key : e < k * p → keys m ≡ due_key k p n
      unfolding due_key executions e m
      execution_key h =
          from_executions
          ∙ get_or_before executions (internals ++ externals) (k * p) length_executions d e h
          ∙ join_at p (λ t. each p (λ a. key 3 t a 0)) (λ t. length_each 0 p (λ a. key 3 t a 0)) d k e h
          ∙ each_at p (λ a. key 3 (e / p + 1) a 0) d (e % p) (mod-lt e (pos_of_lt_mul e k p h))
          ∙ simp (le-ltb (n - 1) k after_tasks, lt-ltb (n - 1 - k) (k * p) h)

      module _ (after_executions : k * p ≤ e) where
        from_internals : keys m ≡ get_or (internals ++ externals) t d
        unfolding t
        from_internals = from_executions ∙ get_or_past executions (internals ++ externals) (k * p) length_executions d e after_executions

        internal_key : t < (k - 1) * p → keys m ≡ due_key k p n
        unfolding due_key internals t e m
        internal_key h =
            from_internals
            ∙ get_or_before internals externals ((k - 1) * p) length_internals d t h
            ∙ join_at p (λ t. each p (λ a. key 4 t a 0)) (λ t. length_each 0 p (λ a. key 4 t a 0)) d (k - 1) t h
            ∙ each_at p (λ a. key 4 (t / p + 1) a 0) d (t % p) (mod-lt t (pos_of_lt_mul t (k - 1) p h))
            ∙ simp (le-ltb (n - 1) k after_tasks, le-ltb (n - 1 - k) (k * p) after_executions, lt-ltb (n - 1 - k - k * p) ((k - 1) * p) h)

        external_key : (k - 1) * p ≤ t → x < (k - 1) * (p * p) → keys m ≡ due_key k p n
        unfolding due_key externals square x t e m
        external_key l h =
            from_internals
            ∙ get_or_past internals externals ((k - 1) * p) length_internals d t l
            ∙ join_at (p * p) square (length_square p) d (k - 1) x h
            ∙ join_at p (λ a. each p (λ b. key 5 (x / (p * p) + 1) a b)) (λ a. length_each 0 p (λ b. key 5 (x / (p * p) + 1) a b)) d p (x % (p * p)) row
            ∙ each_at p (λ b. key 5 (x / (p * p) + 1) (x % (p * p) / p + 1) b) d (x % (p * p) % p) (mod-lt (x % (p * p)) (pos_of_lt_mul (x % (p * p)) p p row))
            ∙ simp (le-ltb (n - 1) k after_tasks, le-ltb (n - 1 - k) (k * p) after_executions, le-ltb (n - 1 - k - k * p) ((k - 1) * p) l)
          where
            row : x % (p * p) < p * p
            row = mod-lt x (pos_of_lt_mul x (k - 1) (p * p) h)

    pub key_at : n < count_of k p → get_or (due_keys k p) n d ≡ due_key k p n
    unfolding due_keys count_of tasks executions internals externals square keys x t e m
    key_at h =
        get_or_behind (key 1 0 p k) (tasks ++ (executions ++ (internals ++ externals))) d n some
        ∙ ⊎_elim task_key (λ a. ⊎_elim (execution_key a) (λ b. ⊎_elim (internal_key a b) (λ l. external_key a b l (omega arith)) (lt_or_le t ((k - 1) * p))) (lt_or_le e (k * p))) (lt_or_le m k)
