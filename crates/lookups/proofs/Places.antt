-- Where the key of a given kind, task, a and b stands among the due keys, and that it stands nowhere else: the place and the
-- computed key are each other's inverse. By division with remainder. Assumes nothing.
use mathlib.Core.Path.{◌≡◌, ◌∙◌}
use mathlib.Core.Bool.{Bool, true, false, cond}
use mathlib.Core.Logic.{⊎_elim}
use Prim.Native.Nat.{ℕ, suc, ◌+◌, ◌-◌, ◌*◌, ◌/◌, ◌%◌, ◌≤◌, ◌<◌}
use native.Mathlib.Nat.{suc-mul, mul-le-mul_right, div-eq_of_lt, mod-eq_of_lt, mul-add-div_right, mul-add-mod_self_right, div-add-mod'}
use native.Mathlib.Omega.{arith}
use lib.Dec.{ltb, eqb}
use borrow.Author.Tests.{lt-ltb, le-ltb}
use Rattle.records.specs.declared.Key.{Key}
use Rattle.records.specs.Costs.{key, due_key}
use Rattle.records.proofs.Cases.{lt_or_le}
use Rattle.lookups.specs.Lookups.{cell_of, pair_place}

-- ---- rows of equal width

module _ (w i j : ℕ) (h : j < w) where
  cell_div : (i * w + j) / w ≡ i
  cell_div = omega (arith, mul-add-div_right {m = w} (omega arith) i j, div-eq_of_lt h)

  cell_mod : (i * w + j) % w ≡ j
  cell_mod = mul-add-mod_self_right i w j ∙ mod-eq_of_lt h

  pub cell_lt : (n : ℕ) → i < n → i * w + j < n * w
  cell_lt n l = omega (arith, suc-mul i w, mul-le-mul_right {m = suc i} {n = n} w l)

-- the same with rows and columns counted from 1
pub cell_of_lt : (w n i j : ℕ) → 1 ≤ i → i ≤ n → 1 ≤ j → j ≤ w → cell_of w i j < n * w
unfolding cell_of
cell_of_lt w n i j a b c d = cell_lt w (i - 1) (j - 1) (omega arith) n (omega arith)

pub cell_of_div : (w i j : ℕ) → 1 ≤ i → 1 ≤ j → j ≤ w → cell_of w i j / w + 1 ≡ i
unfolding cell_of
cell_of_div w i j a c d = omega (arith, cell_div w (i - 1) (j - 1) (omega arith))

pub cell_of_mod : (w i j : ℕ) → 1 ≤ j → j ≤ w → cell_of w i j % w + 1 ≡ j
unfolding cell_of
cell_of_mod w i j c d = omega (arith, cell_mod w (i - 1) (j - 1) (omega arith))

-- the cell of a number's row and column is the number
cell_of_of : (w x : ℕ) → cell_of w (x / w + 1) (x % w + 1) ≡ x
unfolding cell_of
cell_of_of w x =
    let r : x / w + 1 - 1 ≡ x / w = omega arith in
    let c : x % w + 1 - 1 ≡ x % w = omega arith in
    rw (r, c) (div-add-mod' x w)

-- ---- the place of a key

-- by kind, task, a and b; a and b of kind 2 and b of kinds 3 and 4 say nothing of the place
unfoldable pub place_of : ℕ → ℕ → ℕ → ℕ → ℕ → ℕ → ℕ
place_of k p kind task a b =
    cond (eqb kind 2) task
    (cond (eqb kind 3) (1 + k + cell_of p task a)
    (cond (eqb kind 4) (1 + k + k * p + cell_of p task a)
    (pair_place k p task + cell_of p a b)))

module _ (k p : ℕ) where
  pub place_of_due : (n : ℕ) → 1 ≤ n → (let d = due_key k p n in place_of k p d.kind d.task d.a d.b ≡ n)
  unfolding due_key place_of pair_place
  place_of_due n some = ⊎_elim
      (λ h. simp (lt-ltb m k h))
      (λ a. ⊎_elim
      (λ h. simp (le-ltb m k a, lt-ltb e (k * p) h, cell_of_of p e) (omega arith))
      (λ b. ⊎_elim
      (λ h. simp (le-ltb m k a, le-ltb e (k * p) b, lt-ltb t ((k - 1) * p) h, cell_of_of p t) (omega arith))
      (λ c. simp (le-ltb m k a, le-ltb e (k * p) b, le-ltb t ((k - 1) * p) c, cell_of_of p (x % (p * p))) (last a b c))
      (lt_or_le t ((k - 1) * p)))
      (lt_or_le e (k * p)))
      (lt_or_le m k)
    where
      m : ℕ
      m = n - 1

      e : ℕ
      e = m - k

      t : ℕ
      t = e - k * p

      x : ℕ
      x = t - (k - 1) * p

      last : k ≤ m → k * p ≤ e → (k - 1) * p ≤ t → 1 + k + k * p + (k - 1) * p + (x / (p * p) + 1 - 1) * (p * p) + x % (p * p) ≡ n
      last a b c =
          let r : x / (p * p) + 1 - 1 ≡ x / (p * p) = omega arith in
          rw r (omega (arith, div-add-mod' x (p * p)))

  -- after the first record none is of kind 1
  pub due_kind : (n : ℕ) → 2 ≤ (due_key k p n).kind
  unfolding due_key
  due_kind n =
      let e = n - 1 - k in
      let t = e - k * p in
      let x = t - (k - 1) * p in
      later (ltb (n - 1) k) (ltb e (k * p)) (ltb t ((k - 1) * p)) (key 2 n 0 0) (key 3 (e / p + 1) (e % p + 1) 0) (key 4 (t / p + 1) (t % p + 1) 0)
      (key 5 (x / (p * p) + 1) (x % (p * p) / p + 1) (x % (p * p) % p + 1)) (omega arith) (omega arith) (omega arith) (omega arith)
    where
      later : (x y z : Bool) (a b c d : Key) → 2 ≤ a.kind → 2 ≤ b.kind → 2 ≤ c.kind → 2 ≤ d.kind → 2 ≤ (cond x a (cond y b (cond z c d))).kind
      later true y z a b c d e f g h = e
      later false true z a b c d e f g h = f
      later false false true a b c d e f g h = g
      later false false false a b c d e f g h = h

  module _ (t : ℕ) (first : 1 ≤ t) where
    pub due_task_lem : t ≤ k → due_key k p t ≡ key 2 t 0 0
    unfolding due_key
    due_task_lem l = simp (lt-ltb (t - 1) k (omega arith))

    module _ (a : ℕ) (a_low : 1 ≤ a) (a_high : a ≤ p) where
      c : ℕ
      c = cell_of p t a

      pub due_execution : t ≤ k → due_key k p (1 + k + cell_of p t a) ≡ key 3 t a 0
      unfolding due_key c
      due_execution l =
          let e₁ : 1 + k + c - 1 ≡ k + c = omega arith in
          let e₂ : k + c - k ≡ c = omega arith in
          simp (e₁, e₂, le-ltb (k + c) k (omega arith), lt-ltb c (k * p) (cell_of_lt p k t a first l a_low a_high), cell_of_div p t a first a_low a_high, cell_of_mod p t a a_low a_high)

      pub due_internal : t < k → due_key k p (1 + k + k * p + cell_of p t a) ≡ key 4 t a 0
      unfolding due_key c
      due_internal l =
          let e₁ : 1 + k + k * p + c - 1 ≡ k + k * p + c = omega arith in
          let e₂ : k + k * p + c - k ≡ k * p + c = omega arith in
          let e₃ : k * p + c - k * p ≡ c = omega arith in
          simp (
            e₁,
            e₂,
            e₃,
            le-ltb (k + k * p + c) k (omega arith),
            le-ltb (k * p + c) (k * p) (omega arith),
            lt-ltb c ((k - 1) * p) (cell_of_lt p (k - 1) t a first (omega arith) a_low a_high),
            cell_of_div p t a first a_low a_high,
            cell_of_mod p t a a_low a_high,
          )

    module _ (a b : ℕ) (a_low : 1 ≤ a) (a_high : a ≤ p) (b_low : 1 ≤ b) (b_high : b ≤ p) where
      y : ℕ
      y = cell_of p a b

      z : ℕ
      unfolding y
      z = (t - 1) * (p * p) + y

      y_lt : y < p * p
      unfolding y
      y_lt = cell_of_lt p p a b a_low a_high b_low b_high

      pub due_external : due_key k p (pair_place k p t + cell_of p a b) ≡ key 5 t a b
      unfolding due_key pair_place z y
      due_external =
          let e₁ : 1 + k + k * p + (k - 1) * p + (t - 1) * (p * p) + y - 1 ≡ k + k * p + (k - 1) * p + z = omega arith in
          let e₂ : k + k * p + (k - 1) * p + z - k ≡ k * p + (k - 1) * p + z = omega arith in
          let e₃ : k * p + (k - 1) * p + z - k * p ≡ (k - 1) * p + z = omega arith in
          let e₄ : (k - 1) * p + z - (k - 1) * p ≡ z = omega arith in
          let row : z / (p * p) + 1 ≡ t = omega (arith, cell_div (p * p) (t - 1) y y_lt) in
          simp (
            e₁,
            e₂,
            e₃,
            e₄,
            le-ltb (k + k * p + (k - 1) * p + z) k (omega arith),
            le-ltb (k * p + (k - 1) * p + z) (k * p) (omega arith),
            le-ltb ((k - 1) * p + z) ((k - 1) * p) (omega arith),
            row,
            cell_mod (p * p) (t - 1) y y_lt,
            cell_of_div p a b a_low b_low b_high,
            cell_of_mod p a b b_low b_high,
          )
