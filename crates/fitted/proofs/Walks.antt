-- Walks over lists of keys, turn by turn: the test of the laws, the test of values, and the records written. What is left, by its
-- definition, is the whole. Assumes nothing.
use mathlib.Core.Path.{◌≡◌, refl, sym, ap, ◌∙◌}
use mathlib.Core.Bool.{true, false}
use mathlib.Core.List.{List, [], ◌∷◌, ◌++◌}
use Prim.Native.Nat.{ℕ, zero, suc, ◌+◌, ◌*◌, ◌-◌, ◌≤◌, ◌<◌}
use native.Mathlib.Numerals.{add-one}
use native.Mathlib.Omega.{arith}
use lib.ListN.{length, get_or, drop, drop_of_length-le, length-append}
use lib.Seq.{drop-cons, sets}
use lib.Dec.{leb}
use borrow.Author.Tests.{le-leb, lt-leb, leb-true}
use Rattle.records.specs.declared.Key.{Key}
use Rattle.records.specs.Costs.{most_value, key}
use Rattle.records.proofs.Cases.{and-true}
use Rattle.laws.specs.declared.Law.{Law}
use Rattle.laws.specs.declared.Cost.{Cost}
use Rattle.laws.specs.Laws.{law_at}
use Rattle.laws.specs.Form.{law_meets, cost_at}
use Rattle.fitted.specs.Fill.{meet_from, cost_keys, cost_count, a_of, b_of, value_by, cost_within, cost_records, keys_within, values_meet, record_of, records_of, records_from}
use Rattle.fitted.proofs.Keys.{no_key, cost_count_lem, cost_key}
use Rattle.fitted.proofs.Stores.{sets_append}

-- ---- refusal 17

module _ (l : List ℕ) (keys : List Key) (n : ℕ) where
  module _ (h : n < length keys) where
    pub meet_next : law_meets l n (get_or keys n no_key) ≡ true → meet_from l n (drop n keys) ≡ meet_from l (n + 1) (drop (n + 1) keys)
    unfolding meet_from
    meet_next e = rw (drop-cons keys n no_key h, add-one n) (simp e)

    pub meet_not : law_meets l n (get_or keys n no_key) ≡ false → meet_from l n (drop n keys) ≡ false
    unfolding meet_from
    meet_not e = rw (drop-cons keys n no_key h) (simp e)

  pub meet_end : length keys ≤ n → meet_from l n (drop n keys) ≡ true
  unfolding meet_from
  meet_end h = rw (drop_of_length-le keys h)

-- ---- refusal 18

-- the value by the computed a and b is the value for the list's key
pub value_at : (w : Law) (kind task p j : ℕ) {a b v : ℕ} → j < cost_count kind p → (a ≡ a_of kind p j) × (b ≡ b_of kind p j) → v ≡ law_at w a b
    → v ≡ value_by w (get_or (cost_keys kind task p) j no_key)
value_at w kind task p j h e q = q ∙ rw (e.0, e.1) (sym (ap (value_by w) (cost_key kind task p j h)))

module _ (f : Key → ℕ) (keys : List Key) (j : ℕ) where
  module _ (h : j < length keys) where
    pub within_next : f (get_or keys j no_key) ≤ most_value → keys_within f (drop j keys) ≡ keys_within f (drop (j + 1) keys)
    unfolding keys_within
    within_next e = rw (drop-cons keys j no_key h, add-one j) (simp (le-leb (f (get_or keys j no_key)) most_value e))

    pub within_not : most_value < f (get_or keys j no_key) → keys_within f (drop j keys) ≡ false
    unfolding keys_within
    within_not e = rw (drop-cons keys j no_key h) (simp (lt-leb (f (get_or keys j no_key)) most_value e))

  pub within_end : length keys ≤ j → keys_within f (drop j keys) ≡ true
  unfolding keys_within
  within_end h = rw (drop_of_length-le keys h)

pub within_at : (f : Key → ℕ) (ds : List Key) → keys_within f ds ≡ true → (j : ℕ) → j < length ds → f (get_or ds j no_key) ≤ most_value
unfolding keys_within
within_at f [] e j h = absurd (omega arith)
within_at f (d ∷ ds) e zero h = leb-true (f d) most_value (and-true (leb (f d) most_value) (keys_within f ds) e).0
within_at f (d ∷ ds) e (suc j) h = within_at f ds (and-true (leb (f d) most_value) (keys_within f ds) e).1 j (omega arith)

module _ (l : List ℕ) (p i total : ℕ) (h : i < total) where
  left : total - i ≡ suc (total - (i + 1))
  left = omega arith

  pub values_next : cost_within (cost_at l i) p ≡ true → values_meet l p i (total - i) ≡ values_meet l p (i + 1) (total - (i + 1))
  unfolding values_meet left
  values_next e = rw left (simp e)

  pub values_not : cost_within (cost_at l i) p ≡ false → values_meet l p i (total - i) ≡ false
  unfolding values_meet left
  values_not e = rw left (simp e)

  -- what is known of all laws that are left is known of the first, and of the rest
  pub values_split : values_meet l p i (total - i) ≡ true → (cost_within (cost_at l i) p ≡ true) × (values_meet l p (i + 1) (total - (i + 1)) ≡ true)
  unfolding values_meet left
  values_split e = and-true _ _ (rw left at e)

  records_split : records_from l p i (total - i) ≡ cost_records (cost_at l i) p ++ records_from l p (i + 1) (total - (i + 1))
  unfolding records_from left
  records_split = rw left (refl)

pub values_end : (l : List ℕ) (p i total : ℕ) → total ≤ i → values_meet l p i (total - i) ≡ true
unfolding values_meet
values_end l p i total h = let e : total - i ≡ 0 = omega arith in rw e (refl)

pub records_end : (l : List ℕ) (p i total : ℕ) → total ≤ i → records_from l p i (total - i) ≡ []
unfolding records_from
records_end l p i total h = let e : total - i ≡ 0 = omega arith in rw e (refl)

-- ---- the records written

pub length_record : (d : Key) (v : ℕ) → length (record_of d v) ≡ 8
unfolding record_of
length_record d v = refl

pub length_records : (f : Key → ℕ) (ds : List Key) → length (records_of f ds) ≡ 8 * length ds
unfolding records_of
length_records f [] = refl
length_records f (d ∷ ds) = omega (arith, length-append (record_of d (f d)) (records_of f ds), length_record d (f d), length_records f ds)

next_record : (f : Key → ℕ) (keys : List Key) (j : ℕ) → j < length keys
    → records_of f (drop j keys) ≡ record_of (get_or keys j no_key) (f (get_or keys j no_key)) ++ records_of f (drop (j + 1) keys)
unfolding records_of
next_record f keys j h = rw (drop-cons keys j no_key h, add-one j) (refl)

-- one record of a cost more, at its place
module _ (c : Cost) (p j : ℕ) where
  keys : List Key
  keys = cost_keys c.kind c.task p

  pub put_next : (w : List ℕ) (n : ℕ) {a b v : ℕ} {x : List ℕ} → j < cost_count c.kind p
      → (a ≡ a_of c.kind p j) × (b ≡ b_of c.kind p j) → v ≡ law_at c.law a b → x ≡ sets w (8 * (n + j)) (record_of (key c.kind c.task a b) v)
      → sets w (8 * (n + j)) (records_of (value_by c.law) (drop j (cost_keys c.kind c.task p)))
      ≡ sets x (8 * (n + (j + 1))) (records_of (value_by c.law) (drop (j + 1) (cost_keys c.kind c.task p)))
  unfolding keys
  put_next w n {a} {b} {v} {x} h e q put =
      let d : get_or keys j no_key ≡ key c.kind c.task a b = cost_key c.kind c.task p j h ∙ rw (e.0, e.1) (refl) in
      let place : 8 * (n + j) + length (record_of (key c.kind c.task a b) v) ≡ 8 * (n + (j + 1)) = omega (arith, length_record (key c.kind c.task a b) v) in
      let rest : List ℕ = records_of (value_by c.law) (drop (j + 1) keys) in
      rw (next_record (value_by c.law) keys j (omega (arith, cost_count_lem c.kind c.task p)), d, ← q, put)
      (sets_append w (8 * (n + j)) (record_of (key c.kind c.task a b) v) rest
      ∙ ap (λ (i : ℕ). sets (sets w (8 * (n + j)) (record_of (key c.kind c.task a b) v)) i rest) place)

  pub put_end : (w : List ℕ) (i : ℕ) → cost_count c.kind p ≤ j → sets w i (records_of (value_by c.law) (drop j (cost_keys c.kind c.task p))) ≡ w
  unfolding records_of keys
  put_end w i h = rw (drop_of_length-le keys {i = j} (omega (arith, cost_count_lem c.kind c.task p))) (refl)

length_cost : (c : Cost) (p : ℕ) → length (cost_records c p) ≡ 8 * cost_count c.kind p
length_cost c p = omega (arith, length_records (value_by c.law) (cost_keys c.kind c.task p), cost_count_lem c.kind c.task p)

-- one cost more
module _ (l : List ℕ) (p i total : ℕ) (h : i < total) where
  pub costs_length : length (records_from l p i (total - i)) ≡ 8 * cost_count (cost_at l i).kind p + length (records_from l p (i + 1) (total - (i + 1)))
  costs_length =
      rw (records_split l p i total h)
      (omega (arith, length-append (cost_records (cost_at l i) p) (records_from l p (i + 1) (total - (i + 1))), length_cost (cost_at l i) p))

  pub costs_next : (w : List ℕ) (n : ℕ) {c : Cost} {m : ℕ} {x : List ℕ} → c ≡ cost_at l i → m ≡ cost_count c.kind p → x ≡ sets w (8 * n) (cost_records c p)
      → sets w (8 * n) (records_from l p i (total - i)) ≡ sets x (8 * (n + m)) (records_from l p (i + 1) (total - (i + 1)))
  costs_next w n {c} {m} {x} e q put =
      let place : 8 * n + length (cost_records c p) ≡ 8 * (n + m) = omega (arith, length_cost c p) in
      let rest : List ℕ = records_from l p (i + 1) (total - (i + 1)) in
      rw (records_split l p i total h, ← e, put)
      (sets_append w (8 * n) (cost_records c p) rest ∙ ap (λ (a : ℕ). sets (sets w (8 * n) (cost_records c p)) a rest) place)
