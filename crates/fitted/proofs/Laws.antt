-- What holds of costs filled in from laws (document 02, M-101): the laws that a reader looks for. The definitions are in specs/Fill and
-- specs/Claims; what a record of laws says, and gives, is in the crate `laws`. Assumes nothing.
use mathlib.Core.Path.{◌≡◌}
use mathlib.Core.Bool.{true}
use mathlib.Core.List.{List}
use mathlib.Core.Logic.{◌↔◌}
use Prim.Native.Nat.{ℕ, ◌*◌, ◌≤◌, ◌<◌}
use lib.ListN.{length, get_or, take, drop}
use Rattle.std.specs.Prelude.{Result}
use Rattle.records.specs.declared.Board.{Board}
use Rattle.records.specs.declared.refusal.Refusal.{Refusal}
use Rattle.records.specs.Costs.{key, count_of, board_in}
use Rattle.records.specs.Filled.{count_in}
use Rattle.records.specs.Refusals.{number_in}
use Rattle.laws.specs.Form.{law_of}
use Rattle.fitted.specs.Fill.{read_first, law_count, law_keys, law_key, laws_meet, values_meet, fill_answer, fill_bytes}
use Rattle.fitted.specs.Claims.{IsFirst, FirstFinds, IsLaws, LawSays, InBounds, Fills, Follows, execution_place, internal_place, external_place}
use Rattle.fitted.proofs.Keys as keys
use Rattle.fitted.proofs.Stated as stated
use Rattle.fitted.proofs.Bounded as bounded
use Rattle.fitted.proofs.Begun as begun
use Rattle.fitted.proofs.Deciding as deciding

-- ---- the due records of laws, for every k from 1: 3k − 2, and each by its place is the computed one

module _ (k : ℕ) where
  pub laws_count : length (law_keys k) ≡ law_count k
  laws_count = keys.laws_count k

  pub law_key_at : 1 ≤ k → (n : ℕ) → n < law_count k → get_or (law_keys k) n (key 0 0 0 0) ≡ law_key k n
  law_key_at = keys.law_key_at k

-- ---- what is accepted, each part by itself

-- the first part: refusals 1 to 6 exactly under their conditions, with their places
pub first_exactly : (s : List ℕ) (r : Result Board Refusal) → (read_first s ≡ r) ↔ FirstFinds s r
first_exactly s r = (λ e. rw e at (begun.finds s), begun.finds_only s r)

module _ (l : List ℕ) (k : ℕ) (some : 1 ≤ k) where
  -- 17: exactly the laws of a chain of k tasks pass
  pub laws_exactly : (laws_meet l k ≡ true) ↔ IsLaws l k
  laws_exactly = (stated.meets_laws l k some, stated.laws_meet_lem l k some)

  module _ (h : IsLaws l k) where
    -- one record, and no other, has the kind and task of a cost: the law is its
    pub execution_law : (t : ℕ) → 1 ≤ t → t ≤ k → LawSays l k 3 t (law_of l (execution_place t))
    execution_law = stated.execution_law l k some h

    pub internal_law : (t : ℕ) → 1 ≤ t → t < k → LawSays l k 4 t (law_of l (internal_place k t))
    internal_law = stated.internal_law l k some h

    pub external_law : (t : ℕ) → 1 ≤ t → t < k → LawSays l k 5 t (law_of l (external_place k t))
    external_law = stated.external_law l k some h

    -- 18: their values pass exactly if none is above 1,000,000 at any p, or s and q, of the board
    pub values_exactly : (p : ℕ) → (values_meet l p 0 (law_count k) ≡ true) ↔ InBounds l k p
    values_exactly p = (bounded.meet_bounds l k p some h, bounded.bounds_meet l k p some h)

-- ---- the service

module _ (head l out : List ℕ) where
  -- each answer is given exactly under its condition
  pub fill_exactly : (a : Result ℕ Refusal) → (fill_answer head l out ≡ a) ↔ Fills head l out a
  fill_exactly a = (λ e. rw e at (deciding.answered head l out), deciding.answered_only head l out a)

  -- a refusal fills in nothing and leaves the output as lent
  module _ (n : number_in (fill_answer head l out) ≡ 0 → ⊥) where
    pub refused_empty : count_in (fill_answer head l out) ≡ 0
    refused_empty = deciding.refused_empty head l out n

    pub refused_lent : fill_bytes head l out ≡ out
    refused_lent = deciding.refused_lent head l out n

  -- what is filled in has a first part and a law for each cost of its chain; it is accepted costs of that board, each its law's value;
  -- behind it the output is as lent
  module _ (z : number_in (fill_answer head l out) ≡ 0) where
    pub fill_first : IsFirst head (board_in (read_first head))
    fill_first = deciding.fill_first head l out z

    -- with `execution_law` and the like, then `three_law` and the like of `laws`, a value is spelt out in one record's coefficients
    pub fill_laws : IsLaws l (board_in (read_first head)).tasks
    fill_laws = deciding.fill_laws head l out z

    pub fill_follows : Follows (take (count_in (fill_answer head l out)) (fill_bytes head l out)) head l (board_in (read_first head))
    fill_follows = deciding.fill_follows head l out z

    pub fill_beyond : drop (count_in (fill_answer head l out)) (fill_bytes head l out) ≡ drop (count_in (fill_answer head l out)) out
    fill_beyond = deciding.fill_beyond head l out z

    pub fill_count : count_in (fill_answer head l out) ≡ 8 * count_of (board_in (read_first head)).tasks (board_in (read_first head)).cores
    fill_count = deciding.fill_count head l out z
