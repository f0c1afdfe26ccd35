-- The chain of costs filled in from laws is the laws' chain: each lookup in them, at any numbers, is what the laws' chain says.
-- Assumes nothing.
use mathlib.Core.Path.{◌≡◌, refl, sym, ap, ◌∙◌}
use mathlib.Core.Bool.{Bool, true, false, cond, ◌&&◌}
use mathlib.Core.List.{List, []}
use mathlib.Core.Logic.{⊎_elim}
use Prim.Native.Nat.{ℕ, ◌+◌, ◌*◌, ◌≤◌, ◌<◌}
use native.Mathlib.Omega.{arith}
use lib.ListN.{length, get_or}
use lib.Seq.{get_or-take}
use borrow.Author.Tests.{eq-eqb, le-leb}
use Rattle.fields.specs.Fields.{value_at}
use Rattle.records.specs.declared.Board.{Board}
use Rattle.records.specs.declared.refusal.Refusal.{Refusal}
use Rattle.std.specs.Prelude.{Result}
use Rattle.records.specs.Refusals.{number_in}
use Rattle.records.specs.Costs.{board_in, read_costs}
use Rattle.records.proofs.Cases.{true_or_false, and-true}
use Rattle.lookups.specs.Lookups.{within, has_next, cell_of, hand_out_of, need_of, replicable_of, limit_of, execution_of, internal_of, pair_of, external_of}
use Rattle.lookups.proofs.Inside.{within_bounds, has_next_bounds}
use Rattle.modules.specs.Model.{chain_of}
use Rattle.layout.specs.Layout.{plan_bytes}
use Rattle.planners.specs.Best.{work_words, begins}
use Rattle.fitted.specs.Fill.{fill_answer}
use Rattle.fitted.specs.Claims.{Follows}
use Rattle.fitted.proofs.Laws.{fill_follows}
use Rattle.zombreki.specs.Fitted.{filled_costs, law_chain}

-- what stands where a test holds is the same there
same_where : (t : Bool) (x y : ℕ) → (t ≡ true → x ≡ y) → cond t x 0 ≡ cond t y 0
same_where true x y h = h refl
same_where false x y h = refl

empty_value : (n : ℕ) → value_at [] n ≡ 0
unfolding value_at
empty_value n = refl

-- no pair, no part
no_pair : (s : List ℕ) (b : Board) (t : ℕ) → has_next t b.tasks ≡ false → pair_of s b t ≡ []
unfolding pair_of
no_pair s b t n = rw n (refl)

module _ (s head l : List ℕ) (b : Board) (h : Follows s head l b) where
  first_byte : (i : ℕ) → i < 8 * (1 + b.tasks) → get_or s i 0 ≡ get_or head i 0
  first_byte i u = sym (get_or-take (8 * (1 + b.tasks)) s i 0 u) ∙ ap (λ (x : List ℕ). get_or x i 0) h.first_part

  hand_out_same : hand_out_of s ≡ hand_out_of head
  unfolding hand_out_of
  hand_out_same = rw (first_byte 1 (omega arith)) (refl)

  need_same : (t : ℕ) → need_of s b t ≡ need_of head b t
  unfolding need_of value_at
  need_same t = same_where (within t b.tasks) _ _ (λ e.
      let u = (within_bounds t b.tasks e).1 in
      rw (first_byte (8 * t + 4) (omega (arith, u)), first_byte (8 * t + 5) (omega (arith, u)), first_byte (8 * t + 6) (omega (arith, u)), first_byte (8 * t + 7) (omega (arith, u))) (refl))

  limit_same : (t : ℕ) → limit_of s b t ≡ limit_of head b t
  unfolding limit_of
  limit_same t = same_where (within t b.tasks) _ _ (λ e. first_byte (8 * t + 3) (omega (arith, (within_bounds t b.tasks e).1)))

  replicable_same : (t : ℕ) → replicable_of s b t ≡ replicable_of head b t
  unfolding replicable_of
  replicable_same t = ⊎_elim
      (λ (e : within t b.tasks ≡ true). rw (first_byte (8 * t + 2) (omega (arith, (within_bounds t b.tasks e).1))) (refl))
      (λ (e : within t b.tasks ≡ false). rw e (refl))
      (true_or_false (within t b.tasks))

  execution_same : (t p : ℕ) → execution_of s b t p ≡ (law_chain head l b).execution t p
  unfolding execution_of law_chain
  execution_same t p = same_where (within t b.tasks && within p b.cores) _ _ (λ (e : (within t b.tasks && within p b.cores) ≡ true).
      let a = and-true (within t b.tasks) (within p b.cores) e in
      let u = within_bounds t b.tasks a.0 in
      let v = within_bounds p b.cores a.1 in
      rw e at (h.executions t p u.0 u.1 v.0 v.1))

  internal_same : (t p : ℕ) → internal_of s b t p ≡ (law_chain head l b).internal t p
  unfolding internal_of law_chain
  internal_same t p = same_where (has_next t b.tasks && within p b.cores) _ _ (λ (e : (has_next t b.tasks && within p b.cores) ≡ true).
      let a = and-true (has_next t b.tasks) (within p b.cores) e in
      let u = has_next_bounds t b.tasks a.0 in
      let v = within_bounds p b.cores a.1 in
      rw e at (h.internals t p u.0 u.1 v.0 v.1))

  external_same : (t x q : ℕ) → external_of (pair_of s b t) b.cores x q ≡ (law_chain head l b).external t x q
  unfolding external_of law_chain
  external_same t x q = ⊎_elim paired (λ (n : has_next t b.tasks ≡ false). rw (n, none n) (nothing (within x b.cores && within q b.cores))) (true_or_false (has_next t b.tasks))
    where
      paired : has_next t b.tasks ≡ true → external_of (pair_of s b t) b.cores x q ≡ (law_chain head l b).external t x q
      paired n = rw n (same_where (within x b.cores && within q b.cores) _ _ (λ (e : (within x b.cores && within q b.cores) ≡ true).
          let u = has_next_bounds t b.tasks n in
          let a = and-true (within x b.cores) (within q b.cores) e in
          let v = within_bounds x b.cores a.0 in
          let w = within_bounds q b.cores a.1 in
          rw e at (h.externals t x q u.0 u.1 v.0 v.1 w.0 w.1)))

      none : has_next t b.tasks ≡ false → pair_of s b t ≡ []
      none n = no_pair s b t n

      nothing : (c : Bool) → cond c (value_at [] (cell_of b.cores x q)) 0 ≡ 0
      nothing true = empty_value (cell_of b.cores x q)
      nothing false = refl

  pub chain_same : chain_of s b ≡ law_chain head l b
  unfolding law_chain
  chain_same = λ j. record {
    tasks = b.tasks;
    board = b.cores;
    capacity = b.capacity;
    hand_out = hand_out_same j;
    need = λ t. need_same t j;
    replicable = λ t. replicable_same t j;
    limit = λ t. limit_same t j;
    execution = λ t p. execution_same t p j;
    internal = λ t p. internal_same t p j;
    external = λ t x q. external_same t x q j;
  }

  pub chain_read : chain_of s (board_in (read_costs s)) ≡ law_chain head l b
  chain_read = ap (λ (r : Result Board Refusal). chain_of s (board_in r)) h.reads ∙ chain_same

-- on them, with buffers large enough, a search begins
pub begun : (head l out : List ℕ) → number_in (fill_answer head l out) ≡ 0 → (w work : List ℕ) → plan_bytes ≤ length w → work_words ≤ length work
    → begins (filled_costs head l out) w work ≡ true
unfolding begins
begun head l out filled w work room words =
    let r = (fill_follows head l out filled).reads in
    simp (eq-eqb (number_in (read_costs (filled_costs head l out))) 0 (rw r (refl)), le-leb plan_bytes (length w) room, le-leb work_words (length work) words)
