-- Lookups on a board's costs: each is what the one record that bears the key says, and at most the most value.
-- By the places of the keys; a pair's part is a part of the file. Assumes nothing.
use mathlib.Core.Path.{◌≡◌, refl, sym, ap, ◌∙◌}
use mathlib.Core.List.{List}
use mathlib.Core.Bool.{Bool, true, false, cond, ◌&&◌}
use mathlib.Core.Logic.{⊎_elim}
use Prim.Native.Nat.{ℕ, zero, suc, ◌+◌, ◌-◌, ◌*◌, ◌%◌, ◌≤◌, ◌<◌}
use native.Mathlib.Nat.{suc-mul, mul-le-mul_right}
use native.Mathlib.Omega.{arith}
use lib.ListN.{length, get_or, take, drop}
use lib.Seq.{get_or-take, get_or-drop}
use lib.Dec.{eqb}
use borrow.Author.Tests.{eq-eqb, le-leb, eqb-true, eqb-false}
use Rattle.fields.specs.Fields.{byte_at, value_at}
use Rattle.records.specs.declared.Board.{Board}
use Rattle.records.specs.declared.Key.{Key}
use Rattle.records.specs.Costs.{most_cores, most_value, key, due_key, count_of}
use Rattle.records.specs.Format.{Bears, InRange, IsCosts}
use Rattle.records.proofs.Cases.{true_or_false, and-true}
use Rattle.records.proofs.Exact.{some_records}
use Rattle.records.proofs.Listing.{key_at}
use Rattle.lookups.specs.Lookups.{within, has_next, cell_of, need_of, replicable_of, hand_out_of, limit_of, execution_of, internal_of, pair_place, pair_of, external_of, RecordSays}
use Rattle.lookups.proofs.Inside.{within_true, within_bounds, has_next_true, has_next_bounds}
use Rattle.lookups.proofs.Places.{cell_of_lt, place_of, place_of_due, due_kind, due_task_lem, due_execution, due_internal, due_external}

-- a value where a test holds, else 0
most_where : (t : Bool) (v most : ℕ) → (t ≡ true → v ≤ most) → cond t v 0 ≤ most
most_where true v most h = h refl
most_where false v most h = omega arith

-- ---- a part of the file

module _ (s : List ℕ) (a w n : ℕ) (inside : n < w) where
  byte_of_part : (j : ℕ) → j < 8 → byte_at (take (8 * w) (drop (8 * a) s)) n j ≡ byte_at s (a + n) j
  byte_of_part j h =
      let e : 8 * a + (8 * n + j) ≡ 8 * (a + n) + j = omega arith in
      get_or-take (8 * w) (drop (8 * a) s) (8 * n + j) 0 (omega arith) ∙ get_or-drop (8 * a) s (8 * n + j) 0 ∙ ap (λ (i : ℕ). get_or s i 0) e

  pub value_of_part : value_at (take (8 * w) (drop (8 * a) s)) n ≡ value_at s (a + n)
  unfolding value_at
  value_of_part = cc (byte_of_part 4 (omega arith), byte_of_part 5 (omega arith), byte_of_part 6 (omega arith), byte_of_part 7 (omega arith))

-- ---- on a board's costs

module _ (s : List ℕ) (b : Board) (c : IsCosts s b) where
  count : ℕ
  count = count_of b.tasks b.cores

  place : Key → ℕ
  place d = place_of b.tasks b.cores d.kind d.task d.a d.b

  right_at : (n : ℕ) (d : Key) → 1 ≤ n → n < count → due_key b.tasks b.cores n ≡ d → Bears s n d × InRange s n d
  unfolding count
  right_at n d l u e = rw (key_at b.tasks b.cores (key 0 0 0 0) n l u ∙ e) at (c.right n l u)

  -- two keys that one record bears, not the first, have one place
  one_place : (n : ℕ) (d e : Key) → (d.kind ≡ 1 → ⊥) → Bears s n d → Bears s n e → place d ≡ place e
  unfolding place place_of
  one_place n d e later x y = ⊎_elim
      (λ t. let two = eqb-true d.kind 2 t in simp (eq-eqb d.kind 2 two, eq-eqb e.kind 2 (sym y.kind ∙ x.kind ∙ two)) (sym (x.task later) ∙ y.task (differs 1 later)))
      (λ t. let other = eqb-false d.kind 2 t in
      cc (sym x.kind ∙ y.kind, sym (x.task later) ∙ y.task (differs 1 later), sym (x.a other) ∙ y.a (differs 2 other), sym (x.b other) ∙ y.b (differs 2 other)))
      (true_or_false (eqb d.kind 2))
    where
      differs : (i : ℕ) → (d.kind ≡ i → ⊥) → e.kind ≡ i → ⊥
      differs i other q = other (sym x.kind ∙ y.kind ∙ q)

  place_of_bearer : (d : Key) → (d.kind ≡ 1 → ⊥) → (n : ℕ) → n < count → Bears s n d → n ≡ place d
  unfolding place count
  place_of_bearer d other zero u h = absurd (other (sym h.kind ∙ c.headed.kind))
  place_of_bearer d other (suc m) u h =
      let e = due_key b.tasks b.cores (suc m) in
      sym (one_place (suc m) d e other h (right_at (suc m) e (omega arith) u refl).0 ∙ place_of_due b.tasks b.cores (suc m) (omega arith))

  module _ {A : Type 0} (of : ℕ → A) (v : A) where
    says_at : (d : Key) (n : ℕ) → (d.kind ≡ 1 → ⊥) → place d ≡ n → 1 ≤ n → n < count → due_key b.tasks b.cores n ≡ d → v ≡ of n → RecordSays s b d of v
    unfolding count
    says_at d n other q l u e w =
        record { place = n; there = u; bears = (right_at n d l u e).0; alone = λ i h x. place_of_bearer d other i h x ∙ q; says = w }

  -- ---- kind 1

  -- the board's record is the first, and no other
  first_bears : Bears s 0 (key 1 0 b.cores b.tasks)
  first_bears = record {
    kind = c.headed.kind;
    task = λ z. absurd (z refl);
    a = λ z. ap (λ (x : Board). x.cores) (sym c.board);
    b = λ z. ap (λ (x : Board). x.tasks) (sym c.board);
  }

  first_alone : (n : ℕ) → n < count → Bears s n (key 1 0 b.cores b.tasks) → n ≡ 0
  unfolding count
  first_alone zero u h = refl
  first_alone (suc m) u h =
      let e = due_key b.tasks b.cores (suc m) in
      absurd (omega (arith, due_kind b.tasks b.cores (suc m), sym (right_at (suc m) e (omega arith) u refl).0.kind ∙ h.kind))

  pub hand_out_says : RecordSays s b (key 1 0 b.cores b.tasks) (λ n. byte_at s n 1 % 256) (hand_out_of s)
  unfolding hand_out_of count
  hand_out_says = record { place = 0; there = some_records b.tasks b.cores; bears = first_bears; alone = first_alone; says = refl }

  -- ---- kind 2

  module _ (t : ℕ) (l : 1 ≤ t) (u : t ≤ b.tasks) where
    task_there : t < count
    unfolding count count_of
    task_there = omega arith

    task_says : {A : Type 0} (of : ℕ → A) (v : A) → v ≡ of t → RecordSays s b (key 2 t 0 0) of v
    unfolding place place_of
    task_says of v e = says_at of v (key 2 t 0 0) t (λ z. omega arith) refl l task_there (due_task_lem b.tasks b.cores t l u) e

    pub need_says : RecordSays s b (key 2 t 0 0) (value_at s) (need_of s b t)
    unfolding need_of
    need_says = task_says (value_at s) (need_of s b t) (simp (within_true t b.tasks l u))

    pub replicable_says : RecordSays s b (key 2 t 0 0) (λ n. eqb (byte_at s n 2) 1) (replicable_of s b t)
    unfolding replicable_of
    replicable_says = task_says (λ n. eqb (byte_at s n 2) 1) (replicable_of s b t) (simp (within_true t b.tasks l u))

    pub limit_says : RecordSays s b (key 2 t 0 0) (λ n. byte_at s n 3) (limit_of s b t)
    unfolding limit_of
    limit_says = task_says (λ n. byte_at s n 3) (limit_of s b t) (simp (within_true t b.tasks l u))

    task_in_range : InRange s t (key 2 t 0 0)
    task_in_range = (right_at t (key 2 t 0 0) l task_there (due_task_lem b.tasks b.cores t l u)).1

  pub need_most : (t : ℕ) → need_of s b t ≤ most_value
  unfolding need_of
  need_most t = most_where (within t b.tasks) (value_at s t) most_value (λ e. let h = within_bounds t b.tasks e in (task_in_range t h.0 h.1).value)

  pub limit_most : (t : ℕ) → limit_of s b t ≤ most_cores
  unfolding limit_of
  limit_most t = most_where (within t b.tasks) (byte_at s t 3) most_cores (λ e. let h = within_bounds t b.tasks e in (task_in_range t h.0 h.1).limit refl)

  -- ---- kinds 3 and 4

  module _ (t p : ℕ) (l : 1 ≤ t) (p_low : 1 ≤ p) (p_high : p ≤ b.cores) where
    execution_place : ℕ
    execution_place = 1 + b.tasks + cell_of b.cores t p

    internal_place : ℕ
    internal_place = 1 + b.tasks + b.tasks * b.cores + cell_of b.cores t p

    execution_there : t ≤ b.tasks → execution_place < count
    unfolding count count_of execution_place
    execution_there u = omega (arith, cell_of_lt b.cores b.tasks t p l u p_low p_high)

    internal_there : t < b.tasks → internal_place < count
    unfolding count count_of internal_place
    internal_there u = omega (arith, cell_of_lt b.cores (b.tasks - 1) t p l (omega arith) p_low p_high)

    pub execution_says : t ≤ b.tasks → RecordSays s b (key 3 t p 0) (value_at s) (execution_of s b t p)
    unfolding execution_of place place_of execution_place
    execution_says u =
        says_at (value_at s) (execution_of s b t p) (key 3 t p 0) execution_place (λ z. omega arith) refl (omega arith) (execution_there u)
        (due_execution b.tasks b.cores t l p p_low p_high u) (simp (within_true t b.tasks l u, within_true p b.cores p_low p_high))

    pub internal_says : t < b.tasks → RecordSays s b (key 4 t p 0) (value_at s) (internal_of s b t p)
    unfolding internal_of place place_of internal_place
    internal_says u =
        says_at (value_at s) (internal_of s b t p) (key 4 t p 0) internal_place (λ z. omega arith) refl (omega arith) (internal_there u)
        (due_internal b.tasks b.cores t l p p_low p_high u) (simp (has_next_true t b.tasks l u, within_true p b.cores p_low p_high))

    execution_in_range : t ≤ b.tasks → value_at s execution_place ≤ most_value
    unfolding execution_place
    execution_in_range u = (right_at execution_place (key 3 t p 0) (omega arith) (execution_there u) (due_execution b.tasks b.cores t l p p_low p_high u)).1.value

    internal_in_range : t < b.tasks → value_at s internal_place ≤ most_value
    unfolding internal_place
    internal_in_range u = (right_at internal_place (key 4 t p 0) (omega arith) (internal_there u) (due_internal b.tasks b.cores t l p p_low p_high u)).1.value

  pub execution_most : (t p : ℕ) → execution_of s b t p ≤ most_value
  unfolding execution_of execution_place
  execution_most t p =
      most_where (within t b.tasks && within p b.cores) (value_at s (1 + b.tasks + cell_of b.cores t p)) most_value
      (λ e. let h = and-true _ _ e in let x = within_bounds t b.tasks h.0 in let y = within_bounds p b.cores h.1 in
      execution_in_range t p x.0 y.0 y.1 x.1)

  pub internal_most : (t p : ℕ) → internal_of s b t p ≤ most_value
  unfolding internal_of internal_place
  internal_most t p =
      most_where (has_next t b.tasks && within p b.cores) (value_at s (1 + b.tasks + b.tasks * b.cores + cell_of b.cores t p)) most_value
      (λ e. let h = and-true _ _ e in let x = has_next_bounds t b.tasks h.0 in let y = within_bounds p b.cores h.1 in
      internal_in_range t p x.0 y.0 y.1 x.1)

  -- ---- kind 5

  module _ (t : ℕ) (l : 1 ≤ t) (u : t < b.tasks) where
    start : ℕ
    start = pair_place b.tasks b.cores t

    square : ℕ
    square = b.cores * b.cores

    part_inside : start + square ≤ count
    unfolding start square count count_of pair_place
    part_inside = omega (arith, suc-mul (t - 1) (b.cores * b.cores), mul-le-mul_right {m = suc (t - 1)} {n = b.tasks - 1} (b.cores * b.cores) (omega arith))

    pub part_of_pair : pair_of s b t ≡ take (8 * (b.cores * b.cores)) (drop (8 * pair_place b.tasks b.cores t) s)
    unfolding pair_of start square count
    part_of_pair =
        simp (has_next_true t b.tasks l u, le-leb (8 * start + 8 * square) (length s) (omega (arith, c.long, part_inside)))

    module _ (x q : ℕ) (x_low : 1 ≤ x) (x_high : x ≤ b.cores) (q_low : 1 ≤ q) (q_high : q ≤ b.cores) where
      cell : ℕ
      cell = cell_of b.cores x q

      cell_inside : cell < square
      unfolding cell square
      cell_inside = cell_of_lt b.cores b.cores x q x_low x_high q_low q_high

      external_there : start + cell < count
      external_there = omega (arith, part_inside, cell_inside)

      part_value : value_at (pair_of s b t) cell ≡ value_at s (start + cell)
      unfolding start square
      part_value = rw part_of_pair (value_of_part s start square cell cell_inside)

      some_start : 1 ≤ start + cell
      unfolding start pair_place
      some_start = omega arith

      pub external_says : RecordSays s b (key 5 t x q) (value_at s) (external_of (pair_of s b t) b.cores x q)
      unfolding external_of place place_of start cell
      external_says =
          says_at (value_at s) (external_of (pair_of s b t) b.cores x q) (key 5 t x q) (start + cell) (λ z. omega arith) refl some_start external_there
          (due_external b.tasks b.cores t l x q x_low x_high q_low q_high)
          (simp (within_true x b.cores x_low x_high, within_true q b.cores q_low q_high) part_value)

      part_in_range : value_at (pair_of s b t) cell ≤ most_value
      unfolding start cell
      part_in_range =
          rw part_value (right_at (start + cell) (key 5 t x q) some_start external_there (due_external b.tasks b.cores t l x q x_low x_high q_low q_high)).1.value

  -- a part that is not there says 0
  no_part : (t n : ℕ) → has_next t b.tasks ≡ false → value_at (pair_of s b t) n ≤ most_value
  unfolding pair_of value_at
  no_part t n e = simp e (omega arith)

  pub external_most : (t x q : ℕ) → external_of (pair_of s b t) b.cores x q ≤ most_value
  unfolding external_of cell
  external_most t x q =
      most_where (within x b.cores && within q b.cores) (value_at (pair_of s b t) (cell_of b.cores x q)) most_value
      (λ e. let h = and-true _ _ e in let y = within_bounds x b.cores h.0 in let z = within_bounds q b.cores h.1 in
      ⊎_elim
      (λ f. let g = has_next_bounds t b.tasks f in part_in_range t g.0 g.1 x q y.0 y.1 z.0 z.1)
      (no_part t (cell_of b.cores x q))
      (true_or_false (has_next t b.tasks)))
