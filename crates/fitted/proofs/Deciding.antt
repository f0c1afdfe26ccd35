-- The service's answer against M-101's direct statement, and what it leaves of the output. Assumes nothing.
use mathlib.Core.Path.{◌≡◌, refl}
use mathlib.Core.Bool.{true, false}
use mathlib.Core.List.{List, ◌++◌}
use mathlib.Core.Logic.{⊎_elim}
use Prim.Native.Nat.{ℕ, ◌*◌, ◌≤◌}
use native.Mathlib.Omega.{arith}
use lib.ListN.{length, take, drop}
use lib.Seq.{take_at, drop_at}
use lib.Dec.{leb}
use borrow.Author.Tests.{ne_eqb, le-leb, lt-leb, leb-true, leb-false}
use Rattle.std.specs.Prelude.{Result, Ok, Err}
use Rattle.records.specs.declared.Board.{Board}
use Rattle.records.specs.declared.refusal.Refusal.{Refusal}
use Rattle.records.specs.Costs.{count_of, board_in}
use Rattle.records.specs.Filled.{count_in}
use Rattle.records.specs.Refusals.{number_of, number_in}
use Rattle.records.proofs.Cases.{true_or_false, true_not_false, false_unless}
use Rattle.records.proofs.Refusing.{number_some, refused_or_not}
use Rattle.fitted.specs.Fill.{read_first, law_count, laws_meet, values_meet, all_records, laws_fault, answer_on, bytes_on, fill_answer, fill_bytes}
use Rattle.fitted.specs.Claims.{IsFirst, IsLaws, InBounds, FirstFinds.first, Fills, Fills.enough, Fills.first_wrong, Fills.laws_wrong, Fills.value_wrong, Fills.output_short, Follows}
use Rattle.fitted.proofs.Begun.{finds, finds_only, finds_first}
use Rattle.fitted.proofs.Stated.{meets_laws, laws_meet_lem}
use Rattle.fitted.proofs.Bounded.{meet_bounds, bounds_meet}
use Rattle.fitted.proofs.Filling.{follows, all_long}

module _ (head l out : List ℕ) where
  -- ---- what it answers is to be answered

  module _ (b : Board) (f : IsFirst head b) where
    k : ℕ
    k = b.tasks

    p : ℕ
    p = b.cores

    some : 1 ≤ k
    unfolding k
    some = f.ranged.some_tasks

    room : IsLaws l k → InBounds l k p → Fills head l out (answer_on l k p out)
    unfolding answer_on laws_fault k p
    room i v = rw (laws_meet_lem l k some i, bounds_meet l k p some i v) (⊎_elim
        (λ (t : leb (8 * count_of k p) (length out) ≡ true). rw t (enough b f i v (leb-true _ _ t)))
        (λ (t : leb (8 * count_of k p) (length out) ≡ false). rw t (output_short b f i v (leb-false _ _ t)))
        (true_or_false (leb (8 * count_of k p) (length out))))

    values : IsLaws l k → Fills head l out (answer_on l k p out)
    unfolding answer_on laws_fault k p
    values i = ⊎_elim
        (λ t. room i (meet_bounds l k p some i t))
        (λ (t : values_meet l p 0 (law_count k) ≡ false). rw (laws_meet_lem l k some i, t) (value_wrong b f i (λ v. true_not_false _ (bounds_meet l k p some i v) t)))
        (true_or_false (values_meet l p 0 (law_count k)))

    on_board : Fills head l out (answer_on l b.tasks b.cores out)
    unfolding answer_on laws_fault k p
    on_board = ⊎_elim
        (λ t. values (meets_laws l k some t))
        (λ (t : laws_meet l k ≡ false). rw t (laws_wrong b f (λ i. true_not_false _ (laws_meet_lem l k some i) t)))
        (true_or_false (laws_meet l k))

  pub answered : Fills head l out (fill_answer head l out)
  unfolding fill_answer
  answered = ⊎_elim
      (λ (t : (b : Board) × (read_first head ≡ Ok b)). rw t.1 (on_board t.0 (finds_first head (read_first head) (finds head) t.1)))
      (λ (t : (e : Refusal) × (read_first head ≡ Err e)). rw t.1 (first_wrong t.0 (rw t.1 at (finds head))))
      (refused_or_not (read_first head))

  -- ---- what is to be answered, it answers

  reads : (b : Board) → IsFirst head b → read_first head ≡ Ok b
  reads b f = finds_only head (Ok b) (first b f)

  pub answered_only : (a : Result ℕ Refusal) → Fills head l out a → fill_answer head l out ≡ a
  unfolding fill_answer answer_on laws_fault
  answered_only a (enough b f i v r) =
      let some = f.ranged.some_tasks in
      rw (reads b f) (simp (laws_meet_lem l b.tasks some i, bounds_meet l b.tasks b.cores some i v, le-leb (8 * count_of b.tasks b.cores) (length out) r))
  answered_only a (first_wrong e f) = rw (finds_only head (Err e) f) refl
  answered_only a (laws_wrong b f i) =
      rw (reads b f) (simp (false_unless (laws_meet l b.tasks) (meets_laws l b.tasks f.ranged.some_tasks) i))
  answered_only a (value_wrong b f i v) =
      let some = f.ranged.some_tasks in
      rw (reads b f) (simp (laws_meet_lem l b.tasks some i, false_unless (values_meet l b.cores 0 (law_count b.tasks)) (meet_bounds l b.tasks b.cores some i) v))
  answered_only a (output_short b f i v r) =
      let some = f.ranged.some_tasks in
      rw (reads b f) (simp (laws_meet_lem l b.tasks some i, bounds_meet l b.tasks b.cores some i v, lt-leb (8 * count_of b.tasks b.cores) (length out) r))

  -- ---- a refusal has no count and leaves the output

  numbered : (a : Result ℕ Refusal) → (number_in a ≡ 0 → ⊥) → count_in a ≡ 0
  numbered (Ok count) n = absurd (n refl)
  numbered (Err e) n = refl

  pub refused_empty : (number_in (fill_answer head l out) ≡ 0 → ⊥) → count_in (fill_answer head l out) ≡ 0
  refused_empty = numbered (fill_answer head l out)

  pub refused_lent : (number_in (fill_answer head l out) ≡ 0 → ⊥) → fill_bytes head l out ≡ out
  unfolding fill_answer fill_bytes bytes_on
  refused_lent n = ⊎_elim
      (λ (t : (b : Board) × (read_first head ≡ Ok b)).
      let on : number_in (answer_on l t.0.tasks t.0.cores out) ≡ 0 → ⊥ = rw t.1 at n in
      rw t.1 (simp (ne_eqb (number_in (answer_on l t.0.tasks t.0.cores out)) 0 on)))
      (λ (t : (e : Refusal) × (read_first head ≡ Err e)). rw t.1 (simp (ne_eqb (number_of t.0) 0 (number_some t.0))))
      (refused_or_not (read_first head))

  -- ---- what is filled in

  -- all that is found of the board b before anything is filled in
  record Found (b : Board) : Type 0 where
    reads_as : read_first head ≡ Ok b
    first_part : IsFirst head b
    laws : IsLaws l b.tasks
    bounds : InBounds l b.tasks b.cores
    answer : fill_answer head l out ≡ Ok (8 * count_of b.tasks b.cores)

  found_of : (a : Result ℕ Refusal) → Fills head l out a → fill_answer head l out ≡ a → number_in a ≡ 0 → (b : Board) × Found b
  found_of a (enough b f i v r) e z = (b, record { reads_as = reads b f; first_part = f; laws = i; bounds = v; answer = e })
  found_of a (first_wrong r f) e z = absurd (number_some r z)
  found_of a (laws_wrong b f i) e z = absurd (omega arith)
  found_of a (value_wrong b f i v) e z = absurd (omega arith)
  found_of a (output_short b f i v r) e z = absurd (omega arith)

  -- the full set of records, then what was lent
  bytes_of : (b : Board) → Found b → fill_bytes head l out ≡ all_records head l b.tasks b.cores ++ drop (8 * count_of b.tasks b.cores) out
  unfolding fill_answer fill_bytes bytes_on
  bytes_of b f =
      let e : answer_on l b.tasks b.cores out ≡ Ok (8 * count_of b.tasks b.cores) = rw f.reads_as at f.answer in
      rw (f.reads_as, e) (refl)

  module _ (b : Board) (f : Found b) where
    all : List ℕ
    all = all_records head l b.tasks b.cores

    total : ℕ
    total = 8 * count_of b.tasks b.cores

    long : length all ≡ total
    unfolding all total
    long = all_long head l b f.first_part f.laws f.bounds

    follows_of : Follows (take (count_in (fill_answer head l out)) (fill_bytes head l out)) head l (board_in (read_first head))
    unfolding all total
    follows_of =
        rw (bytes_of b f, f.answer, f.reads_as, take_at all (drop total out) total long)
        (follows head l b f.first_part f.laws f.bounds)

    beyond_of : drop (count_in (fill_answer head l out)) (fill_bytes head l out) ≡ drop (count_in (fill_answer head l out)) out
    unfolding all total
    beyond_of = rw (bytes_of b f, f.answer) (drop_at all (drop total out) total long)

    count_of_lem : count_in (fill_answer head l out) ≡ 8 * count_of (board_in (read_first head)).tasks (board_in (read_first head)).cores
    count_of_lem = rw (f.answer, f.reads_as) (refl)

    first_of : IsFirst head (board_in (read_first head))
    first_of = rw f.reads_as f.first_part

    laws_of : IsLaws l (board_in (read_first head)).tasks
    laws_of = rw f.reads_as f.laws

  module _ (z : number_in (fill_answer head l out) ≡ 0) where
    some_board : (b : Board) × Found b
    some_board = found_of (fill_answer head l out) answered refl z

    pub fill_follows : Follows (take (count_in (fill_answer head l out)) (fill_bytes head l out)) head l (board_in (read_first head))
    fill_follows = follows_of some_board.0 some_board.1

    pub fill_beyond : drop (count_in (fill_answer head l out)) (fill_bytes head l out) ≡ drop (count_in (fill_answer head l out)) out
    fill_beyond = beyond_of some_board.0 some_board.1

    pub fill_count : (count_in (fill_answer head l out)) ≡ 8 * count_of (board_in (read_first head)).tasks (board_in (read_first head)).cores
    fill_count = count_of_lem some_board.0 some_board.1

    pub fill_first : IsFirst head (board_in (read_first head))
    fill_first = first_of some_board.0 some_board.1

    pub fill_laws : IsLaws l (board_in (read_first head)).tasks
    fill_laws = laws_of some_board.0 some_board.1
