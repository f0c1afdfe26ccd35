-- The walk's loop on plan bytes: what is laid is the bytes of the modules that the walk has passed, and the room after the last of them
-- is what the code keeps of it. By the walk's laws among the modules of plans of the fewest cores. Assumes nothing.
use mathlib.Core.Path.{◌≡◌, refl, sym, ap, subst, ◌∙◌, fun_ext}
use mathlib.Core.Bool.{true}
use mathlib.Core.List.{List, ◌∷◌, ◌++◌, []}
use Prim.Native.Nat.{ℕ, suc, ◌+◌, ◌-◌, ◌*◌, ◌≤◌, ◌<◌}
use native.Mathlib.Nat.{mul-le-mul}
use native.Mathlib.Omega.{arith}
use lib.ListN.{length, length-append}
use lib.Dec.{T}
use borrow.Author.Tests.{ne_eqb}
use Rattle.modules.specs.declared.Module.{Module}
use Rattle.modules.specs.Model.{Chain}
use Rattle.layout.specs.Layout.{most_modules, encode_plan, put_module}
use Rattle.layout.proofs.Placing.{encode_length, put_bytes}
use Rattle.search.specs.Least.{pick}
use Rattle.search.specs.Plan.{cap}
use Rattle.search.specs.Walk.{chosen, room_after, First}
use Rattle.search.specs.Loops.{Walking}
use Rattle.search.proofs.Tests.{bool_eq}
use Rattle.search.proofs.Least.{least_at}
use Rattle.search.proofs.Weight.{attained, table_le}
use Rattle.search.proofs.Walk.{walk_is}
use Rattle.search.proofs.Sparing.{need_most, sparing_fair}
use Rattle.search.proofs.Steps.{walking_start, walking_end, chosen_bounds, chosen_passes, walking_next}
use Rattle.slack.specs.Problem.{price, problem, enough_on, fewest_on, need_on, sparing_on}
use Rattle.slack.proofs.Instance.{problem_priced}
use Rattle.walk.specs.declared.rooms.Passed.{Passed}
use Rattle.weights.specs.Cells.{no_plan, weight_on, light_on, Weighed}
use Rattle.walk.specs.Walk.{plan_on, PassedRight, room_of, may_come, SomeNext}
use Rattle.weights.proofs.Fitting.{fits_reached}
use Rattle.walk.proofs.Coming.{Has, comes_has, comes_room, passed_closed}

-- before the first module of a plan of so many cores, with that much left
abbrev pub at_start : (whole left : ℕ) → Passed
at_start whole left = record { before = 0; from = 0; last = 0; copies = 0; cores = 0; spare = 0; whole = whole; left = left }

-- the module x after m, which spares so many of the fewest cores, with that much left
abbrev pub after : Passed → Module → (spare whole left : ℕ) → Passed
after m x spare whole left =
    record { before = m.cores; from = m.last; last = x.last; copies = x.copies; cores = x.cores; spare = spare; whole = whole; left = left }

module _ (c : Chain) (n : ℕ) where
  -- the cap of its table is what stands for "none"
  light_low : {v : ℕ} → v ≡ light_on c n → v < no_plan c.board → light_on c n < cap (problem c)
  unfolding cap
  light_low e h = omega arith

  -- the plan is the first of the lightest
  plan_first : light_on c n < cap (problem c) → First (problem c) (sparing_on c n) 0 0 (λ q. suc (light_on c n)) (plan_on c n)
  plan_first low =
      let X = problem c in
      let g = sparing_on c n in
      let F = sparing_fair X n (enough_on c n) in
      let (q, h, e) = least_at (cap X) (suc c.board) (weight_on c n 0 0) low in
      let a = attained X g c.tasks 0 0 q (omega arith) in
      walk_is X g (weight_on c n) F (problem_priced c) (table_le X g F (problem_priced c)) (attained X g c.tasks) c.tasks 0 0
      (λ q. suc (light_on c n)) (omega arith) (λ q. low) a.modules (record { ok = a.ok; light = omega (arith, a.weighs) })

  -- v holds the i modules that are passed, the last of which is m
  pub record Laid (w : List ℕ) (m : Passed) (i : ℕ) (v : List ℕ) : Type 0 where
    pub done : List Module
    pub left : ℕ
    pub bytes : v ≡ encode_plan done
    pub count : length done ≡ i
    pub few : i ≤ m.last
    pub right : PassedRight c n w m
    pub walking : Walking (problem c) (sparing_on c n) (plan_on c n) done left m.cores m.last (room_of c n m)

  pub laid_start : {w : List ℕ} {whole weight : ℕ} {v : List ℕ} → whole ≡ fewest_on c n → whole ≤ c.board → weight ≡ light_on c n → weight < no_plan c.board → v ≡ encode_plan []
      → Laid w (at_start whole (weight + 1)) 0 v
  unfolding room_of
  laid_start {w} {whole} {weight} most high e h b =
      let X = problem c in
      let low = light_low e h in
      let same : weight + 1 ≡ suc (light_on c n) = omega arith in
      record {
        done = [];
        left = c.tasks;
        bytes = b;
        count = omega arith;
        few = omega arith;
        right = record {
          whole = most;
          board = high;
          before = λ _. refl;
          reached = λ z. absurd (z refl);
          closed = λ z. absurd (z refl);
          spares = λ z. absurd (z refl);
          few = λ z. absurd (z refl);
        };
        walking = subst (Walking X (sparing_on c n) (plan_on c n) [] c.tasks 0 0) (fun_ext (λ q. sym same))
            (walking_start X (problem_priced c) (sparing_on c n) (sparing_fair X n (enough_on c n)) (plan_on c n) (λ q. suc (light_on c n)) (λ q. low) refl (plan_first low).fine);
      }

  module _ (w : List ℕ) (m : Passed) (i : ℕ) (v : List ℕ) (laid : Laid w m i v) where
    pub laid_length : length v ≡ 4 * most_modules
    laid_length = ap length laid.bytes ∙ encode_length most_modules laid.done

    pub laid_end : c.tasks ≤ m.last → v ≡ encode_plan (plan_on c n)
    laid_end h =
        laid.bytes
        ∙ ap encode_plan (walking_end (problem c) (problem_priced c) (sparing_on c n) (sparing_fair (problem c) n (enough_on c n)) (plan_on c n) laid.done laid.left m.cores m.last (room_of c n m) laid.walking h)

    module _ (more : m.last < c.tasks) where
      -- the module that the walk takes
      abbrev pub next : Module
      next = chosen (problem c) (sparing_on c n) (weight_on c n) m.cores m.last (room_of c n m)

      next_bounds : (m.last < next.last) × (next.last ≤ c.tasks) × (next.copies ≤ c.board) × (next.cores ≤ c.board)
      next_bounds =
          chosen_bounds (problem c) (problem_priced c) (sparing_on c n) (sparing_fair (problem c) n (enough_on c n)) (plan_on c n) laid.done m.cores m.last (room_of c n m) laid.left laid.walking more

      next_passes : T (may_come c n m next.last next.copies next.cores)
      next_passes =
          chosen_passes (problem c) (problem_priced c) (sparing_on c n) (sparing_fair (problem c) n (enough_on c n)) (plan_on c n) laid.done m.cores m.last (room_of c n m) laid.left laid.walking more

      pub next_some : SomeNext c n m
      next_some = record {
        last = next.last;
        copies = next.copies;
        cores = next.cores;
        inside = (next_bounds.1, next_bounds.2, next_bounds.3);
        comes = bool_eq _ true (λ _. tt) (λ _. next_passes);
      }

      -- it is one of a plan of the fewest cores, and there is room for it; after it the walk goes on, with what it leaves of the room
      module _ (x : Module) (is : x ≡ next) where
        passes : T (may_come c n m x.last x.copies x.cores)
        passes = subst (λ y. T (may_come c n m y.last y.copies y.cores)) (sym is) next_passes

        pub next_has : (q : ℕ) × Has c n m x.last x.copies x.cores q
        next_has = comes_has c n m x.last x.copies x.cores passes

        module _ {room : ℕ} (e : room ≡ room_of c n m x.cores) where
          pub next_room : room ≡ 0 → ⊥
          next_room z = comes_room c n m x.last x.copies x.cores passes (sym e ∙ z)

          room_after_lem : (spare whole : ℕ) → room_after (problem c) (sparing_on c n) m.cores m.last (room_of c n m) x ≡ room_of c n (after m x spare whole room)
          unfolding room_after room_of
          room_after_lem spare whole = fun_ext (λ q.
              rw (ne_eqb x.last 0 (λ z. omega (arith, next_has.1.fits.later)))
              (ap (λ v. pick (sparing_on c n m.cores m.last x.last x.copies x.cores q) (v - price c m.last x.last x.copies x.cores q) 0) (sym e)))

          module _ {left whole : ℕ} (weighed : Weighed c n w) (most : whole ≡ fewest_on c n) (rest : left ≡ need_on c n m.cores m.last x.cores) where
            right_next : PassedRight c n w (after m x (left - x.copies * x.cores) whole room)
            right_next =
                let (q, f) = next_has in
                let some = mul-le-mul {n₁ = 1} {m₁ = 1} {n₂ = x.copies} {m₂ = x.cores} f.fits.one_copy f.fits.one_core in
                let high = need_most c.board (enough_on c n) m.cores m.last x.cores in
                record {
                  whole = most;
                  board = omega (arith, most, laid.right.whole, laid.right.board);
                  before = λ z. absurd (omega (arith, f.fits.later));
                  reached = λ _. fits_reached c n m.cores m.last x.last x.copies x.cores q f.fits;
                  closed = λ _. passed_closed c n m laid.right x.cores e next_room weighed more f.fits.one_core (omega (arith, f.beside));
                  spares = λ _. (f.few, omega arith);
                  few = λ _. omega arith;
                }

            pub laid_next : {v' : List ℕ} → c.tasks ≤ most_modules → v' ≡ put_module v i x → Laid w (after m x (left - x.copies * x.cores) whole room) (i + 1) v'
            laid_next few b = record {
              done = laid.done ++ (x ∷ []);
              left = laid.left - 1;
              bytes = b ∙ rw laid.bytes (put_bytes x laid.done i laid.count (omega (arith, laid.few)));
              count = simp length-append (omega (arith, laid.count));
              few = omega (arith, laid.few, next_has.1.fits.later);
              right = right_next;
              walking = subst (Walking (problem c) (sparing_on c n) (plan_on c n) (laid.done ++ (x ∷ [])) (laid.left - 1) x.cores x.last) (room_after_lem (left - x.copies * x.cores) whole)
                  (subst (λ y. Walking (problem c) (sparing_on c n) (plan_on c n) (laid.done ++ (y ∷ [])) (laid.left - 1) y.cores y.last
                  (room_after (problem c) (sparing_on c n) m.cores m.last (room_of c n m) y)) (sym is)
                  (walking_next (problem c) (problem_priced c) (sparing_on c n) (sparing_fair (problem c) n (enough_on c n)) (plan_on c n) laid.done m.cores m.last (room_of c n m) laid.left laid.walking more));
            }
