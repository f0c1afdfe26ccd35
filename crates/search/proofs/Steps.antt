-- The walk as a program's loop, among modules that keep any rule: its start, the module that it takes next, and its end, which is the
-- plan. One step of the walk's definition at a time.
use Prim.Native.Nat.{ℕ, zero, suc, ◌-◌, ◌≤◌, ◌<◌}
use native.Mathlib.Omega.{arith}
use native.Mathlib.Nat.{le_trans}
use mathlib.Core.Path.{◌≡◌, refl, sym, ◌∙◌, subst}
use mathlib.Core.Bool.{not}
use mathlib.Core.List.{List, [], ◌∷◌, ◌++◌, append-nil, append_assoc}
use lib.Dec.{T, eqb, eqb_refl}
use Rattle.modules.specs.declared.Module.{Module}
use Rattle.search.specs.Plan.{Rule, Problem, module_after, cap, Priced}
use Rattle.search.specs.Weight.{Table, table}
use Rattle.search.specs.Walk.{Room, choice, chosen, room_after, walk, Fine}
use Rattle.search.specs.Loops.{Walking}
use Rattle.search.proofs.Tests.{cond_yes, cond_no, ne→neqb}
use Rattle.search.proofs.Plan.{Fair, fair_at}
use Rattle.search.proofs.Weight.{head_bounds, table_le, attained}
use Rattle.search.proofs.First.{first_nested}
use Rattle.search.proofs.Walk.{fine_tail, room_cap, is_choice}

-- ---- one step of the walk, and its end

module _ (X : Problem) (fits : Rule) (rest : Table) where
  pub walk_more : (m s t : ℕ) (room : Room) → t < X.tasks
      → let y = chosen X fits rest s t room in
      walk X fits rest (suc m) s t room ≡ y ∷ walk X fits rest m y.cores y.last (room_after X fits s t room y)
  unfolding walk
  walk_more m s t room h = cond_no (eqb t X.tasks) [] _ (ne→neqb t X.tasks (omega arith))

  pub walk_end : (m s t : ℕ) (room : Room) → t ≡ X.tasks → walk X fits rest m s t room ≡ []
  unfolding walk
  walk_end zero s t room h = refl
  walk_end (suc m) s t room h = cond_yes (eqb t X.tasks) [] _ (rw h (eqb_refl X.tasks))

-- the first module that three nested loops find is the one that the walk takes
pub chosen_found : (X : Problem) (fits : Rule) (rest : Table) (s t : ℕ) (room : Room) (l r p : ℕ)
    → l ≤ X.tasks → r ≤ X.board → p ≤ X.board → T (choice X fits rest s t room l r p)
    → ((l' r' p' : ℕ) → l' < l → r' ≤ X.board → p' ≤ X.board → T (not (choice X fits rest s t room l' r' p')))
    → ((r' p' : ℕ) → r' < r → p' ≤ X.board → T (not (choice X fits rest s t room l r' p')))
    → ((p' : ℕ) → p' < p → T (not (choice X fits rest s t room l r p')))
    → chosen X fits rest s t room ≡ module_after t l r p
chosen_found X fits rest s t room l r p hl hr hp u no-l no-r no-p =
    first_nested (suc X.tasks) (suc X.board) (choice X fits rest s t room) l r p (omega arith) (omega arith) (omega arith) u t
    (λ l' r' p' h a b. no-l l' r' p' h (omega arith) (omega arith)) (λ r' p' h b. no-r r' p' h (omega arith)) no-p

-- ---- the loop among modules that fit, to the plan whole

module _ (X : Problem) (A : Priced X) (fits : Rule) (F : Fair X.tasks fits) (whole : List Module) where
  pub walking_start : (room : Room) → ((q : ℕ) → room q ≤ cap X) → walk X fits (table X fits) X.tasks 0 0 room ≡ whole
      → Fine X fits 0 0 room whole → Walking X fits whole [] X.tasks 0 0 room
  walking_start room h e f = record {
    enough = omega arith;
    inside = omega arith;
    capped = h;
    so_far = e;
    fine = subst (Fine X fits 0 0 room) (sym e) f;
  }

  pub walking_end : (done : List Module) (m s t : ℕ) (room : Room) → Walking X fits whole done m s t room → X.tasks ≤ t → done ≡ whole
  walking_end done m s t room w h =
      sym (append-nil done) ∙ rw (← (walk_end X fits (table X fits) m s t room (omega (arith, w.inside)))) w.so_far

  module _ (done : List Module) (s t : ℕ) (room : Room) where
    -- the next module
    abbrev y : Module
    y = chosen X fits (table X fits) s t room

    module _ (m : ℕ) (w : Walking X fits whole done (suc m) s t room) (left : t < X.tasks) where
      -- the modules after it
      abbrev ys : List Module
      ys = walk X fits (table X fits) m y.cores y.last (room_after X fits s t room y)

      fine_here : Fine X fits s t room (y ∷ ys)
      fine_here = rw (walk_more X fits (table X fits) m s t room left) at w.fine

      bounds_here : (t < y.last) × (y.last ≤ X.tasks) × (y.copies ≤ X.board) × (y.cores ≤ X.board)
      bounds_here =
          let h = le_trans fine_here.light (w.capped y.cores) in
          let b = head_bounds X fits F A s t y ys fine_here.ok h in
          ((fair_at X.tasks fits F s t y ys fine_here.ok).0, b.0, b.1, b.2)

      passes_here : T (choice X fits (table X fits) s t room y.last y.copies y.cores)
      passes_here =
          is_choice X fits (table X fits) F A (table_le X fits F A) (attained X fits X.tasks) s t room y ys w.capped fine_here

      walking_here : Walking X fits whole (done ++ (y ∷ [])) m y.cores y.last (room_after X fits s t room y)
      walking_here = record {
        enough = omega (arith, bounds_here, w.enough);
        inside = bounds_here.1;
        capped = room_cap X fits s t room y w.capped;
        so_far = append_assoc done (y ∷ []) ys ∙ rw (← (walk_more X fits (table X fits) m s t room left)) w.so_far;
        fine = fine_tail X fits s t room y ys fine_here;
      }

    -- while tasks are left, it is within the loops' bounds
    pub chosen_bounds : (m : ℕ) → Walking X fits whole done m s t room → t < X.tasks
        → (t < y.last) × (y.last ≤ X.tasks) × (y.copies ≤ X.board) × (y.cores ≤ X.board)
    chosen_bounds zero w h = absurd (omega (arith, w.enough))
    chosen_bounds (suc m) w h = bounds_here m w h

    -- it passes the loops' test
    pub chosen_passes : (m : ℕ) → Walking X fits whole done m s t room → t < X.tasks
        → T (choice X fits (table X fits) s t room y.last y.copies y.cores)
    chosen_passes zero w h = absurd (omega (arith, w.enough))
    chosen_passes (suc m) w h = passes_here m w h

    -- and the loop goes on after it
    pub walking_next : (m : ℕ) → Walking X fits whole done m s t room → t < X.tasks
        → Walking X fits whole (done ++ (y ∷ [])) (m - 1) y.cores y.last (room_after X fits s t room y)
    walking_next zero w h = absurd (omega (arith, w.enough))
    walking_next (suc m) w h = let e : suc m - 1 ≡ m = omega arith in rw e (walking_here m w h)
