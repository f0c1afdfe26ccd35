-- Steps 2 to 4, one core after another: what is left of the walk, from the latest assignment and the best so far, ends as the
-- whole does. Assumes nothing.
use mathlib.Core.Path.{◌≡◌, refl, sym, ap, ◌∙◌}
use mathlib.Core.List.{List}
use Rattle.std.specs.Prelude.{Option as Maybe, Some, None, IfSome}
use mathlib.Core.Option.{none, some}
use Prim.Native.Nat.{ℕ, zero, suc, ◌+◌, ◌≤◌, ◌<◌}
use native.Mathlib.Omega.{arith}
use borrow.Author.Tests.{lt-ltb, le-ltb}
use Rattle.records.specs.Costs.{most_cores}
use Rattle.modules.specs.declared.Module.{Module}
use Rattle.modules.specs.Model.{Chain}
use Rattle.layout.specs.Layout.{modules_of, encode_plan}
use Rattle.figures.specs.Model.{cores_of}
use Rattle.greedy.specs.declared.greedy.Choice.{Choice}
use Rattle.greedy.specs.Greedy.{time, next, better, greedy_from}
use Rattle.greedy.specs.Assignment.{Assigned, choice_of, Chosen}

module _ (c : Chain) (ms best : List Module) where
  walk_stops : (n : ℕ) → next c ms ≡ none → greedy_from c n ms best ≡ best
  unfolding greedy_from
  walk_stops zero e = refl
  walk_stops (suc n) e = rw (e, greedy_from)

  walk_goes : (n : ℕ) (x : List Module) → next c ms ≡ some x → greedy_from c (suc n) ms best ≡ greedy_from c n x (better c x best)
  unfolding greedy_from
  walk_goes n x e = rw (e, greedy_from)

-- n cores are left, t is the bottleneck of `best`, and the walk ends with `whole`
pub record Underway (c : Chain) (whole : List Module) (latest best : List ℕ) (t n : ℕ) : Type 0 where
  pub held : Assigned c.tasks latest
  pub best_held : Assigned c.tasks best
  pub room : cores_of (modules_of latest c.tasks) + n ≤ most_cores
  pub timed : t ≡ time c (modules_of best c.tasks)
  pub ends : whole ≡ greedy_from c n (modules_of latest c.tasks) (modules_of best c.tasks)

module _ (c : Chain) where
  pub walk_starts : (w : List ℕ) {t : ℕ} (n : ℕ) → Assigned c.tasks w → cores_of (modules_of w c.tasks) + n ≤ most_cores → t ≡ time c (modules_of w c.tasks)
      → Underway c (greedy_from c n (modules_of w c.tasks) (modules_of w c.tasks)) w w t n
  walk_starts w n a h e = record { held = a; best_held = a; room = h; timed = e; ends = refl }

  module _ {whole : List Module} {latest best : List ℕ} {t n : ℕ} (u : Underway c whole latest best t n) where
    pub walk_ended : n ≤ 0 → best ≡ encode_plan whole
    unfolding greedy_from
    walk_ended h =
        let none : n ≡ 0 = omega arith in
        u.best_held.bytes ∙ ap encode_plan (sym (rw none at u.ends))

    -- o is the next choice, if there is one
    module _ (o : Maybe Choice) (chosen : IfSome o (Chosen c (modules_of latest c.tasks)) × (choice_of c.tasks o ≡ next c (modules_of latest c.tasks))) where
      pub walk_stopped : o ≡ None → best ≡ encode_plan whole
      walk_stopped f =
          let e = rw f at chosen.1 in
          u.best_held.bytes ∙ ap encode_plan (sym (u.ends ∙ walk_stops c (modules_of latest c.tasks) (modules_of best c.tasks) n (sym e)))

    -- r is the next choice, after which m cores are left
    module _ (r : Choice) (chosen : Chosen c (modules_of latest c.tasks) r × (choice_of c.tasks (Some r) ≡ next c (modules_of latest c.tasks))) (m : ℕ) (h : n ≡ suc m) where
      goes : whole ≡ greedy_from c m (modules_of r.plan c.tasks) (better c (modules_of r.plan c.tasks) (modules_of best c.tasks))
      goes = rw h at u.ends ∙ walk_goes c (modules_of latest c.tasks) (modules_of best c.tasks) m (modules_of r.plan c.tasks) (sym chosen.1)

      dearer : cores_of (modules_of r.plan c.tasks) + m ≤ most_cores
      dearer = omega (arith, u.room, chosen.0.dearer)

      pub walk_better : r.time < t → Underway c whole r.plan r.plan r.time m
      walk_better l =
          let less = lt-ltb (time c (modules_of r.plan c.tasks)) (time c (modules_of best c.tasks)) (omega (arith, u.timed, chosen.0.timed)) in
          record { held = chosen.0.held; best_held = chosen.0.held; room = dearer; timed = chosen.0.timed; ends = goes ∙ rw less }

      pub walk_worse : t ≤ r.time → Underway c whole r.plan best t m
      walk_worse l =
          let more = le-ltb (time c (modules_of r.plan c.tasks)) (time c (modules_of best c.tasks)) (omega (arith, u.timed, chosen.0.timed)) in
          record { held = chosen.0.held; best_held = u.best_held; room = dearer; timed = u.timed; ends = goes ∙ rw more }
