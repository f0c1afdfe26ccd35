-- A chain's order of plans is the search's: its single-block time (document 02, M-104) is what the problem's prices add to the cores, and the
-- test by bottleneck, cores and time decides as the problem's weight does. Assumes nothing.
use mathlib.Core.Path.{◌≡◌, refl, sym, ap, fun_ext}
use mathlib.Core.Bool.{Bool, true, ◌&&◌}
use mathlib.Core.List.{List, [], ◌∷◌}
use mathlib.Core.Logic.{◌⊎◌, inl, inr}
use mathlib.Core.Option.{none}
use Prim.Native.Nat.{ℕ, ◌+◌, ◌*◌, ◌≤◌, ◌<◌}
use native.Mathlib.Nat.{le_antisymm}
use native.Mathlib.Omega.{arith}
use lib.Dec.{T, ltb, eqb, ltb→lt, lt→ltb, eqb→eq}
use Rattle.modules.specs.declared.Module.{Module}
use Rattle.modules.specs.Model.{Chain, passage}
use Rattle.figures.specs.Model.{head_cores, cores_of, bottleneck, block_time}
use Rattle.figures.specs.Rules.{keeps_rules}
use Rattle.search.specs.Plan.{valid, total}
use Rattle.search.specs.Bottleneck.{rules, Keeps, plan_bottleneck}
use Rattle.search.specs.Best.{plan_weight, Laws}
use Rattle.search.specs.Every.{scan, every, search_by}
use Rattle.search.specs.Answer.{Better, Decides}
use Rattle.search.proofs.Tests.{and_l, and_r, and_i, or_e, or_l, or_r, eq→eqb}
use Rattle.search.proofs.Plan.{valid_first, valid_tail}
use Rattle.search.proofs.Tiers.{tiered_laws, lighter_exactly, same_weight}
use Rattle.slack.specs.Problem.{unit, ticks, problem}
use Rattle.planners.specs.Best.{is_lighter, is_better, best_plan}
use Rattle.slack.proofs.Instance.{Matched, problem_tiered, rules_kept, keeps_same, bottleneck_matched, less_same, more_same}

-- ---- the same weight, on a chain whose plans that keep the rules all take less than a unit

-- each module's part of the single-block time, added up
total_time : (c : Chain) (s t : ℕ) (ms : List Module) → T (valid c.tasks (rules (problem c)) s t ms) → total (ticks c) s t ms ≡ block_time c ms
unfolding block_time
total_time c s t [] v = refl
total_time c s t (m ∷ ms) v =
    let e = valid_first c.tasks (rules (problem c)) s t m ms v in
    rw e (ap (λ x. passage c (t + 1) m.last m.copies m.cores (head_cores ms) + x)
    (total_time c m.cores m.last ms (valid_tail c.tasks (rules (problem c)) s t m ms v)))

-- every plan that keeps the rules has a single-block time below what a core weighs
pub record Quick (c : Chain) : Type 0 where
  pub time : (ms : List Module) → keeps_rules c ms ≡ true → block_time c ms < unit

module _ (c : Chain) (quick : Quick c) where
  low : (ms : List Module) → Keeps (problem c) ms → total (ticks c) 0 0 ms < unit
  low ms k = rw (total_time c 0 0 ms k.0) (quick.time ms (rules_kept c ms k))

  pub problem_laws : Laws (problem c)
  problem_laws = tiered_laws (problem c) (ticks c) (problem_tiered c) low

  module _ (a b : List Module) (ka : Keeps (problem c) a) (kb : Keeps (problem c) b) where
    lighter_sound : T (is_lighter c a b) → plan_weight (problem c) a < plan_weight (problem c) b
    unfolding is_lighter
    lighter_sound t =
        let fewer = ltb (cores_of a) (cores_of b) in
        let level = eqb (cores_of a) (cores_of b) in
        let sooner = ltb (block_time c a) (block_time c b) in
        (lighter_exactly (problem c) (ticks c) (problem_tiered c) low a b ka kb).1
        (elim (or_e fewer (level && sooner) t) [
          | inl h ↦ inl (ltb→lt (cores_of a) (cores_of b) h)
          | inr h ↦ inr (
            eqb→eq (cores_of a) (cores_of b) (and_l level sooner h),
            omega (arith, total_time c 0 0 a ka.0, total_time c 0 0 b kb.0, ltb→lt (block_time c a) (block_time c b) (and_r level sooner h)),
          )
        ])

    -- what weighs less, or the same where Z holds, has fewer cores, or as many and less time, or that too the same where Z holds
    pub weight_order : {Z : Type 0} → (plan_weight (problem c) a < plan_weight (problem c) b) ⊎ ((plan_weight (problem c) a ≡ plan_weight (problem c) b) × Z)
        → (cores_of a < cores_of b) ⊎ ((cores_of a ≡ cores_of b) × ((block_time c a < block_time c b) ⊎ ((block_time c a ≡ block_time c b) × Z)))
    weight_order h =
        let u = total_time c 0 0 a ka.0 in
        let v = total_time c 0 0 b kb.0 in
        elim h [
          | inl l ↦ elim ((lighter_exactly (problem c) (ticks c) (problem_tiered c) low a b ka kb).0 l) [
            | inl d ↦ inl d
            | inr (e, d) ↦ inr (e, inl (omega arith))
          ]
          | inr (l, z) ↦ let (e, d) = same_weight (problem c) (ticks c) (problem_tiered c) low a b ka kb l in inr (e, inr (omega arith, z))
        ]

    lighter_complete : plan_weight (problem c) a < plan_weight (problem c) b → T (is_lighter c a b)
    unfolding is_lighter
    lighter_complete h =
        let fewer = ltb (cores_of a) (cores_of b) in
        let level = eqb (cores_of a) (cores_of b) in
        let sooner = ltb (block_time c a) (block_time c b) in
        elim (weight_order {Z = ⊥} (inl h)) [
          | inl d ↦ or_l fewer (level && sooner) (lt→ltb (cores_of a) (cores_of b) d)
          | inr (e, inl d) ↦ or_r fewer (level && sooner) (and_i level sooner (eq→eqb (cores_of a) (cores_of b) e) (lt→ltb (block_time c a) (block_time c b) d))
          | inr (e, inr (d, z)) ↦ absurd z
        ]

module _ (c : Chain) (some : 1 ≤ c.tasks) where
  pub matched : (a : List Module) → Keeps (problem c) a → Matched c a
  matched a h = bottleneck_matched c some a h.0

  -- the definition that tries every plan is the search's
  pub best_searched : best_plan c ≡ search_by (problem c) (is_better c)
  unfolding best_plan search_by
  best_searched = ap (λ (ok : List Module → Bool). scan ok (is_better c) none (every c.tasks c.tasks 0 c.board)) (fun_ext (keeps_same c))

  module _ (quick : Quick c) where
    better_sound : (a b : List Module) → Keeps (problem c) a → Keeps (problem c) b → T (is_better c a b) → Better (plan_bottleneck (problem c)) (plan_weight (problem c)) a b
    unfolding is_better
    better_sound a b ka kb t =
        let x = bottleneck c a in
        let y = bottleneck c b in
        let z = plan_bottleneck (problem c) a in
        let w = plan_bottleneck (problem c) b in
        let f = matched a ka in
        let g = matched b kb in
        elim (or_e (ltb (x.response * y.copies) (y.response * x.copies)) (eqb (x.response * y.copies) (y.response * x.copies) && is_lighter c a b) t) [
          | inl h ↦ inl (less_same x.response x.copies z.num z.den y.response y.copies w.num w.den f.copied f.divided g.copied g.divided f.same g.same (ltb→lt _ _ h))
          | inr h ↦
              let e : x.response * y.copies ≡ y.response * x.copies = eqb→eq _ _ (and_l (eqb (x.response * y.copies) (y.response * x.copies)) (is_lighter c a b) h) in
              inr (
                le_antisymm
                    (more_same x.response x.copies z.num z.den y.response y.copies w.num w.den f.copied f.divided g.copied g.divided f.same g.same (omega arith))
                    (more_same y.response y.copies w.num w.den x.response x.copies z.num z.den g.copied g.divided f.copied f.divided g.same f.same (omega arith)),
                lighter_sound c quick a b ka kb (and_r (eqb (x.response * y.copies) (y.response * x.copies)) (is_lighter c a b) h),
              )
        ]

    better_complete : (a b : List Module) → Keeps (problem c) a → Keeps (problem c) b → Better (plan_bottleneck (problem c)) (plan_weight (problem c)) a b → T (is_better c a b)
    unfolding is_better
    better_complete a b ka kb h =
        let x = bottleneck c a in
        let y = bottleneck c b in
        let z = plan_bottleneck (problem c) a in
        let w = plan_bottleneck (problem c) b in
        let f = matched a ka in
        let g = matched b kb in
        let low = ltb (x.response * y.copies) (y.response * x.copies) in
        let level = eqb (x.response * y.copies) (y.response * x.copies) in
        elim h [
          | inl l ↦ or_l low (level && is_lighter c a b) (lt→ltb (x.response * y.copies) (y.response * x.copies)
              (less_same z.num z.den x.response x.copies w.num w.den y.response y.copies f.divided f.copied g.divided g.copied (sym f.same) (sym g.same) l))
          | inr (e, l) ↦ or_r low (level && is_lighter c a b) (and_i level (is_lighter c a b)
              (eq→eqb (x.response * y.copies) (y.response * x.copies) (le_antisymm
              (more_same z.num z.den x.response x.copies w.num w.den y.response y.copies f.divided f.copied g.divided g.copied (sym f.same) (sym g.same) (omega arith))
              (more_same w.num w.den y.response y.copies z.num z.den x.response x.copies g.divided g.copied f.divided f.copied (sym g.same) (sym f.same) (omega arith))))
              (lighter_complete c quick a b ka kb l))
        ]

    pub better_decides : Decides (problem c) (is_better c)
    better_decides = record { sound = better_sound; complete = better_complete }
