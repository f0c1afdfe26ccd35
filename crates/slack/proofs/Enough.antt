-- Whether some rest of a chain's plan has at most b cores, by its slack: what that takes, that more cores are no less, and that it is
-- told just where there is such a rest. By the laws of the slack, and of modules within n as modules that serve.
use Prim.Native.Nat.{ℕ, ◌≤◌, ◌<◌}
use native.Mathlib.Omega.{arith}
use native.Mathlib.Nat.{le_trans}
use mathlib.Core.Path.{◌≡◌, refl, sym, subst}
use mathlib.Core.Bool.{Bool, ◌&&◌}
use mathlib.Core.Logic.{◌⊎◌, inl, inr}
use mathlib.Core.List.{List, [], ◌∷◌}
use lib.Dec.{T, ltb, ltb→lt, lt→ltb, eqb, eqb→eq, eqb_refl}
use Rattle.modules.specs.declared.Module.{Module}
use Rattle.modules.specs.Model.{Chain, transfer}
use Rattle.figures.specs.Model.{head_cores, cores_of}
use Rattle.search.specs.Plan.{valid}
use Rattle.search.specs.Bottleneck.{within}
use Rattle.search.specs.Sparing.{Rest, Tells}
use Rattle.search.proofs.Tests.{and_l, and_r, and_i, or_e, or_l, or_r}
use Rattle.search.proofs.Plan.{fair_at}
use Rattle.search.proofs.Bottleneck.{within_fair}
use Rattle.slack.specs.Split.{Split, serves}
use Rattle.slack.specs.Problem.{problem, split_on, slack_on, enough_on}
use Rattle.slack.proofs.Split.{keeps_fair, serves_keeps}
use Rattle.slack.proofs.Slack.{slack_served, serving_head, slack_rises}
use Rattle.slack.proofs.Splits.{within_serves, serves_within}
use Rattle.slack.proofs.Chain.{chain_splits}

-- modules that serve after the task t, the first of at least one core, leave some task to them
serves_left : (S : Split) (x t : ℕ) (ms : List Module) → T (serves S x t ms) → 1 ≤ head_cores ms → t < S.tasks
serves_left S x t [] v h = absurd (omega arith)
serves_left S x t (m ∷ ms) v h = omega (arith, keeps_fair S t m.last m.copies m.cores (serves_keeps S x t m ms v))

module _ (c : Chain) (n : ℕ) where
  -- a slack is left only before the last task, and to a first module that has a core and no more than all
  pub slack_needs : (t q b : ℕ) → 0 < slack_on c n t q b → (t < c.tasks) × (1 ≤ q) × (q ≤ b)
  slack_needs t q b h =
      let w = (slack_served (split_on c n) 0 t q b).0 h in (
        serves_left (split_on c n) 0 t w.modules w.ok (subst (λ z. 1 ≤ z) (sym w.head) w.some),
        w.some,
        serving_head (split_on c n) 0 t q b w,
      )

  module _ (s t q b : ℕ) where
    -- nothing is left and nothing is to come
    abbrev over : Bool
    over = eqb t c.tasks && eqb q 0

    -- a rest can still receive what it is sent
    abbrev served : Bool
    served = ltb (transfer c t s q) (slack_on c n t q b)

    pub enough_slack : transfer c t s q < slack_on c n t q b → T (enough_on c n s t q b)
    enough_slack h = or_r over served (lt→ltb _ _ h)

    pub enough_over : t ≡ c.tasks → q ≡ 0 → T (enough_on c n s t q b)
    enough_over e d = or_l over served (and_i (eqb t c.tasks) (eqb q 0) (rw e (eqb_refl c.tasks)) (rw d tt))

    pub enough_cases : T (enough_on c n s t q b) → ((t ≡ c.tasks) × (q ≡ 0)) ⊎ (transfer c t s q < slack_on c n t q b)
    enough_cases u = elim (or_e over served u) [
      | inl a ↦ inl (eqb→eq t c.tasks (and_l (eqb t c.tasks) (eqb q 0) a), eqb→eq q 0 (and_r (eqb t c.tasks) (eqb q 0) a))
      | inr a ↦ inr (ltb→lt _ _ a)
    ]

    pub enough_needs : T (enough_on c n s t q b)
        → ((t ≡ c.tasks) × (q ≡ 0)) ⊎ ((t < c.tasks) × (1 ≤ q) × (q ≤ b) × (transfer c t s q < slack_on c n t q b))
    enough_needs u = elim (enough_cases u) [
      | inl a ↦ inl a
      | inr a ↦ let (left, some, most) = slack_needs t q b (omega arith) in inr (left, some, most, a)
    ]

  -- more cores are enough too
  pub enough_fewer : (s t q b b' : ℕ) → b ≤ b' → T (enough_on c n s t q b) → T (enough_on c n s t q b')
  enough_fewer s t q b b' h u = elim (enough_cases s t q b u) [
    | inl a ↦ enough_over s t q b' a.0 a.1
    | inr a ↦ enough_slack s t q b' (le_trans a (slack_rises (split_on c n) t q b b' h))
  ]

  -- ---- it is told just where there is a rest

  enough_found : (s t q b : ℕ) → T (enough_on c n s t q b) → Rest (problem c) n s t q b
  unfolding cores_of
  enough_found s t q b u = elim (enough_cases s t q b u) [
    | inl a ↦ record { modules = []; ok = rw a.0 (eqb_refl c.tasks); head = sym a.1; cores = omega arith }
    | inr a ↦
        let w = (slack_served (split_on c n) (transfer c t s q) t q b).0 a in
        record {
          modules = w.modules;
          ok = serves_within (problem c) (split_on c n).own (transfer c) (split_on c n).may (chain_splits c n) (omega arith) n s t w.modules
              (subst (λ z. T (serves (split_on c n) (transfer c t s z) t w.modules)) (sym w.head) w.ok);
          head = w.head;
          cores = w.cores;
        }
  ]

  enough_told : (s t b : ℕ) (ms : List Module) → T (valid c.tasks (within (problem c) n) s t ms) → cores_of ms ≤ b
      → T (enough_on c n s t (head_cores ms) b)
  enough_told s t b [] v h = enough_over s t 0 b (eqb→eq t c.tasks v) refl
  enough_told s t b (x ∷ ms) v h =
      enough_slack s t x.cores b ((slack_served (split_on c n) (transfer c t s x.cores) t x.cores b).1 (record {
        modules = x ∷ ms;
        some = (fair_at c.tasks (within (problem c) n) (within_fair (problem c) n) s t x ms v).3;
        ok = within_serves (problem c) (split_on c n).own (transfer c) (split_on c n).may (chain_splits c n) (omega arith) n s t (x ∷ ms) v;
        head = refl;
        cores = h;
      }))

  pub enough_tells : Tells (problem c) n (enough_on c n)
  enough_tells = record { found = enough_found; told = enough_told }
