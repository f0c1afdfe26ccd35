-- A plan of a problem that splits is within n just if it serves 0 at n: so some plan within n has at most b cores just if some first
-- module leaves a slack with b cores in all. Module by module, with the law of a division rounded down. And a threshold is feasible
-- just if some plan within it has at most the board's cores, by the search's laws of its lightest plan.
use Prim.Native.Nat.{ℕ, ◌+◌, ◌*◌, ◌/◌, ◌≤◌}
use native.Mathlib.Omega.{arith}
use native.Mathlib.Nat.{le_trans, mul-le-mul_right, le-div_iff_mul-le}
use mathlib.Core.Path.{refl, sym, subst}
use mathlib.Core.Bool.{Bool, ◌&&◌}
use mathlib.Core.Logic.{◌↔◌}
use mathlib.Core.List.{List, [], ◌∷◌}
use lib.Dec.{T, ltb, leb, eqb→eq}
use Rattle.modules.specs.declared.Module.{Module}
use Rattle.figures.specs.Model.{head_cores}
use Rattle.search.specs.Plan.{Problem, valid, Priced}
use Rattle.search.specs.Bottleneck.{rules, within, PlanWithin, Keeps}
use Rattle.search.specs.Best.{plan, Feasible, Laws}
use Rattle.search.proofs.Plan.{valid_first, valid_head, valid_tail, valid_cons, valid_map, fair_at, head_le}
use Rattle.search.proofs.Bottleneck.{within_l, within_r, within_i, within_fair, within_rules}
use Rattle.search.proofs.Best.{light_le, board_weight, plan_within, plan_keeps}
use Rattle.slack.specs.Split.{Split, keeps, serves}
use Rattle.slack.specs.Slack.{Leaves}
use Rattle.slack.specs.Splits.{Splits, split_at, Found}
use Rattle.slack.proofs.Split.{serves_first, serves_keeps, serves_time, serves_tail, serves_cons}
use Rattle.slack.proofs.Slack.{slack_served}

module _ (X : Problem) (own : (t l r p : ℕ) → ℕ) (send : (l p q : ℕ) → ℕ) (may : (t l r p : ℕ) → Bool) (A : Splits X own send may)
    (grained : 1 ≤ X.grain) (n : ℕ) where
  -- the problem in parts at n
  abbrev S : Split
  S = split_at X own send may n

  -- ---- one module

  -- it keeps the rules of the problem just if it keeps those of its parts
  rules_keeps : (s t l r p q : ℕ) → T (rules X s t l r p q) → T (keeps S t l r p)
  rules_keeps s t l r p q u =
      subst (λ a. T (ltb t l && leb l X.tasks && leb 1 r && leb 1 p && a)) (A.allowed_is s t l r p q) u

  rules_kept : (s t l r p q : ℕ) → T (keeps S t l r p) → T (rules X s t l r p q)
  rules_kept s t l r p q u =
      subst (λ a. T (ltb t l && leb l X.tasks && leb 1 r && leb 1 p && a)) (sym (A.allowed_is s t l r p q)) u

  -- it is within n just if its parts are in time
  within_time : (s t l r p q : ℕ) → X.response s t l r p q * X.grain ≤ n * r → send t s p + own t l r p + send l p q ≤ n * r / X.grain
  within_time s t l r p q h = rw (A.response_is s t l r p q) at ((le-div_iff_mul-le {x = X.response s t l r p q} grained).1 h)

  time_within : (s t l r p q : ℕ) → send t s p + own t l r p + send l p q ≤ n * r / X.grain → X.response s t l r p q * X.grain ≤ n * r
  time_within s t l r p q h = rw (A.response_is s t l r p q) ((le-div_iff_mul-le {y = n * r} grained).0 h)

  -- ---- a list of modules

  pub within_serves : (s t : ℕ) (ms : List Module) → T (valid X.tasks (within X n) s t ms) → T (serves S (send t s (head_cores ms)) t ms)
  within_serves s t [] v = v
  within_serves s t (x ∷ ms) v =
      let k = X.tasks in
      let u = valid_head k (within X n) s t x ms v in
      serves_cons S (send t s x.cores) t x ms (valid_first k (within X n) s t x ms v)
      (rules_keeps s t x.last x.copies x.cores (head_cores ms) (within_l X n s t x.last x.copies x.cores (head_cores ms) u))
      (within_time s t x.last x.copies x.cores (head_cores ms) (within_r X n s t x.last x.copies x.cores (head_cores ms) u))
      (within_serves x.cores x.last ms (valid_tail k (within X n) s t x ms v))

  pub serves_within : (s t : ℕ) (ms : List Module) → T (serves S (send t s (head_cores ms)) t ms) → T (valid X.tasks (within X n) s t ms)
  serves_within s t [] v = v
  serves_within s t (x ∷ ms) v =
      let i = send t s x.cores in
      valid_cons X.tasks (within X n) s t x ms (serves_first S i t x ms v)
      (within_i X n s t x.last x.copies x.cores (head_cores ms)
      (rules_kept s t x.last x.copies x.cores (head_cores ms) (serves_keeps S i t x ms v))
      (time_within s t x.last x.copies x.cores (head_cores ms) (serves_time S i t x ms v)))
      (serves_within x.cores x.last ms (serves_tail S i t x ms v))

  -- ---- a whole plan

  -- a plan has a first module
  head_some : 1 ≤ X.tasks → (ms : List Module) → PlanWithin X n ms → 1 ≤ head_cores ms
  head_some h [] v = absurd (omega (arith, eqb→eq 0 X.tasks v))
  head_some h (x ∷ ms) v = (fair_at X.tasks (within X n) (within_fair X n) 0 0 x ms v).3

  pub found_leaves : 1 ≤ X.tasks → (b : ℕ) → Found X n b → Leaves S b
  found_leaves h b f =
      let ms = f.modules in
      let p = head_some h ms f.ok in
      record {
        q = head_cores ms;
        one_core = p;
        cores_most = le_trans (head_le X.tasks (within X n) (within_fair X n) 0 0 ms f.ok) f.cores;
        left = (slack_served S 0 0 (head_cores ms) b).1 (record {
          modules = ms;
          some = p;
          ok = subst (λ x. T (serves S x 0 ms)) (A.first_free (head_cores ms)) (within_serves 0 0 ms f.ok);
          head = refl;
          cores = f.cores;
        });
      }

  pub leaves_found : (b : ℕ) → Leaves S b → Found X n b
  leaves_found b g =
      let w = (slack_served S 0 0 g.q b).0 g.left in
      let ms = w.modules in
      record {
        modules = ms;
        ok = serves_within 0 0 ms (subst (λ x. T (serves S x 0 ms)) (sym (A.first_free (head_cores ms))) w.ok);
        cores = w.cores;
      }

  -- some plan within n has at most b cores just if some first module leaves a slack
  pub plan_slack : 1 ≤ X.tasks → (b : ℕ) → Found X n b ↔ Leaves S b
  plan_slack h b = (found_leaves h b, leaves_found b)

-- ---- in the search's terms

module _ (X : Problem) where
  -- the plan of a feasible threshold is one
  pub feasible_found : Priced X → (n : ℕ) → Feasible X n → Found X n X.board
  feasible_found A n f = record { modules = plan X n; ok = plan_within X A n f; cores = (plan_keeps X A n f).1 }

  -- a threshold is feasible just if some plan within it has at most the board's cores
  pub found_feasible : Laws X → (n : ℕ) → Feasible X n ↔ Found X n X.board
  found_feasible L n = (
    feasible_found L.priced n,
    λ f.
        let k : Keeps X f.modules = (within_rules X n 0 0 f.modules f.ok, f.cores) in
        omega (arith, light_le X L n f.modules k f.ok, board_weight X L f.modules k),
  )

  -- a plan within n is within more
  pub found_more : (n m b : ℕ) → n ≤ m → Found X n b → Found X m b
  found_more n m b e f = record {
    modules = f.modules;
    ok = valid_map X.tasks (within X n) (within X m) (λ s t l r p q u.
        within_i X m s t l r p q (within_l X n s t l r p q u) (le_trans (within_r X n s t l r p q u) (mul-le-mul_right r e)))
        0 0 f.modules f.ok;
    cores = f.cores;
  }
