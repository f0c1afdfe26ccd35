-- The slack table of a chain: it decides whether some plan that keeps the rules is within n, and it is made from its end, over the last
-- task of the first module. By the laws of the table at the chain's own costs.
use Prim.Native.Nat.{ℕ, ◌+◌, ◌-◌, ◌*◌, ◌/◌, ◌≤◌, ◌<◌}
use native.Mathlib.Nat.{mul-le-mul}
use native.Mathlib.Omega.{arith}
use mathlib.Core.Path.{◌≡◌, refl, sym, ap, ◌∙◌}
use mathlib.Core.Bool.{Bool, true, false, ◌&&◌, ◌||◌}
use mathlib.Core.Logic.{◌↔◌}
use lib.Dec.{leb, leb→le, nleb→lt}
use Rattle.modules.specs.Model.{Chain, response, transfer, handed, body}
use Rattle.modules.specs.Rules.{module_rules, copies_allowed}
use Rattle.modules.proofs.Laws.{passage_parts, response_passage, handed_some, handed_none, rules_apart}
use Rattle.search.proofs.Tests.{passed, failed, test}
use Rattle.search.proofs.Least.{pick_yes, pick_no}
use Rattle.slack.specs.Greatest.{larger}
use Rattle.slack.specs.Slack.{Leaves}
use Rattle.slack.specs.Splits.{Splits, Found}
use Rattle.slack.specs.Fill.{added}
use Rattle.slack.specs.Problem.{grain, top_threshold, problem, given, split_on, slack_on, none, one_on, any_on, ends_on, after_on}
use Rattle.slack.proofs.Splits.{plan_slack}
use Rattle.slack.proofs.Fill.{slack_filled}
use Rattle.slack.proofs.After.{after_none, after_more, after_all}

and_comm : (a b : Bool) → (a && b) ≡ (b && a)
and_comm true true = refl
and_comm true false = refl
and_comm false true = refl
and_comm false false = refl

module _ (c : Chain) where
  -- what it receives, its body, what it sends and what handing out costs (M-106)
  pub response_parts : (s t l r p q : ℕ)
      → response c s (t + 1) l r p q ≡ transfer c t s p + body c (t + 1) l p + transfer c l p q + handed c r
  response_parts s t l r p q =
      let e : transfer c (t + 1 - 1) s p ≡ transfer c t s p = ap (λ (i : ℕ). transfer c i s p) (omega arith) in
      omega (arith, response_passage c (t + 1) l r p q s, passage_parts c (t + 1) l r p q)

  -- handing out as it is added to a fill's times
  added_handed : (r : ℕ) → added (handed c 2) r ≡ handed c r
  added_handed r = elim (test (leb r 1)) [
    | passed t ↦ pick_yes (leb r 1) 0 (handed c 2) t ∙ sym (handed_none c r (leb→le r 1 t))
    | failed t ↦
        let several = nleb→lt r 1 t in
        pick_no (leb r 1) 0 (handed c 2) t ∙ handed_some c 2 (omega arith) ∙ sym (handed_some c r several)
  ]

  -- its rules as those of one copy, and whether it may have more
  rules_parts : (t l r p : ℕ) → module_rules c (t + 1) l r p ≡ (module_rules c (t + 1) l 1 p && (leb r 1 || copies_allowed c (t + 1) l 2))
  unfolding copies_allowed
  rules_parts t l r p = rules_apart c (t + 1) l r p ∙ and_comm (copies_allowed c (t + 1) l r) (module_rules c (t + 1) l 1 p)

  pub chain_splits : (n : ℕ) → Splits (problem c) (split_on c n).own (transfer c) (split_on c n).may
  unfolding transfer
  chain_splits n = record {
    response_is = λ s t l r p q. omega (arith, response_parts s t l r p q, added_handed r);
    allowed_is = λ s t l r p q. rules_parts t l r p;
    first_free = λ p. refl;
  }

  -- some plan that keeps the rules is within n and has at most b cores, exactly if some first module leaves a slack
  pub found_slack : 1 ≤ c.tasks → (n b : ℕ) → Found (problem c) n b ↔ Leaves (split_on c n) b
  found_slack some n b = plan_slack (problem c) (split_on c n).own (transfer c) (split_on c n).may (chain_splits n) (omega arith) n some b

  -- ---- the table from its end, on a board of at most 32 cores

  module _ (n : ℕ) (low : n ≤ top_threshold) where
    time_low : (r : ℕ) → r ≤ 32 → n * r / grain < none
    time_low r h = omega (arith, mul-le-mul low h)

    -- modules that end after the last task there are none
    pub after_start : (t q b : ℕ) → after_on c n c.tasks t q b ≡ 0
    after_start t q b = after_none _ _ _ (one_on c n) (any_on c n) t q b c.tasks c.tasks (omega arith)

    -- those that end after l are those that end after l + 1, and with it
    pub after_next : (l t q b : ℕ) → l < c.tasks → after_on c n l t q b ≡ larger (after_on c n (l + 1) t q b) (ends_on c n t q b (l + 1))
    after_next l t q b h = after_more _ _ _ (one_on c n) (any_on c n) t q b c.tasks l h

    -- those from the task t + 1 on all end after t
    pub after_slack : (l t q b : ℕ) → l ≤ t → 1 ≤ q → b ≤ 32 → after_on c n l t q b ≡ slack_on c n t q b
    after_slack l t q b h p s =
        after_all _ _ _ (one_on c n) (any_on c n) t q b c.tasks l h ∙ sym (slack_filled (given c n) 32 none time_low t q b p s)
