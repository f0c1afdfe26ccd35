-- The modules of q cores that end with one task, as they are pushed one after the other from the shortest on: what is pushed so far, one
-- module more, and the first that breaks a rule, after which all longer ones do. By the laws of what a module leaves.
use Prim.Native.Nat.{ℕ, zero, suc, ◌+◌, ◌-◌, ◌*◌, ◌≤◌, ◌<◌}
use native.Mathlib.Nat.{le_refl}
use native.Mathlib.Omega.{arith}
use mathlib.Core.Path.{◌≡◌, refl, sym, ◌∙◌}
use mathlib.Core.Bool.{true, false, cond}
use mathlib.Core.Logic.{⊎_elim, inl, inr}
use mathlib.Core.List.{List}
use lib.ListN.{get_or}
use lib.Dec.{ltb, leb}
use borrow.Author.Tests.{lt-ltb, le-ltb, le-leb, lt-leb}
use Rattle.records.proofs.Cases.{lt_or_le, true_or_false, true_not_false}
use Rattle.modules.specs.Model.{Chain, run, gather, body}
use Rattle.modules.specs.Rules.{module_rules}
use Rattle.modules.proofs.Laws.{rules_drop, rules_reach}
use Rattle.modules.proofs.Sums.{gather_some, gather_none, gather_split}
use Rattle.slack.specs.Greatest.{larger}
use Rattle.slack.specs.Fill.{ends_at}
use Rattle.slack.specs.Problem.{fits_on, replicable_on, body_on}
use Rattle.slack.proofs.Greatest.{larger_zero}
use Rattle.slack.proofs.After.{ends_not, ends_any, ends_one}
use Rattle.sketch.specs.Slacks.{slack_at}
use Rattle.offers.specs.Words.{FirstServed}
use Rattle.threshold.specs.Words.{execution_at, internal_at, reach_at, Laid, ReachedIn, Fixed, OneNoMore, Raised, Pushed}

-- ---- bodies, from the last task on

pub body_none : (c : Chain) (l q : ℕ) → body c (l + 1) l q ≡ 0
unfolding body
body_none c l q = gather_none (λ t. c.execution t q) (λ t. c.internal t q) (l + 1) l (omega arith)

pub body_front : (c : Chain) (t l q : ℕ) → t ≤ l → body c t l q ≡ c.execution t q + cond (ltb t l) (c.internal t q) 0 + body c (t + 1) l q
unfolding body run
body_front c t l q h = ⊎_elim
    (λ d. rw (lt-ltb t l d) (omega (arith, gather_split f g t t l (le_refl t) d, alone)))
    (λ d.
    let e : l ≡ t = omega (arith, d, h) in
    let none = gather_none f g (t + 1) l (omega (arith, d)) in
    let only : gather f g t l ≡ f t = rw e alone in
    rw (le-ltb t l d) (omega (arith, none, only)))
    (lt_or_le t l)
  where
    f : ℕ → ℕ
    f i = c.execution i q

    g : ℕ → ℕ
    g i = c.internal i q

    alone : gather f g t t ≡ f t
    alone = let z : t - t ≡ 0 = omega arith in gather_some f g t t (le_refl t) ∙ rw z refl

-- dropping tasks in front makes it no longer
pub body_drop : (c : Chain) (l q t d : ℕ) → t + d ≤ l → body c (t + d) l q ≤ body c t l q
body_drop c l q t zero h = let e : t + 0 ≡ t = omega arith in rw e (le_refl (body c t l q))
body_drop c l q t (suc d) h =
    let e : t + suc d ≡ t + 1 + d = omega arith in
    rw e (omega (arith, body_drop c l q (t + 1) d (omega arith), body_front c t l q (omega arith)))

-- ---- cores with which nothing is left

-- with fewer than `first` cores neither one copy leaves something beside a body nor, after the last task that allows none, several
abbrev pub Spent : (left : List ℕ) (q first own fixed t : ℕ) → Type 0
Spent left q first own fixed t = (b : ℕ) → q ≤ b → b < first → (get_or left b 0 ≤ own) × (fixed ≤ t → get_or left (33 + b) 0 ≤ own)

module _ (left : List ℕ) (q fixed t from : ℕ) (rows : from ≡ cond (leb fixed t) 33 0) where
  -- so it is in the row that counts
  pub spent_row : (first own : ℕ) → Spent left q first own fixed t → (b : ℕ) → q ≤ b → b < first → get_or left (from + b) 0 ≤ own
  spent_row first own spent b u v = ⊎_elim
      (λ (d : t < fixed).
      let e : from ≡ 0 = rows ∙ rw (lt-leb fixed t d) refl in
      let z : 0 + b ≡ b = omega arith in
      rw (e, z) (spent b u v).0)
      (λ (d : fixed ≤ t). let e : from ≡ 33 = rows ∙ rw (le-leb fixed t d) refl in rw e ((spent b u v).1 d))
      (lt_or_le t fixed)

  -- a longer body, and the first cores with which it is not all
  pub spent_more : (s first first' own own' taken cores : ℕ) → t ≤ s → q ≤ first → own ≤ own' → taken ≤ own' → OneNoMore left q cores → FirstServed left from first cores taken first'
      → Spent left q first own fixed s → Spent left q first' own' fixed t
  spent_more s first first' own own' taken cores later low more less rises served spent b u v = ⊎_elim
      (λ (d : b < first). let (o, a) = spent b u d in (omega arith, λ h. omega (arith, a (omega arith))))
      (λ (d : first ≤ b). ⊎_elim
      (λ (f : t < fixed).
      let e : from ≡ 0 = rows ∙ rw (lt-leb fixed t f) refl in
      let z : 0 + b ≡ b = omega arith in
      let o : get_or left b 0 ≤ taken = rw z at (rw e at (served.none_before b d v)) in
      (omega arith, λ h. absurd (omega arith)))
      (λ (f : fixed ≤ t).
      let e : from ≡ 33 = rows ∙ rw (le-leb fixed t f) refl in
      let a : get_or left (33 + b) 0 ≤ taken = rw e at (served.none_before b d v) in
      (omega (arith, rises b u (omega (arith, served.high))), λ h. omega arith))
      (lt_or_le t fixed))
      (lt_or_le b first)

-- ---- reaches

-- a module that ends no later than its word says keeps the rules with one copy, so it ends within its reach (M-102)
pub word_reached : (w : List ℕ) (t l q : ℕ) → t < l → l ≤ get_or w (reach_at t q) 0 → ReachedIn w t l q
word_reached w t l q later h c laid inside some low =
    let keeps = (laid t q (omega arith) some low).reaches.exact l later inside ∙ le-leb l (get_or w (reach_at t q) 0) h in
    record { later = later; within = rules_reach c (t + 1) l (omega arith) (omega arith) inside 1 q some low keeps }

-- ---- modules

module _ (c : Chain) (w₀ : List ℕ) (one any : ℕ → ℕ) (l q fixed : ℕ) (inside : l ≤ c.tasks) (few : l ≤ 12) (board : c.board ≤ 32) (some : 1 ≤ q) (low : q ≤ c.board)
    (laid : Laid c w₀) (fixes : Fixed c l fixed) where
  -- a word of the tasks is no slack
  not_slack : (j : ℕ) → 13068 ≤ j → (from : ℕ) (t b : ℕ) → from ≤ t → t < l → q ≤ b → b ≤ c.board → j ≡ slack_at t q b → ⊥
  not_slack j h from t b f g u v e = omega arith

  -- what one module leaves
  abbrev ends : (t b : ℕ) → ℕ
  ends t b = ends_at (fits_on c) (replicable_on c) (body_on c) (λ l q b. one b) (λ l q b. any b) t q b l

  pub pushed_none : Pushed c w₀ w₀ one any l l q
  pushed_none = record { long = refl; made = λ t b f g. absurd (omega arith); kept = λ j x. refl }

  -- the modules that start with the task s + 1 or later are pushed; the next one starts with s
  module _ (w : List ℕ) (s t : ℕ) (next : s ≡ t + 1) (pushed : Pushed c w₀ w one any s l q) (earlier : t < l) where
    -- the words of the tasks are as they were laid
    pub pushed_word : (j : ℕ) → 13068 ≤ j → get_or w j 0 ≡ get_or w₀ j 0
    pushed_word j h = pushed.kept j (not_slack j h s)

    -- its own slack is as it was
    own_kept : (i b : ℕ) → i ≤ t → q ≤ b → b ≤ c.board → get_or w (slack_at i q b) 0 ≡ get_or w₀ (slack_at i q b) 0
    own_kept i b h u v = pushed.kept (slack_at i q b) (λ i' b' f g x y e. omega arith)

    -- its body, by that of the one before
    pub body_grown : (own own' : ℕ) → own ≡ body c (s + 1) l q
        → own' ≡ get_or w (execution_at t q) 0 + cond (ltb s l) (get_or w (internal_at t q) 0) 0 + own → own' ≡ body c (t + 1) l q
    body_grown own own' e d =
        let task = laid t q (omega arith) some low in
        let x = pushed_word (execution_at t q) (omega arith) ∙ task.executes in
        let y = pushed_word (internal_at t q) (omega arith) ∙ task.passes in
        d ∙ rw (x, y, e, next) (sym (body_front c (t + 1) l q (omega arith)))

    -- one module more, which keeps the rules
    module _ (w' left : List ℕ) (own from : ℕ) (fits : l ≤ get_or w (reach_at t q) 0) (is_body : own ≡ body c (t + 1) l q) (rows : from ≡ cond (leb fixed t) 33 0)
        (is_one : (b : ℕ) → get_or left b 0 ≡ one b) (is_any : (b : ℕ) → get_or left (33 + b) 0 ≡ any b)
        (start : ℕ) (late : q ≤ start) (empty : (b : ℕ) → q ≤ b → b < start → get_or left (from + b) 0 ≤ own)
        (raised : Raised w w' (λ b. get_or left (from + b) 0) (t * 1089 + q * 33) own start c.board) where
      keeps : module_rules c (t + 1) l 1 q ≡ true
      keeps =
          let e = (laid t q (omega arith) some low).reaches.exact l earlier inside in
          e ∙ le-leb l _ (omega (arith, pushed_word (reach_at t q) (omega arith)))

      -- the row that counts
      leaves : (b : ℕ) → get_or left (from + b) 0 - own ≡ ends t b
      leaves b = ⊎_elim
          (λ (a : leb fixed t ≡ true).
          let e : from ≡ 33 = rows ∙ rw a refl in
          rw (e, is_any b, is_body) (sym (ends_any (fits_on c) (replicable_on c) (body_on c) (λ l q b. one b) (λ l q b. any b) t q b l earlier keeps (fixes.exact t earlier ∙ a))))
          (λ (a : leb fixed t ≡ false).
          let e : from ≡ 0 = rows ∙ rw a refl in
          let z : 0 + b ≡ b = omega arith in
          rw (e, z, is_one b, is_body) (sym (ends_one (fits_on c) (replicable_on c) (body_on c) (λ l q b. one b) (λ l q b. any b) t q b l earlier keeps (fixes.exact t earlier ∙ a))))
          (true_or_false (leb fixed t))

      -- nothing is left below the cores from which on slacks are raised
      nothing : (b : ℕ) → q ≤ b → b < start → ends t b ≡ 0
      nothing b u x = sym (leaves b) ∙ omega (arith, empty b u x)

      own_made : (b : ℕ) → q ≤ b → b ≤ c.board → get_or w' (slack_at t q b) 0 ≡ larger (get_or w₀ (slack_at t q b) 0) (ends t b)
      own_made b u v = ⊎_elim
          (λ (d : b < start).
          raised.kept (slack_at t q b) (inl (omega arith)) ∙ own_kept t b (le_refl t) u v ∙ sym (rw (nothing b u d) (larger_zero (get_or w₀ (slack_at t q b) 0))))
          (λ (d : start ≤ b). raised.made b d v ∙ rw (own_kept t b (le_refl t) u v, leaves b) refl)
          (lt_or_le b start)

      pub pushed_more : Pushed c w₀ w' one any t l q
      pushed_more = record {
        long = raised.long ∙ pushed.long;
        made = λ i b f g u v. ⊎_elim
            (λ (d : t < i). raised.kept (slack_at i q b) (inr (omega arith)) ∙ pushed.made i b (omega arith) g u v)
            (λ (d : i ≤ t).
            let e : i ≡ t = omega arith in
            rw e (own_made b u v))
            (lt_or_le t i);
        kept = λ j x. ⊎_elim
            (λ d. raised.kept j (inl d))
            (λ d. ⊎_elim
            (λ e. raised.kept j (inr e))
            (λ e. absurd (x t (j - (t * 1089 + q * 33)) (le_refl t) earlier (omega arith) (omega arith) (omega arith)))
            (lt_or_le (t * 1089 + q * 33 + c.board) j))
            (lt_or_le j (t * 1089 + q * 33 + start))
            ∙ pushed.kept j (λ i b f g u v e. x i b (omega arith) g u v e);
      }

    -- where neither it nor longer ones leave something all are pushed
    pushed_rest : ((i b : ℕ) → i ≤ t → q ≤ b → b ≤ c.board → ends i b ≡ 0) → Pushed c w₀ w one any 0 l q
    pushed_rest bare = record {
      long = pushed.long;
      made = λ i b f g u v. ⊎_elim
          (λ (d : t < i). pushed.made i b (omega arith) g u v)
          (λ (d : i ≤ t). own_kept i b d u v ∙ sym (rw (bare i b d u v) (larger_zero (get_or w₀ (slack_at i q b) 0))))
          (lt_or_le t i);
      kept = λ j x. pushed.kept j (λ i b f g u v e. x i b (omega arith) g u v e);
    }

    -- the first that breaks a rule: so do all longer ones
    pub pushed_stop : get_or w (reach_at t q) 0 < l → Pushed c w₀ w one any 0 l q
    pushed_stop short = pushed_rest (λ i b d u v. ends_not (fits_on c) (replicable_on c) (body_on c) (λ l q b. one b) (λ l q b. any b) i q b l (breaks i d))
      where
        breaks : (i : ℕ) → i ≤ t → module_rules c (i + 1) l 1 q ≡ false
        breaks i d = ⊎_elim
            (λ (a : module_rules c (i + 1) l 1 q ≡ true).
            let k = rules_drop c (i + 1) l (t + 1) l (omega arith) (le_refl l) 1 q a in
            let e = (laid t q (omega arith) some low).reaches.exact l earlier inside in
            true_not_false (module_rules c (t + 1) l 1 q) k (e ∙ lt-leb l (get_or w₀ (reach_at t q) 0) (omega (arith, pushed_word (reach_at t q) (omega arith)))))
            (λ a. a)
            (true_or_false (module_rules c (i + 1) l 1 q))

    -- the first whose body is all that is left with any cores: longer ones have no shorter bodies
    pub pushed_spent : (left : List ℕ) (own first : ℕ) → own ≡ body c (t + 1) l q → ((b : ℕ) → get_or left b 0 ≡ one b) → ((b : ℕ) → get_or left (33 + b) 0 ≡ any b)
        → Spent left q first own fixed t → c.board < first → Pushed c w₀ w one any 0 l q
    pushed_spent left own first is_body is_one is_any spent all = pushed_rest bare
      where
        longer : (i : ℕ) → i ≤ t → own ≤ body c (i + 1) l q
        longer i d =
            let e : i + 1 + (t - i) ≡ t + 1 = omega arith in
            omega (arith, is_body, rw e at (body_drop c l q (i + 1) (t - i) (omega arith)))

        bare : (i b : ℕ) → i ≤ t → q ≤ b → b ≤ c.board → ends i b ≡ 0
        bare i b d u v = ⊎_elim
            (λ (f : fits_on c i l q ≡ true). ⊎_elim
            (λ (a : i < fixed).
            ends_one (fits_on c) (replicable_on c) (body_on c) (λ l q b. one b) (λ l q b. any b) i q b l (omega arith) f (fixes.exact i (omega arith) ∙ lt-leb fixed i a)
            ∙ omega (arith, longer i d, is_one b, (spent b u (omega arith)).0))
            (λ (a : fixed ≤ i).
            ends_any (fits_on c) (replicable_on c) (body_on c) (λ l q b. one b) (λ l q b. any b) i q b l (omega arith) f (fixes.exact i (omega arith) ∙ le-leb fixed i a)
            ∙ omega (arith, longer i d, is_any b, (spent b u (omega arith)).1 (omega arith)))
            (lt_or_le i fixed))
            (λ (f : fits_on c i l q ≡ false). ends_not (fits_on c) (replicable_on c) (body_on c) (λ l q b. one b) (λ l q b. any b) i q b l f)
            (true_or_false (fits_on c i l q))
