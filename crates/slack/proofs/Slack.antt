-- The slack is right: what is below it some rest serves, and what a rest serves is below it. By induction on the modules.
use Prim.Native.Nat.{ℕ, zero, suc, ◌+◌, ◌*◌, ◌-◌, ◌≤◌, ◌<◌}
use native.Mathlib.Omega.{arith}
use native.Mathlib.Nat.{le_refl, le_trans, le_antisymm}
use mathlib.Core.Path.{◌≡◌, refl, sym, subst}
use mathlib.Core.Bool.{◌&&◌}
use mathlib.Core.Logic.{inl, inr, ◌↔◌}
use mathlib.Core.List.{List, [], ◌∷◌}
use lib.Dec.{T, ltb, ltb→lt, lt→ltb, leb, leb→le, le→leb, eqb, eqb→eq}
use Rattle.modules.specs.declared.Module.{Module}
use Rattle.figures.specs.Model.{head_cores, cores_of}
use Rattle.search.specs.Plan.{module_after}
use Rattle.search.proofs.Tests.{and_l, and_r, and_i, or_e, or_l, or_r}
use Rattle.slack.specs.Split.{Split, keeps, serves, Serving}
use Rattle.slack.specs.Slack.{Slack, goes_on, leaves, one_way, over_copies, over_next, over_last, slack_by, slack}
use Rattle.slack.proofs.Greatest.{below_le, below_pick, pick_below, greatest_ge, greatest_at}
use Rattle.slack.proofs.Split.{keeps_fair, cores_le, serves_keeps, serves_time, serves_tail, serves_cons}

module _ (S : Split) where
  -- ---- one module and the rest

  -- a first module, before one of q' cores, with which the rest serves x
  pub record Way (rest : Slack) (t q b x : ℕ) : Type 0 where
    pub l : ℕ
    pub q' : ℕ
    pub r : ℕ
    pub next : q' ≤ b
    pub kept : T (keeps S t l r q)
    pub room : r * q ≤ b
    pub on : T (goes_on S rest l q q' (b - r * q))
    pub time : x + S.own t l r q + S.send l q q' ≤ S.time r

  -- what is below the greatest over all ways is below one
  pub way_of : (rest : Slack) (t q b x : ℕ) → x < over_last S rest t q b → Way rest t q b x
  unfolding over_last over_next over_copies one_way
  way_of rest t q b x h =
      let (l, hl, el) = greatest_at (suc S.tasks) (over_next S rest t q b) x h in
      let (q', hq, eq) = greatest_at (suc b) (over_copies S rest t q b l) x el in
      let (r, hr, er) = greatest_at (suc b) (one_way S rest t q b l q') x eq in
      let k = keeps S t l r q in
      let c = leb (r * q) b in
      let g = goes_on S rest l q q' (b - r * q) in
      let (u, v) = below_pick (k && c && g) x (leaves S t q l q' r) er in
      record {
        l = l;
        q' = q';
        r = r;
        next = omega arith;
        kept = and_l k c (and_l (k && c) g u);
        room = leb→le (r * q) b (and_r k c (and_l (k && c) g u));
        on = and_r (k && c) g u;
        time = omega arith;
      }

  pub way_below : (rest : Slack) (t q b x : ℕ) → Way rest t q b x → x < over_last S rest t q b
  unfolding over_last over_next over_copies one_way
  way_below rest t q b x w =
      let l = w.l in
      let q' = w.q' in
      let r = w.r in
      let k = keeps S t l r q in
      let c = leb (r * q) b in
      let g = goes_on S rest l q q' (b - r * q) in
      let f = keeps_fair S t l r q w.kept in
      let d = cores_le S t l r q w.kept in
      le_trans (pick_below (k && c && g) x (leaves S t q l q' r)
      (and_i (k && c) g (and_i k c w.kept (le→leb (r * q) b w.room)) w.on) (omega (arith, w.time)))
      (le_trans (greatest_ge (suc b) (one_way S rest t q b l q') r (omega (arith, w.room)))
      (le_trans (greatest_ge (suc b) (over_copies S rest t q b l) q' (omega (arith, w.next)))
      (greatest_ge (suc S.tasks) (over_next S rest t q b) l (omega arith))))

  -- ---- what is below the slack is served

  serving_cons : (x t q b l r q' : ℕ) → T (keeps S t l r q) → r * q ≤ b → x + S.own t l r q + S.send l q q' ≤ S.time r
      → (ms : List Module) → head_cores ms ≡ q' → cores_of ms ≤ b - r * q → T (serves S (S.send l q q') l ms) → Serving S x t q b
  unfolding cores_of
  serving_cons x t q b l r q' k c h ms e d v = record {
    modules = module_after t l r q ∷ ms;
    some = (keeps_fair S t l r q k).3;
    ok = serves_cons S x t (module_after t l r q) ms refl k
        (subst (λ z. x + S.own t l r q + S.send l q z ≤ S.time r) (sym e) h)
        (subst (λ z. T (serves S (S.send l q z) l ms)) (sym e) v);
    head = refl;
    cores = omega arith;
  }

  pub below_served : (m t q b x : ℕ) → x < slack_by S m t q b → Serving S x t q b
  unfolding slack_by cores_of
  below_served zero t q b x h = absurd (omega arith)
  below_served (suc m) t q b x h =
      let w = way_of (slack_by S m) t q b x h in
      let l = w.l in
      let q' = w.q' in
      let e = eqb l S.tasks && eqb q' 0 in
      let o = ltb (S.send l q q') (slack_by S m l q' (b - w.r * q)) in
      elim (or_e e o w.on) [
        | inl u ↦
            serving_cons x t q b l w.r q' w.kept w.room w.time [] (sym (eqb→eq q' 0 (and_r (eqb l S.tasks) (eqb q' 0) u)))
            (omega arith) (and_l (eqb l S.tasks) (eqb q' 0) u)
        | inr u ↦
            let s = below_served m l q' (b - w.r * q) (S.send l q q') (ltb→lt _ _ u) in
            serving_cons x t q b l w.r q' w.kept w.room w.time s.modules s.head s.cores s.ok
      ]

  -- ---- what is served is below the slack

  -- the first module's cores are at most all
  pub head_le : (x t : ℕ) (ms : List Module) → T (serves S x t ms) → head_cores ms ≤ cores_of ms
  unfolding cores_of
  head_le x t [] v = le_refl 0
  head_le x t (m ∷ ms) v = omega (arith, cores_le S t m.last m.copies m.cores (serves_keeps S x t m ms v))

  -- after the first of them the rest goes on
  module _ (x t : ℕ) (y : Module) where
    goes_on_lem : (rest : Slack) (ms : List Module) (n : ℕ) → T (serves S x t (y ∷ ms))
        → (1 ≤ head_cores ms → S.send y.last y.cores (head_cores ms) < rest y.last (head_cores ms) n)
        → T (goes_on S rest y.last y.cores (head_cores ms) n)
    goes_on_lem rest [] n v h =
        or_l (eqb y.last S.tasks && eqb 0 0) (ltb (S.send y.last y.cores 0) (rest y.last 0 n))
        (and_i (eqb y.last S.tasks) (eqb 0 0) (serves_tail S x t y [] v) tt)
    goes_on_lem rest (z ∷ ms) n v h =
        let d = serves_tail S x t y (z ∷ ms) v in
        let k = keeps_fair S y.last z.last z.copies z.cores (serves_keeps S _ y.last z ms d) in
        or_r (eqb y.last S.tasks && eqb z.cores 0) (ltb (S.send y.last y.cores z.cores) (rest y.last z.cores n))
        (lt→ltb _ _ (h k.3))

  pub served_below : (m x t b : ℕ) (ms : List Module) → T (serves S x t ms) → 1 ≤ head_cores ms → cores_of ms ≤ b → S.tasks ≤ t + m
      → x < slack_by S m t (head_cores ms) b
  unfolding slack_by cores_of
  served_below m x t b [] v p c f = absurd (omega arith)
  served_below zero x t b (y ∷ ms) v p c f =
      absurd (omega (arith, keeps_fair S t y.last y.copies y.cores (serves_keeps S x t y ms v)))
  served_below (suc m) x t b (y ∷ ms) v p c f =
      let k = serves_keeps S x t y ms v in
      let d = serves_tail S x t y ms v in
      let n = b - y.copies * y.cores in
      way_below (slack_by S m) t y.cores b x (record {
        l = y.last;
        q' = head_cores ms;
        r = y.copies;
        next = omega (arith, head_le _ y.last ms d);
        kept = k;
        room = omega arith;
        on = goes_on_lem x t y (slack_by S m) ms n v (λ h. served_below m _ y.last n ms d h (omega arith)
            (omega (arith, keeps_fair S t y.last y.copies y.cores k)));
        time = serves_time S x t y ms v;
      })

  -- ---- the theorem

  -- x is below the slack just if some rest serves it
  pub slack_served : (x t q b : ℕ) → (x < slack S t q b) ↔ Serving S x t q b
  slack_served x t q b = (
    λ h. below_served S.tasks t q b x h,
    λ w. rw w.head at (served_below S.tasks x t b w.modules w.ok (subst (λ z. 1 ≤ z) (sym w.head) w.some) w.cores
        (omega arith)),
  )

  -- the first module's cores are among all
  pub serving_head : (x t q b : ℕ) → Serving S x t q b → q ≤ b
  serving_head x t q b w = le_trans (rw w.head at (head_le x t w.modules w.ok)) w.cores

  -- so no rest starts with more cores than all
  pub slack_narrow : (t q b : ℕ) → b < q → slack S t q b ≡ 0
  slack_narrow t q b h =
      let d = below_le (slack S t q b) 0 (λ x u. absurd (omega (arith, serving_head x t q b ((slack_served x t q b).0 u)))) in
      omega arith

  -- a rest has a first module
  pub slack_zero : (t b : ℕ) → slack S t 0 b ≡ 0
  slack_zero t b = let d = below_le (slack S t 0 b) 0 (λ x u. absurd (omega (arith, ((slack_served x t 0 b).0 u).some))) in omega arith

  -- more cores leave no less slack
  pub slack_rises : (t q b b' : ℕ) → b ≤ b' → slack S t q b ≤ slack S t q b'
  slack_rises t q b b' h = below_le (slack S t q b) (slack S t q b') (λ x u.
      let w = (slack_served x t q b).0 u in
      (slack_served x t q b').1 (record { modules = w.modules; some = w.some; ok = w.ok; head = w.head; cores = le_trans w.cores h }))

  -- as many modules as tasks are left are enough, so the slack is made of itself
  slack_by_enough : (m m' t q b : ℕ) → S.tasks ≤ t + m' → slack_by S m t q b ≤ slack_by S m' t q b
  slack_by_enough m m' t q b f = below_le (slack_by S m t q b) (slack_by S m' t q b) (λ x u.
      let w = below_served m t q b x u in
      rw w.head at (served_below m' x t b w.modules w.ok (subst (λ z. 1 ≤ z) (sym w.head) w.some) w.cores f))

  pub slack_is : (t q b : ℕ) → slack S t q b ≡ over_last S (slack S) t q b
  unfolding slack_by
  slack_is t q b =
      let k = S.tasks in
      le_antisymm (slack_by_enough k (suc k) t q b (omega arith)) (slack_by_enough (suc k) k t q b (omega arith))

  -- ---- going on

  -- the next module's cores are among the rest's
  pub goes_on_next : (l q q' b : ℕ) → T (goes_on S (slack S) l q q' b) → q' ≤ b
  goes_on_next l q q' b t =
      let e = eqb l S.tasks && eqb q' 0 in
      let n = S.send l q q' in
      elim (or_e e (ltb n (slack S l q' b)) t) [
        | inl u ↦ omega (arith, eqb→eq q' 0 (and_r (eqb l S.tasks) (eqb q' 0) u))
        | inr u ↦ serving_head n l q' b ((slack_served n l q' b).0 (ltb→lt _ _ u))
      ]
