-- The three tables of a fill are right: made of one another they give the slack. Each way of a first module is one by the cheapest
-- transfer to its rest, and what the cheapest transfer leaves is a way; and each table depends on few entries of the others.
use Prim.Native.Nat.{ℕ, suc, ◌+◌, ◌*◌, ◌-◌, ◌≤◌, ◌<◌}
use native.Mathlib.Omega.{arith}
use native.Mathlib.Nat.{le_refl, le_trans, mul-le-mul}
use mathlib.Core.Path.{◌≡◌, subst, ◌∙◌}
use mathlib.Core.Bool.{Bool, ◌&&◌, ◌||◌}
use mathlib.Core.Logic.{inl, inr}
use lib.Dec.{T, ltb, lt→ltb, leb, leb→le, le→leb}
use Rattle.records.proofs.Cases.{lt_or_le}
use Rattle.search.specs.Least.{pick}
use Rattle.search.proofs.Tests.{passed, failed, test, and_l, and_r, and_i, or_e, or_l, or_r}
use Rattle.search.proofs.Least.{pick_yes, pick_no, pick_low, pick_ge, pick_ext, least_le, least_at}
use Rattle.slack.specs.Greatest.{greatest}
use Rattle.slack.specs.Split.{Split}
use Rattle.slack.specs.Slack.{Slack, goes_on, over_last, slack}
use Rattle.slack.specs.Fill.{Given, added, split_of, chance, cheapest, left_by, several, more_by, best_by, ends_at, cell_by}
use Rattle.slack.proofs.Greatest.{below_eq, below_pick, pick_below, larger_ge, larger_below, greatest_ge, greatest_at, greatest_ext}
use Rattle.slack.proofs.Split.{keeps_fair}
use Rattle.slack.proofs.Slack.{Way, way_of, way_below, slack_is, goes_on_next}

-- ---- the tables made of the slack itself

-- on a board of P cores; none is above the time of all copies that it holds
module _ (G : Given) (P none : ℕ) (high : (r : ℕ) → r ≤ P → G.time r < none) where
  abbrev S : Split
  S = split_of G

  abbrev H : Slack
  H = slack S

  abbrev C : (l q c : ℕ) → ℕ
  C = cheapest G.tasks none G.send H

  -- what r copies of q cores leave in b cores
  abbrev left : (l q b r : ℕ) → ℕ
  left = left_by G.time G.extra C

  abbrev best : (l q b : ℕ) → ℕ
  best = best_by G.time G.extra C

  -- a module of r copies of q cores, before one of q' cores: the rest goes on, and y is left beside the transfer
  record Left (l q b r y : ℕ) : Type 0 where
    q' : ℕ
    room : r * q ≤ b
    on : T (goes_on S H l q q' (b - r * q))
    time : y + (G.send l q q' + added G.extra r) ≤ G.time r

  -- what is below what r copies leave is left before some next module, and the other way round
  left_of : (l q b r y : ℕ) → 1 ≤ q → b ≤ P → y < left l q b r → Left l q b r y
  unfolding left_by cheapest chance
  left_of l q b r y p h u =
      let c = b - r * q in
      let (t, w) = below_pick (leb (r * q) b) y (suc (G.time r) - (C l q c + added G.extra r)) u in
      let room = leb→le (r * q) b t in
      let below = high r (omega (arith, mul-le-mul (le_refl r) p)) in
      let (q', i, e) = least_at none (suc c) (chance G.tasks none G.send H l q c) (omega arith) in
      let g : T (goes_on S H l q q' c) = pick_low (goes_on S H l q q' c) (G.send l q q') none (omega arith) in
      record {
        q' = q';
        room = room;
        on = g;
        time = omega (arith, pick_yes (goes_on S H l q q' c) (G.send l q q') none g);
      }

  left_below : (l q b r y : ℕ) → Left l q b r y → y < left l q b r
  unfolding left_by cheapest chance
  left_below l q b r y w =
      let c = b - r * q in
      let q' = w.q' in
      let d = least_le none (suc c) (chance G.tasks none G.send H l q c) q' (omega (arith, goes_on_next S l q q' c w.on)) in
      pick_below (leb (r * q) b) y (suc (G.time r) - (C l q c + added G.extra r)) (le→leb (r * q) b w.room)
      (omega (arith, w.time, pick_yes (goes_on S H l q q' c) (G.send l q q') none w.on))

  -- y is left by some copies that a module may have
  record Copies (rep : Bool) (l q b y : ℕ) : Type 0 where
    r : ℕ
    one_copy : 1 ≤ r
    may : T (leb r 1 || rep)
    low : Left l q b r y

  copies_of : (rep : Bool) (l q b y : ℕ) → 1 ≤ q → b ≤ P → y < pick rep (best l q b) (left l q b 1) → Copies rep l q b y
  unfolding best_by more_by several
  copies_of rep l q b y p s h =
      let alone : y < left l q b 1 → Copies rep l q b y = λ g. record {
        r = 1;
        one_copy = le_refl 1;
        may = or_l (leb 1 1) rep tt;
        low = left_of l q b 1 y p s g;
      } in
      elim (test rep) [
        | failed t ↦ alone (omega (arith, pick_no rep (best l q b) (left l q b 1) t))
        | passed t ↦
            let g : y < best l q b = omega (arith, pick_yes rep (best l q b) (left l q b 1) t) in
            elim (larger_below (left l q b 1) (more_by G.time G.extra C l q b) y g) [
              | inl u ↦ alone u
              | inr u ↦
                  let (r, i, v) = greatest_at (suc b) (several G.time G.extra C l q b) y u in
                  let (d, w) = below_pick (leb 2 r) y (left l q b r) v in
                  record { r = r; one_copy = omega (arith, leb→le 2 r d); may = or_r (leb r 1) rep t; low = left_of l q b r y p s w }
            ]
      ]

  copies_below : (rep : Bool) (l q b y : ℕ) → 1 ≤ q → Copies rep l q b y → y < pick rep (best l q b) (left l q b 1)
  unfolding best_by more_by several
  copies_below rep l q b y p w =
      let r = w.r in
      let a = left l q b 1 in
      let f = several G.time G.extra C l q b in
      let g = larger_ge a (greatest (suc b) f) in
      let v = left_below l q b r y w.low in
      elim (lt_or_le 1 r) [
        | inr u ↦
            let e : r ≡ 1 = omega (arith, w.one_copy) in
            le_trans (subst (λ r. y < left l q b r) e v) (pick_ge rep (best l q b) a a (λ t. g.0) (le_refl a))
        | inl u ↦ elim (or_e (leb r 1) rep w.may) [
          | inl t ↦ absurd (omega (arith, leb→le r 1 t))
          | inr t ↦
              let d = greatest_ge (suc b) f r (omega (arith, w.low.room, mul-le-mul (le_refl r) p)) in
              omega (arith, pick_yes rep (best l q b) a t, pick_below (leb 2 r) y (left l q b r) (le→leb 2 r u) v)
        ]
      ]

  abbrev cell : Slack
  cell = cell_by G.fits G.replicable G.body (λ l q b. left l q b 1) best G.tasks

  abbrev ends : (t q b l : ℕ) → ℕ
  ends = ends_at G.fits G.replicable G.body (λ l q b. left l q b 1) best

  way_cell : (t q b x : ℕ) → Way S H t q b x → x < cell t q b
  unfolding cell_by ends_at
  way_cell t q b x w =
      let l = w.l in
      let r = w.r in
      let fit = G.fits t l q in
      let rep = G.replicable t l in
      let body = G.body t l q in
      let f = keeps_fair S t l r q w.kept in
      let m : T (fit && (leb r 1 || rep)) =
      and_r (ltb t l && leb l G.tasks && leb 1 r && leb 1 q) (fit && (leb r 1 || rep)) w.kept in
      let g = copies_below rep l q b (x + body) f.3 (record {
        r = r;
        one_copy = f.2;
        may = and_r fit (leb r 1 || rep) m;
        low = record { q' = w.q'; room = w.room; on = w.on; time = omega (arith, w.time) };
      }) in
      le_trans (pick_below (ltb t l && fit) x (pick rep (best l q b) (left l q b 1) - body)
      (and_i (ltb t l) fit (lt→ltb t l f.0) (and_l fit (leb r 1 || rep) m)) (omega arith))
      (greatest_ge (suc G.tasks) (ends t q b) l (omega arith))

  cell_way : (t q b x : ℕ) → 1 ≤ q → b ≤ P → x < cell t q b → Way S H t q b x
  unfolding cell_by ends_at
  cell_way t q b x p s v =
      let (l, u, e) = greatest_at (suc G.tasks) (ends t q b) x v in
      let fit = G.fits t l q in
      let rep = G.replicable t l in
      let body = G.body t l q in
      let (a, d) = below_pick (ltb t l && fit) x (pick rep (best l q b) (left l q b 1) - body) e in
      let w = copies_of rep l q b (x + body) p s (omega arith) in
      let r = w.r in
      let o = w.low in
      let first = and_i (ltb t l) (leb l G.tasks) (and_l (ltb t l) fit a) (le→leb l G.tasks (omega arith)) in
      record {
        l = l;
        q' = o.q';
        r = r;
        next = omega (arith, goes_on_next S l q o.q' (b - r * q) o.on);
        kept = and_i (ltb t l && leb l G.tasks && leb 1 r && leb 1 q) (fit && (leb r 1 || rep))
            (and_i (ltb t l && leb l G.tasks && leb 1 r) (leb 1 q)
            (and_i (ltb t l && leb l G.tasks) (leb 1 r) first (le→leb 1 r w.one_copy)) (le→leb 1 q p))
            (and_i fit (leb r 1 || rep) (and_r (ltb t l) fit a) w.may);
        room = o.room;
        on = o.on;
        time = omega (arith, o.time);
      }

  -- each entry of the slack is the greatest over the last task of what the copies leave beside the body
  pub slack_filled : (t q b : ℕ) → 1 ≤ q → b ≤ P
      → slack (split_of G) t q b
      ≡ cell_by G.fits G.replicable G.body
      (λ l q b. left_by G.time G.extra (cheapest G.tasks none G.send (slack (split_of G))) l q b 1)
      (best_by G.time G.extra (cheapest G.tasks none G.send (slack (split_of G)))) G.tasks t q b
  slack_filled t q b p s = slack_is S t q b ∙ below_eq (over_last S H t q b) (cell t q b)
      (λ x u. way_cell t q b x (way_of S H t q b x u))
      (λ x u. way_below S H t q b x (cell_way t q b x p s u))

-- ---- which entries each needs

module _ (time : ℕ → ℕ) (D : ℕ) (C C' : (l q c : ℕ) → ℕ) (l q b : ℕ) (same : (c : ℕ) → c ≤ b - q → C l q c ≡ C' l q c) where
  -- what copies leave, those of the same l and q with what one copy leaves of the cores
  pub left_ext : (r : ℕ) → 1 ≤ r → left_by time D C l q b r ≡ left_by time D C' l q b r
  unfolding left_by
  left_ext r h = rw (same (b - r * q) (omega (arith, mul-le-mul h (le_refl q))))

  pub best_ext : best_by time D C l q b ≡ best_by time D C' l q b
  unfolding best_by more_by several
  best_ext =
      rw (
        left_ext 1 (le_refl 1),
        greatest_ext (suc b) (several time D C l q b) (several time D C' l q b)
            (λ r i. pick_ext (leb 2 r) _ _ 0 (λ t. left_ext r (omega (arith, leb→le 2 r t)))),
      )
