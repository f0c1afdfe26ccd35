-- Sums over a module's tasks and what is made of them: a part of the tasks sums to no more, so dropping tasks at an end never
-- makes copies or response worse; and a bound on each value bounds the sum. Assumes nothing.
use mathlib.Core.Path.{◌≡◌, refl, ap}
use mathlib.Core.Bool.{Bool, true, false, cond, ◌||◌}
use mathlib.Core.Logic.{⊎_elim}
use Prim.Native.Nat.{ℕ, zero, suc, ◌+◌, ◌-◌, ◌*◌, ◌≤◌, ◌<◌}
use native.Mathlib.Nat.{suc-mul, mul-le-mul_right}
use native.Mathlib.Omega.{arith}
use lib.Dec.{leb, eqb}
use borrow.Author.Tests.{eq-eqb, eqb-true, lt-ltb, le-ltb}
use Rattle.records.proofs.Cases.{lt_or_le, or_unless, or_right}
use Rattle.modules.specs.Model.{Chain, run, gather, nothing, body, transfer, handed, response, passage}
use Rattle.modules.specs.Rules.{mark, copies_allowed}
use Rattle.modules.proofs.Sums.{gather_some, gather_none}

-- ---- the sum

module _ (f g : ℕ → ℕ) where
  -- fewer tasks at the end, fewer at the start
  run_longer : (n d t : ℕ) → run f g t n ≤ run f g t (n + d)
  unfolding run
  run_longer zero zero t = omega arith
  run_longer zero (suc d) t = let e : zero + suc d ≡ suc d = omega arith in rw e (omega arith)
  run_longer (suc n) d t = let e : suc n + d ≡ suc (n + d) = omega arith in rw e (omega (arith, run_longer n d (t + 1)))

  run_earlier : (d n t : ℕ) → run f g (t + d) n ≤ run f g t (d + n)
  unfolding run
  run_earlier zero n t = let e : t + zero ≡ t = omega arith in let h : zero + n ≡ n = omega arith in rw (e, h) (omega arith)
  run_earlier (suc d) n t =
      let e : t + suc d ≡ t + 1 + d = omega arith in
      let h : suc d + n ≡ suc (d + n) = omega arith in
      rw (e, h) (omega (arith, run_earlier d n (t + 1)))

  -- a part of the tasks sums to no more
  pub gather_part : (first last from to : ℕ) → first ≤ from → to ≤ last → gather f g from to ≤ gather f g first last
  gather_part first last from to h i = ⊎_elim
      (λ l. rw (gather_none f g from to l) (omega arith))
      (λ l.
      let a = from - first in
      let n = to - from in
      let e : run f g (first + a) n ≡ run f g from n = ap (λ (x : ℕ). run f g x n) (omega arith) in
      let d : run f g first (a + n + (last - to)) ≡ run f g first (last - first) = ap (run f g first) (omega arith) in
      omega (arith, gather_some f g from to l, gather_some f g first last (omega arith), run_earlier a n first, run_longer (a + n) (last - to) first, e, d))
      (lt_or_le to from)

  -- a bound on each value bounds the sum: n tasks have 2n - 1 values
  pub run_most : (most : ℕ) → ((t : ℕ) → f t ≤ most) → ((t : ℕ) → g t ≤ most) → (n t : ℕ) → run f g t n ≤ (2 * n + 1) * most
  unfolding run
  run_most most a b zero t = omega (arith, a t)
  run_most most a b (suc n) t =
      let e : 2 * suc n + 1 ≡ suc (suc (2 * n + 1)) = omega arith in
      rw e (omega (arith, a t, b t, run_most most a b n (t + 1), suc-mul (suc (2 * n + 1)) most, suc-mul (2 * n + 1) most))

  pub gather_most : (most : ℕ) → ((t : ℕ) → f t ≤ most) → ((t : ℕ) → g t ≤ most) → (first last : ℕ) → gather f g first last ≤ (2 * (last - first) + 1) * most
  gather_most most a b first last = ⊎_elim
      (λ l. rw (gather_none f g first last l) (omega arith))
      (λ l. rw (gather_some f g first last l) (run_most most a b (last - first) first))
      (lt_or_le last first)

-- functions that are close at each task have close sums
pub run_close : (f g f' g' : ℕ → ℕ) (d : ℕ) → ((t : ℕ) → f t ≤ f' t + d) → ((t : ℕ) → g t ≤ g' t + d) → (n t : ℕ) → run f g t n ≤ run f' g' t n + (2 * n + 1) * d
unfolding run
run_close f g f' g' d a b zero t = omega (arith, a t)
run_close f g f' g' d a b (suc n) t =
    let e : 2 * suc n + 1 ≡ suc (suc (2 * n + 1)) = omega arith in
    rw e (omega (arith, a t, b t, run_close f g f' g' d a b n (t + 1), suc-mul (suc (2 * n + 1)) d, suc-mul (2 * n + 1) d))

-- a function that is at most another at each task has at most its sum
pub gather_less : (f f' : ℕ → ℕ) → ((t : ℕ) → f t ≤ f' t) → (first last : ℕ) → gather f nothing first last ≤ gather f' nothing first last
gather_less f f' a first last = ⊎_elim
    (λ l. rw (gather_none f nothing first last l) (omega arith))
    (λ l. rw (gather_some f nothing first last l, gather_some f' nothing first last l)
    (omega (arith, run_close f nothing f' nothing 0 (λ t. omega (arith, a t)) (λ t. omega arith) (last - first) first)))
    (lt_or_le last first)

-- the numbering of tasks can be shifted
pub run_shift : (f g f' g' : ℕ → ℕ) (d : ℕ) → ((t : ℕ) → f (t + d) ≡ f' t) → ((t : ℕ) → g (t + d) ≡ g' t) → (n t : ℕ) → run f g (t + d) n ≡ run f' g' t n
unfolding run
run_shift f g f' g' d a b zero t = a t
run_shift f g f' g' d a b (suc n) t =
    let e : t + d + 1 ≡ t + 1 + d = omega arith in
    rw (a t, b t, e) (ap (λ (x : ℕ). f' t + g' t + x) (run_shift f g f' g' d a b n (t + 1)))

-- ---- dropping tasks at an end of a module

module _ (c : Chain) (first last from to : ℕ) (h : first ≤ from) (i : to ≤ last) where
  pub copies_drop : (r : ℕ) → copies_allowed c first last r ≡ true → copies_allowed c from to r ≡ true
  unfolding copies_allowed
  copies_drop r e = or_unless (leb r 1) (eqb (gather (mark c) nothing from to) 0) (λ f.
      eq-eqb (gather (mark c) nothing from to) 0
      (omega (arith, gather_part (mark c) nothing first last from to h i, eqb-true (gather (mark c) nothing first last) 0 (or_right (leb r 1) (eqb (gather (mark c) nothing first last) 0) e f))))

  pub body_drop : (p : ℕ) → body c from to p ≤ body c first last p
  unfolding body
  body_drop p = gather_part (λ t. c.execution t p) (λ t. c.internal t p) first last from to h i

pub no_sender : (c : Chain) (t q : ℕ) → transfer c t 0 q ≡ 0
unfolding transfer
no_sender c t q = refl

pub no_receiver : (c : Chain) (t s : ℕ) → transfer c t s 0 ≡ 0
unfolding transfer
no_receiver c t s = simp (or_unless (eqb s 0) true (λ _. refl))

-- without its last tasks, and then with nothing to send
pub response_drop_last : (c : Chain) (s first last to r p q : ℕ) → to ≤ last → response c s first to r p 0 ≤ response c s first last r p q
unfolding response
response_drop_last c s first last to r p q h = omega (arith, body_drop c first last first to (omega arith) h p, no_receiver c to p)

-- without its first tasks, and then with nothing to receive
pub response_drop_first : (c : Chain) (s first last from r p q : ℕ) → first ≤ from → response c 0 from last r p q ≤ response c s first last r p q
unfolding response
response_drop_first c s first last from r p q h = omega (arith, body_drop c first last from last h (omega arith) p, no_sender c (from - 1) p)

-- ---- M-104: what a module adds to the single-block time

-- its body, what it sends and what handing out costs (M-106)
pub passage_parts : (c : Chain) (first last r p q : ℕ) → passage c first last r p q ≡ body c first last p + transfer c last p q + handed c r
unfolding passage
passage_parts c first last r p q = refl

-- with what it receives that is its response
pub response_passage : (c : Chain) (s first last r p q : ℕ) → response c s first last r p q ≡ transfer c (first - 1) s p + passage c first last r p q
unfolding response passage
response_passage c s first last r p q = omega arith

-- ---- M-106: handing out to copies

module _ (c : Chain) (r : ℕ) where
  pub handed_none : r ≤ 1 → handed c r ≡ 0
  unfolding handed
  handed_none h = simp (le-ltb 1 r h)

  pub handed_some : 1 < r → handed c r ≡ c.hand_out
  unfolding handed
  handed_some h = simp (lt-ltb 1 r h)

  pub handed_most : handed c r ≤ c.hand_out
  handed_most = ⊎_elim (λ h. omega (arith, handed_some h)) (λ h. omega (arith, handed_none h)) (lt_or_le 1 r)

-- more copies cost no less
pub handed_rises : (c : Chain) (r r' : ℕ) → r ≤ r' → handed c r ≤ handed c r'
handed_rises c r r' h = ⊎_elim
    (λ l. omega (arith, handed_some c r l, handed_some c r' (omega arith)))
    (λ l. omega (arith, handed_none c r l))
    (lt_or_le 1 r)

-- D enters the response as it stands, before anything is divided by r
pub response_copies : (c : Chain) (s first last r p q : ℕ) → response c s first last r p q ≡ response c s first last 1 p q + handed c r
unfolding response
response_copies c s first last r p q = omega (arith, handed_none c 1 (omega arith))

pub passage_copies : (c : Chain) (first last r p q : ℕ) → passage c first last r p q ≡ passage c first last 1 p q + handed c r
unfolding passage
passage_copies c first last r p q = omega (arith, handed_none c 1 (omega arith))

-- where D is 0 copies don't enter
module _ (c : Chain) (first last r p q : ℕ) (free : c.hand_out ≡ 0) where
  pub response_free : (s : ℕ) → response c s first last r p q ≡ response c s first last 1 p q
  response_free s = omega (arith, response_copies c s first last r p q, handed_most c r)

  pub passage_free : passage c first last r p q ≡ passage c first last 1 p q
  passage_free = omega (arith, passage_copies c first last r p q, handed_most c r)

-- ---- the most that a response can be

-- no cost of the chain is above most
pub record CostsMost (c : Chain) (most : ℕ) : Type 0 where
  pub execution : (t p : ℕ) → c.execution t p ≤ most
  pub internal : (t p : ℕ) → c.internal t p ≤ most
  pub external : (t s q : ℕ) → c.external t s q ≤ most

module _ (c : Chain) (most : ℕ) (b : CostsMost c most) where
  transfer_most : (t s q : ℕ) → transfer c t s q ≤ most
  unfolding transfer
  transfer_most t s q = cases (eqb s 0 || eqb q 0)
    where
      cases : (x : Bool) → cond x 0 (c.external t s q) ≤ most
      cases true = omega arith
      cases false = b.external t s q

  pub body_most : (first last p : ℕ) → body c first last p ≤ (2 * (last - first) + 1) * most
  unfolding body
  body_most first last p = gather_most (λ t. c.execution t p) (λ t. c.internal t p) most (λ t. b.execution t p) (λ t. b.internal t p) first last

  -- 2k - 1 values, since a module of all tasks neither receives nor sends, and what handing out costs
  pub response_most : (k s first last r p q : ℕ) → 1 ≤ first → first ≤ last → last ≤ k → (first ≡ 1 → s ≡ 0) → (last ≡ k → q ≡ 0)
      → response c s first last r p q ≤ (2 * k - 1) * most + handed c r
  unfolding response
  response_most k s first last r p q h i j x y = ⊎_elim
      (λ l. ⊎_elim
      (λ m. omega (
        arith,
        body_most first last p,
        transfer_most (first - 1) s p,
        transfer_most last p q,
        suc-mul (2 * (last - first) + 1) most,
        suc-mul (suc (2 * (last - first) + 1)) most,
        mul-le-mul_right {m = suc (suc (2 * (last - first) + 1))} {n = 2 * k - 1} most (omega arith),
      ))
      (λ m. let e : transfer c last p q ≡ 0 = rw (y (omega arith)) (no_receiver c last p) in
      omega (
        arith,
        body_most first last p,
        transfer_most (first - 1) s p,
        suc-mul (2 * (last - first) + 1) most,
        mul-le-mul_right {m = suc (2 * (last - first) + 1)} {n = 2 * k - 1} most (omega arith),
      ))
      (lt_or_le last k))
      (λ l. let d : transfer c (first - 1) s p ≡ 0 = rw (x (omega arith)) (no_sender c (first - 1) p) in ⊎_elim
      (λ m. omega (
        arith,
        body_most first last p,
        transfer_most last p q,
        suc-mul (2 * (last - first) + 1) most,
        mul-le-mul_right {m = suc (2 * (last - first) + 1)} {n = 2 * k - 1} most (omega arith),
      ))
      (λ m. let e : transfer c last p q ≡ 0 = rw (y (omega arith)) (no_receiver c last p) in
      omega (
        arith,
        body_most first last p,
        mul-le-mul_right {m = 2 * (last - first) + 1} {n = 2 * k - 1} most (omega arith),
      ))
      (lt_or_le last k))
      (lt_or_le 1 first)
