-- The sum over a module's tasks: taken one task after another, split at a task, and compared with another. Assumes nothing.
use mathlib.Core.Path.{◌≡◌, ap}
use mathlib.Core.Logic.{⊎_elim}
use Prim.Native.Nat.{ℕ, zero, suc, ◌+◌, ◌-◌, ◌≤◌, ◌<◌}
use native.Mathlib.Omega.{arith}
use borrow.Author.Tests.{lt-ltb, le-ltb}
use Rattle.records.proofs.Cases.{lt_or_le}
use Rattle.modules.specs.Model.{run, gather, nothing}
use Rattle.modules.proofs.Left.{left_some, left_none}

module _ (f g : ℕ → ℕ) where
  pub run_step : (t last : ℕ) → t < last → run f g t (last - t) ≡ f t + g t + run f g (t + 1) (last - (t + 1))
  unfolding run
  run_step t last h = rw (left_some h)

  pub run_end : (t last : ℕ) → t ≡ last → run f g t (last - t) ≡ f last
  unfolding run
  run_end t last e = let h : last ≤ t = omega arith in rw (left_none h, e)

  pub gather_some : (first last : ℕ) → first ≤ last → gather f g first last ≡ run f g first (last - first)
  unfolding gather
  gather_some first last h = simp (le-ltb last first h)

  pub gather_none : (first last : ℕ) → last < first → gather f g first last ≡ 0
  unfolding gather
  gather_none first last h = simp (lt-ltb last first h)

  -- the tasks up to one, what lies between it and the next, and the tasks from there on
  run_split : (n d t : ℕ) → run f g t (n + suc d) ≡ run f g t n + g (t + n) + run f g (t + n + 1) d
  unfolding run
  run_split zero d t = let e : t + zero ≡ t = omega arith in let h : zero + suc d ≡ suc d = omega arith in rw (e, h)
  run_split (suc n) d t =
      let e : t + suc n ≡ t + 1 + n = omega arith in
      let h : suc n + suc d ≡ suc (n + suc d) = omega arith in
      rw (e, h) (omega (arith, run_split n d (t + 1)))

  pub gather_split : (first mid last : ℕ) → first ≤ mid → mid < last → gather f g first last ≡ gather f g first mid + g mid + gather f g (mid + 1) last
  gather_split first mid last h i =
      let n = mid - first in
      let d = last - (mid + 1) in
      let e : run f g first (last - first) ≡ run f g first (n + suc d) = ap (run f g first) (omega arith) in
      let m : g (first + n) ≡ g mid = ap g (omega arith) in
      let r : run f g (first + n + 1) d ≡ run f g (mid + 1) d = ap (λ (t : ℕ). run f g t d) (omega arith) in
      omega (arith, gather_some first last (omega arith), gather_some first mid h, gather_some (mid + 1) last (omega arith), e, m, r, run_split n d first)

-- functions that are the same at each task, and between each two, have the same sum
module _ (f g f' g' : ℕ → ℕ) where
  run_same : (n t : ℕ) → ((i : ℕ) → t ≤ i → i ≤ t + n → f i ≡ f' i) → ((i : ℕ) → t ≤ i → i < t + n → g i ≡ g' i) → run f g t n ≡ run f' g' t n
  unfolding run
  run_same zero t a b = a t (omega arith) (omega arith)
  run_same (suc n) t a b =
      omega (
        arith,
        a t (omega arith) (omega arith),
        b t (omega arith) (omega arith),
        run_same n (t + 1) (λ i u v. a i (omega arith) (omega arith)) (λ i u v. b i (omega arith) (omega arith)),
      )

  pub gather_same : (first last : ℕ) → ((i : ℕ) → first ≤ i → i ≤ last → f i ≡ f' i) → ((i : ℕ) → first ≤ i → i < last → g i ≡ g' i)
      → gather f g first last ≡ gather f' g' first last
  gather_same first last a b = ⊎_elim
      (λ l. omega (arith, gather_none f g first last l, gather_none f' g' first last l))
      (λ l. omega (
        arith,
        gather_some f g first last l,
        gather_some f' g' first last l,
        run_same (last - first) first (λ i u v. a i u (omega arith)) (λ i u v. b i u (omega arith)),
      ))
      (lt_or_le last first)

-- and one task more at the end, or fewer at the start
module _ (f : ℕ → ℕ) where
  pub gather_first : (t last : ℕ) → t ≤ last → gather f nothing t last ≡ f t + gather f nothing (t + 1) last
  gather_first t last h = ⊎_elim
      (λ l. omega (arith, gather_some f nothing t last h, run_step f nothing t last l, gather_some f nothing (t + 1) last (omega arith)))
      (λ l.
      let e : t ≡ last = omega arith in
      let g : f t ≡ f last = ap f e in
      omega (arith, gather_some f nothing t last h, run_end f nothing t last e, g, gather_none f nothing (t + 1) last (omega arith)))
      (lt_or_le t last)

  run_last : (n t : ℕ) → run f nothing t (suc n) ≡ run f nothing t n + f (t + suc n)
  unfolding run
  run_last zero t = omega arith
  run_last (suc n) t =
      let e : f (t + 1 + suc n) ≡ f (t + suc (suc n)) = ap f (omega arith) in
      omega (arith, run_last n (t + 1), e)

  pub gather_last : (first last : ℕ) → 1 ≤ first → first ≤ last → gather f nothing first last ≡ gather f nothing first (last - 1) + f last
  gather_last first last h i = ⊎_elim
      (λ l.
      let n = last - 1 - first in
      let e : run f nothing first (last - first) ≡ run f nothing first (suc n) = ap (run f nothing first) (omega arith) in
      let g : f (first + suc n) ≡ f last = ap f (omega arith) in
      omega (arith, gather_some f nothing first last i, gather_some f nothing first (last - 1) (omega arith), e, run_last n first, g))
      (λ l. omega (arith, gather_some f nothing first last i, run_end f nothing first last (omega arith), gather_none f nothing first (last - 1) (omega arith)))
      (lt_or_le first last)
