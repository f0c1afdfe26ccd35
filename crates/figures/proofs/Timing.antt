-- The single-block time (document 02, M-104 and M-106): task by task it adds each execution and each transfer once, and D for each module that
-- has copies, so it is at most 2k - 1 values and D for each of these; and the modules' responses add up to it and each external transfer once more. By
-- induction along the plan. Assumes nothing.
use mathlib.Core.Path.{◌≡◌, refl, ap, ◌∙◌}
use mathlib.Core.Bool.{Bool, true, false, cond}
use mathlib.Core.List.{List, [], ◌∷◌}
use mathlib.Core.Logic.{⊎_elim}
use Prim.Native.Nat.{ℕ, suc, ◌+◌, ◌-◌, ◌*◌, ◌≤◌, ◌<◌}
use native.Mathlib.Nat.{suc-mul}
use native.Mathlib.Omega.{arith}
use lib.ListN.{length}
use borrow.Author.Tests.{le-leb, lt-leb, lt-ltb, le-ltb, eq-eqb, ne_eqb}
use Rattle.records.proofs.Cases.{lt_or_le}
use Rattle.modules.specs.declared.Module.{Module}
use Rattle.modules.specs.Model.{Chain, gather, body, transfer, handed}
use Rattle.modules.proofs.Sums.{gather_none, gather_split, gather_same}
use Rattle.modules.proofs.Amounts.{CostsMost, gather_most, no_sender, no_receiver}
use Rattle.modules.proofs.Laws.{passage_parts, response_passage, handed_some, handed_none}
use Rattle.figures.specs.Model.{responses, block_time}
use Rattle.figures.specs.Rules.{covers}
use Rattle.figures.specs.Claims.{cores_at, ends_at, execution_in, transfer_in, copied_of, sum, externals}
use Rattle.figures.proofs.Covering.{covers_head, covers_end}

-- ---- where a task is

module _ (m : Module) (ms : List Module) (t : ℕ) where
  cores_here : t ≤ m.last → cores_at (m ∷ ms) t ≡ m.cores
  unfolding cores_at
  cores_here h = simp (le-leb t m.last h)

  cores_later : m.last < t → cores_at (m ∷ ms) t ≡ cores_at ms t
  unfolding cores_at
  cores_later h = simp (lt-leb t m.last h)

  ends_here : t ≡ m.last → ends_at (m ∷ ms) t ≡ true
  unfolding ends_at
  ends_here e = let h : t ≤ m.last = omega arith in simp (le-leb t m.last h, eq-eqb t m.last e)

  goes_on : t < m.last → ends_at (m ∷ ms) t ≡ false
  unfolding ends_at
  goes_on h = let g : t ≤ m.last = omega arith in simp (le-leb t m.last g, ne_eqb t m.last (λ e. omega arith))

  ends_later : m.last < t → ends_at (m ∷ ms) t ≡ ends_at ms t
  unfolding ends_at
  ends_later h = simp (lt-leb t m.last h)

-- ---- task by task

module _ (c : Chain) where
  -- the body of the first module
  body_in : (m : Module) (ms : List Module) (t : ℕ) → gather (execution_in c (m ∷ ms)) (transfer_in c (m ∷ ms)) t m.last ≡ body c t m.last m.cores
  unfolding body
  body_in m ms t =
      gather_same (execution_in c (m ∷ ms)) (transfer_in c (m ∷ ms)) (λ i. c.execution i m.cores) (λ i. c.internal i m.cores) t m.last
      (λ i u v. ap (c.execution i) (cores_here m ms i v))
      (λ i u v. let w : i ≤ m.last = omega arith in rw (transfer_in, goes_on m ms i v) (ap (c.internal i) (cores_here m ms i w)))

  -- what it sends to the module after it
  sent_in : (m x : Module) (ms : List Module) → 1 ≤ m.cores → 1 ≤ x.cores → m.last + 1 ≤ x.last
      → transfer_in c (m ∷ (x ∷ ms)) m.last ≡ transfer c m.last m.cores x.cores
  unfolding transfer
  sent_in m x ms a b h =
      let l = cores_later m (x ∷ ms) (m.last + 1) (omega arith) ∙ cores_here x ms (m.last + 1) h in
      rw (ends_here m (x ∷ ms) m.last refl, cores_here m (x ∷ ms) m.last (omega arith), l)
      (simp (ne_eqb m.cores 0 (λ e. omega arith), ne_eqb x.cores 0 (λ e. omega arith)))

  -- and the rest
  rest_in : (m : Module) (ms : List Module) (k : ℕ)
      → gather (execution_in c (m ∷ ms)) (transfer_in c (m ∷ ms)) (m.last + 1) k ≡ gather (execution_in c ms) (transfer_in c ms) (m.last + 1) k
  rest_in m ms k =
      gather_same (execution_in c (m ∷ ms)) (transfer_in c (m ∷ ms)) (execution_in c ms) (transfer_in c ms) (m.last + 1) k
      (λ i u v. let w : m.last < i = omega arith in ap (c.execution i) (cores_later m ms i w))
      (λ i u v.
      let w : m.last < i = omega arith in
      let x : m.last < i + 1 = omega arith in
      rw (transfer_in, ends_later m ms i w, cores_later m ms i w, cores_later m ms (i + 1) x))

  -- what handing out to the first module's copies costs
  copied_in : (m : Module) (ms : List Module) → copied_of (m ∷ ms) * c.hand_out ≡ handed c m.copies + copied_of ms * c.hand_out
  unfolding copied_of
  copied_in m ms = ⊎_elim
      (λ h. let e : 1 + copied_of ms ≡ suc (copied_of ms) = omega arith in
      rw (lt-ltb 1 m.copies h, handed_some c m.copies h, e) (omega (arith, suc-mul (copied_of ms) c.hand_out)))
      (λ h. let e : 0 + copied_of ms ≡ copied_of ms = omega arith in rw (le-ltb 1 m.copies h, handed_none c m.copies h, e) (omega arith))
      (lt_or_le 1 m.copies)

  none_copied : copied_of [] * c.hand_out ≡ 0
  unfolding copied_of
  none_copied = omega arith

  pub time_tasks : (k t : ℕ) (ms : List Module) → covers k t ms ≡ true
      → block_time c ms ≡ gather (execution_in c ms) (transfer_in c ms) t k + copied_of ms * c.hand_out
  unfolding block_time
  time_tasks k t [] e = omega (arith, none_copied, gather_none (execution_in c []) (transfer_in c []) t k (omega (arith, covers_end k t e)))
  time_tasks k t (m ∷ []) e =
      let z = covers_head k t m [] e in
      let l : m.last ≡ k = omega (arith, covers_end k (m.last + 1) z.5) in
      let b = body_in m [] t in
      let p = passage_parts c m.first m.last m.copies m.cores 0 in
      rw (← l) (omega (arith, p, copied_in m [], none_copied, ap (λ (i : ℕ). body c i m.last m.cores) z.0, b, no_receiver c m.last m.cores))
  time_tasks k t (m ∷ (x ∷ ms)) e =
      let z = covers_head k t m (x ∷ ms) e in
      let y = covers_head k (m.last + 1) x ms z.5 in
      let later : m.last + 1 ≤ x.last = omega arith in
      omega (
        arith,
        passage_parts c m.first m.last m.copies m.cores x.cores,
        copied_in m (x ∷ ms),
        ap (λ (i : ℕ). body c i m.last m.cores) z.0,
        gather_split (execution_in c (m ∷ (x ∷ ms))) (transfer_in c (m ∷ (x ∷ ms))) t m.last k (omega arith) (omega arith),
        body_in m (x ∷ ms) t,
        sent_in m x ms z.4 y.4 later,
        rest_in m (x ∷ ms) k,
        time_tasks k (m.last + 1) (x ∷ ms) z.5,
      )

-- ---- the most that it can be

-- no more modules have copies than there are
pub copied_most : (ms : List Module) → copied_of ms ≤ length ms
unfolding copied_of length
copied_most [] = omega arith
copied_most (m ∷ ms) = ⊎_elim
    (λ h. rw (lt-ltb 1 m.copies h) (omega (arith, copied_most ms)))
    (λ h. rw (le-ltb 1 m.copies h) (omega (arith, copied_most ms)))
    (lt_or_le 1 m.copies)

pub time_most : (c : Chain) (most k : ℕ) (ms : List Module) → CostsMost c most → covers k 1 ms ≡ true → block_time c ms ≤ (2 * (k - 1) + 1) * most + copied_of ms * c.hand_out
time_most c most k ms b e =
    omega (
      arith,
      time_tasks c k 1 ms e,
      gather_most (execution_in c ms) (transfer_in c ms) most executed sent 1 k,
    )
  where
    executed : (t : ℕ) → execution_in c ms t ≤ most
    executed t = b.execution t (cores_at ms t)

    either : (x : Bool) (y z : ℕ) → y ≤ most → z ≤ most → cond x y z ≤ most
    either true y z u v = u
    either false y z u v = v

    sent : (t : ℕ) → transfer_in c ms t ≤ most
    sent t = either (ends_at ms t) _ _ (b.external t (cores_at ms t) (cores_at ms (t + 1))) (b.internal t (cores_at ms t))

-- ---- and the responses

module _ (c : Chain) (k : ℕ) where
  responses_add : (s t : ℕ) (m : Module) (ms : List Module) → covers k t (m ∷ ms) ≡ true
      → sum (responses c s (m ∷ ms)) ≡ transfer c (t - 1) s m.cores + block_time c (m ∷ ms) + externals c (m ∷ ms)
  unfolding sum responses block_time externals
  responses_add s t m [] e =
      let z = covers_head k t m [] e in
      let p = response_passage c t m.last m.copies m.cores 0 s in
      rw z.0 (omega (arith, p, no_receiver c m.last m.cores))
  responses_add s t m (x ∷ ms) e =
      let z = covers_head k t m (x ∷ ms) e in
      let r = responses_add m.cores (m.last + 1) x ms z.5 in
      let p = response_passage c t m.last m.copies m.cores x.cores s in
      let l : transfer c (m.last + 1 - 1) m.cores x.cores ≡ transfer c m.last m.cores x.cores = ap (λ (i : ℕ). transfer c i m.cores x.cores) (omega arith) in
      rw z.0 (omega arith)

  pub time_responses : (ms : List Module) → covers k 1 ms ≡ true → block_time c ms + externals c ms ≡ sum (responses c 0 ms)
  unfolding sum responses block_time externals
  time_responses [] e = refl
  time_responses (m ∷ ms) e = omega (arith, responses_add 0 1 m ms e, no_sender c 0 m.cores)
