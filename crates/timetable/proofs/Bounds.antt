-- n blocks take a single block's time and a bottleneck for each other block (document 02, M-105), neither less nor more. By induction over blocks: each
-- module takes its response for each block, from when it would have the first one alone; and at most so many bottlenecks more. Assumes nothing.
use Prim.Native.Nat.{ℕ, zero, suc, ◌+◌, ◌*◌, ◌-◌, ◌≤◌}
use native.Mathlib.Nat.{le_refl, suc-mul}
use native.Mathlib.Omega.{arith}
use mathlib.Core.Path.{◌≡◌, refl, ap, ◌∙◌}
use mathlib.Core.Bool.{true}
use mathlib.Core.List.Memᴰ
use mathlib.Core.List.{List, [], ◌∷◌, Memᴰ}
use mathlib.Core.Logic.{⊎_elim}
use lib.ListN.{get_or, drop, replicate, length}
use lib.Seq.{get_or-drop}
use borrow.Author.Tests.{leb-true}
use Rattle.modules.specs.declared.Module.{Module}
use Rattle.modules.specs.Model.{Chain, body, transfer}
use Rattle.modules.proofs.Amounts.{no_sender}
use Rattle.modules.proofs.Laws.{passage_parts, response_passage, handed_none}
use Rattle.figures.specs.declared.Slowest.{Slowest}
use Rattle.figures.specs.Model.{head_cores, response_of, block_time}
use Rattle.figures.specs.Rules.{covers}
use Rattle.figures.specs.Claims.{loads}
use Rattle.figures.proofs.Covering.{covers_head}
use Rattle.judge.specs.Claims.{AllPass}
use Rattle.timetable.specs.Stages.{Stage, stage_of, stages}
use Rattle.timetable.specs.Timetable.{through_at, pass, throughs, last_of, end_of, single_test}
use Rattle.timetable.proofs.Through.{through_both, through_least}
use Rattle.timetable.proofs.Rows.{zeros}

-- the time of a block that waits nowhere
unfoldable alone : List Stage → ℕ
alone [] = 0
alone (s ∷ ss) = s.body + s.send + alone ss

-- ---- no sooner

-- the last module is through after the others have passed the block on without waiting
last_after : (ready : ℕ) (ss : List Stage) (ts : List ℕ) → ready + alone ss ≤ last_of ready (pass ready ss ts)
unfolding pass last_of alone
last_after ready [] ts = omega arith
last_after ready (s ∷ ss) ts =
    let out = through_at s ready (get_or ts 1 0) in
    omega (arith, through_both s ready (get_or ts 1 0), last_after out ss (drop 1 ts))

-- each module is through with block n + 1 when n of its responses have passed after a block that starts at `start` and waits nowhere, or later;
-- `before` is what the first of them receives
unfoldable Above : (n start before : ℕ) → List Stage → List ℕ → Type 0
Above n start before [] ts = Unit {0}
Above n start before (s ∷ ss) ts = (start + (s.body + s.send) + n * (before + s.body + s.send) ≤ get_or ts 0 0) × Above n (start + (s.body + s.send)) s.send ss (drop 1 ts)

above_first : (start before ready : ℕ) (ss : List Stage) (ts : List ℕ) → start ≤ ready → Above 0 start before ss (pass ready ss ts)
unfolding Above pass
above_first start before ready [] ts h = tt
above_first start before ready (s ∷ ss) ts h =
    let out = through_at s ready (get_or ts 1 0) in
    let e : start + (s.body + s.send) ≤ out = omega (arith, through_both s ready (get_or ts 1 0)) in
    (omega arith, above_first (start + (s.body + s.send)) s.send out ss (drop 1 ts) e)

-- one block more takes each module one response more: it receives after it was through, and sends after it has executed
above_pass : (n start before ready : ℕ) (ss : List Stage) (ts : List ℕ) → Above n start before ss ts → get_or ts 0 0 + before ≤ ready → Above (suc n) start before ss (pass ready ss ts)
unfolding Above pass
above_pass n start before ready [] ts a h = tt
above_pass n start before ready (s ∷ ss) ts a h =
    let out = through_at s ready (get_or ts 1 0) in
    let g = through_both s ready (get_or ts 1 0) in
    (omega (arith, g.0, a.0, suc-mul n (before + s.body + s.send)), above_pass n (start + (s.body + s.send)) s.send out ss (drop 1 ts) a.1 (rw (get_or-drop 1 ts 0 0) g.1))

above_throughs : (ss : List Stage) (n : ℕ) → Above n 0 0 ss (throughs ss (suc n))
unfolding throughs
above_throughs ss zero = above_first 0 0 (get_or (throughs ss 0) 0 0) ss (throughs ss 0) (omega arith)
above_throughs ss (suc n) = above_pass n 0 0 (get_or (throughs ss (suc n)) 0 0) ss (throughs ss (suc n)) (above_throughs ss n) (omega arith)

-- ---- no later

-- no response is above b
unfoldable Within : (b before : ℕ) → List Stage → Type 0
Within b before [] = Unit {0}
Within b before (s ∷ ss) = (before + s.body + s.send ≤ b) × Within b s.send ss

-- each module is through no later than a block that starts at `start` and waits nowhere
unfoldable Below : (start : ℕ) → List Stage → List ℕ → Type 0
Below start [] ts = get_or ts 0 0 ≤ 0
Below start (s ∷ ss) ts = (get_or ts 0 0 ≤ start + (s.body + s.send)) × Below (start + (s.body + s.send)) ss (drop 1 ts)

-- the next module is free by the time that such a block has to be sent to it
unfoldable Room : (start : ℕ) → List Stage → List ℕ → Type 0
Room start [] ts = Unit {0}
Room start (s ∷ ss) ts = (get_or ts 1 0 ≤ start + s.body) × Room (start + (s.body + s.send)) ss (drop 1 ts)

below_pass : (start ready : ℕ) (ss : List Stage) (ts : List ℕ) → Room start ss ts → ready ≤ start → Below start ss (pass ready ss ts)
unfolding Below Room pass
below_pass start ready [] ts a h = le_refl 0
below_pass start ready (s ∷ ss) ts a h =
    let out = through_at s ready (get_or ts 1 0) in
    let g = through_least s ready (get_or ts 1 0) (start + s.body) (omega arith) a.0 in
    let e : out ≤ start + (s.body + s.send) = omega arith in
    (e, below_pass (start + (s.body + s.send)) out ss (drop 1 ts) a.1 e)

-- nothing stands in the way of the first block
room_none : (start : ℕ) (ss : List Stage) (ts : List ℕ) → ((i : ℕ) → get_or ts i 0 ≡ 0) → Room start ss ts
unfolding Room
room_none start [] ts z = tt
room_none start (s ∷ ss) ts z = (omega (arith, z 1), room_none (start + (s.body + s.send)) ss (drop 1 ts) (λ i. get_or-drop 1 ts i 0 ∙ z (1 + i)))

-- a bottleneck later the next module is free again
room_next : (b start later before : ℕ) (ss : List Stage) (ts : List ℕ) → Within b before ss → start + b ≤ later → Below start ss ts → Room later ss ts
unfolding Below Room Within
room_next b start later before [] ts h g a = tt
room_next b start later before (s ∷ []) ts h g a = (omega (arith, rw (get_or-drop 1 ts 0 0) at a.1), tt)
room_next b start later before (s ∷ (s' ∷ ss)) ts h g a =
    let d = rw (get_or-drop 1 ts 0 0) at a.1.0 in
    (omega (arith, h.1.0), room_next b (start + (s.body + s.send)) (later + (s.body + s.send)) s.send (s' ∷ ss) (drop 1 ts) h.1 (omega arith) a.1)

-- and the first module has the next block
first_next : (b start before : ℕ) (ss : List Stage) (ts : List ℕ) → Within b before ss → Below start ss ts → get_or ts 0 0 ≤ start + b
unfolding Below Within
first_next b start before [] ts h a = omega arith
first_next b start before (s ∷ ss) ts h a = omega (arith, a.0, h.0)

below_throughs : (b : ℕ) (ss : List Stage) → Within b 0 ss → (n : ℕ) → Below (n * b) ss (throughs ss (suc n))
unfolding throughs
below_throughs b ss h zero = below_pass (0 * b) (get_or (throughs ss 0) 0 0) ss (replicate (length ss) 0) (room_none (0 * b) ss (replicate (length ss) 0) (zeros (length ss))) (rw (zeros (length ss) 0) (omega arith))
below_throughs b ss h (suc n) =
    let ts = throughs ss (suc n) in
    let a = below_throughs b ss h n in
    let e : n * b + b ≤ suc n * b = omega (arith, suc-mul n b) in
    below_pass (suc n * b) (get_or ts 0 0) ss ts (room_next b (n * b) (suc n * b) 0 ss ts h e a) (omega (arith, first_next b (n * b) 0 ss ts h a))

last_below : (start from : ℕ) (ss : List Stage) (ready : ℕ) (ts : List ℕ) → from ≤ start → Below start ss (pass ready ss ts) → last_of from (pass ready ss ts) ≤ start + alone ss
unfolding Below pass last_of alone
last_below start from [] ready ts h a = omega arith
last_below start from (s ∷ ss) ready ts h a =
    let out = through_at s ready (get_or ts 1 0) in
    omega (arith, last_below (start + (s.body + s.send)) out ss out (drop 1 ts) a.0 a.1)

end_most : (b : ℕ) (ss : List Stage) → Within b 0 ss → (n : ℕ) → end_of ss (suc n) ≤ n * b + alone ss
unfolding end_of throughs
end_most b ss h n = last_below (n * b) 0 ss (get_or (throughs ss n) 0 0) (throughs ss n) (omega arith) (below_throughs b ss h n)

-- ---- the responses and the time of a plan without copies

-- the first module has one copy, and so have the others
pub single_first : (m : Module) (ms : List Module) → AllPass single_test (m ∷ ms) → m.copies ≤ 1
single_first m ms all = leb-true m.copies 1 (all.passes 0 (omega arith))

pub single_rest : (m : Module) (ms : List Module) → AllPass single_test (m ∷ ms) → AllPass single_test ms
single_rest m ms all = record { passes = λ j h. all.passes (suc j) (omega arith) }

module _ (c : Chain) (k : ℕ) where
  -- nothing is handed out (M-106): a response is what is received, the body and what is sent
  response_stage : (s t : ℕ) (m : Module) (ms : List Module) → m.first ≡ t → m.copies ≤ 1
      → response_of c s m ms ≡ transfer c (t - 1) s m.cores + body c m.first m.last m.cores + transfer c m.last m.cores (head_cores ms)
  response_stage s t m ms e one =
      rw (← e)
      (omega (
        arith,
        response_passage c m.first m.last m.copies m.cores (head_cores ms) s,
        passage_parts c m.first m.last m.copies m.cores (head_cores ms),
        handed_none c m.copies one,
      ))

  -- what the next module receives is what this one sends
  send_received : (m : Module) (ms : List Module) → transfer c (m.last + 1 - 1) m.cores (head_cores ms) ≡ transfer c m.last m.cores (head_cores ms)
  send_received m ms = ap (λ (i : ℕ). transfer c i m.cores (head_cores ms)) (omega arith)

  within_loads : (b s t n : ℕ) (ms : List Module) → covers k t ms ≡ true → AllPass single_test ms → ((x : Slowest) → Memᴰ x (loads c s n ms) → x.response ≤ b)
      → Within b (transfer c (t - 1) s (head_cores ms)) (stages c ms)
  unfolding Within stages loads
  within_loads b s t n [] e all h = tt
  within_loads b s t n (m ∷ ms) e all h =
      let z = covers_head k t m ms e in
      let r = response_stage s t m ms z.0 (single_first m ms all) in (
        omega (arith, r, h _ (Memᴰ.head refl)),
        rw (send_received m ms) at (within_loads b m.cores (m.last + 1) (n + 1) ms z.5 (single_rest m ms all) (λ x i. h x (Memᴰ.tail i))),
      )

  load_ends : (j start s t n ready from : ℕ) (ms : List Module) (ts : List ℕ) → covers k t ms ≡ true → AllPass single_test ms → (x : Slowest) → Memᴰ x (loads c s n ms)
      → Above j start (transfer c (t - 1) s (head_cores ms)) (stages c ms) (pass ready (stages c ms) ts)
      → start + j * x.response + alone (stages c ms) ≤ last_of from (pass ready (stages c ms) ts)
  unfolding Above alone stages loads pass last_of
  load_ends j start s t n ready from [] ts e all x i a = absurd (Memᴰ.not-nil i)
  load_ends j start s t n ready from (m ∷ ms) ts e all x i a =
      let z = covers_head k t m ms e in
      let out = through_at (stage_of c m ms) ready (get_or ts 1 0) in
      ⊎_elim
      (λ d.
      let q = ap (λ (v : ℕ). j * v) (ap (λ (y : Slowest). y.response) d ∙ response_stage s t m ms z.0 (single_first m ms all)) in
      omega (arith, q, a.0, last_after out (stages c ms) (drop 1 ts)))
      (λ l.
      omega (arith, load_ends j (start + ((stage_of c m ms).body + (stage_of c m ms).send)) m.cores (m.last + 1) (n + 1) out out ms (drop 1 ts) z.5 (single_rest m ms all) x l (rw (send_received m ms) a.1)))
      (Memᴰ.cases_cons i)

  -- no response is above a single block's time
  load_alone : (start s t n : ℕ) (ms : List Module) → covers k t ms ≡ true → AllPass single_test ms → transfer c (t - 1) s (head_cores ms) ≤ start → (x : Slowest) → Memᴰ x (loads c s n ms)
      → x.response ≤ start + alone (stages c ms)
  unfolding alone stages loads
  load_alone start s t n [] e all h x i = absurd (Memᴰ.not-nil i)
  load_alone start s t n (m ∷ ms) e all h x i =
      let z = covers_head k t m ms e in
      ⊎_elim
      (λ d. omega (arith, ap (λ (y : Slowest). y.response) d, response_stage s t m ms z.0 (single_first m ms all)))
      (λ l.
      let up = load_alone (start + ((stage_of c m ms).body + (stage_of c m ms).send)) m.cores (m.last + 1) (n + 1) ms z.5 (single_rest m ms all) (omega (arith, send_received m ms)) x l in
      omega arith)
      (Memᴰ.cases_cons i)

  alone_time : (ms : List Module) → AllPass single_test ms → alone (stages c ms) ≡ block_time c ms
  unfolding alone stages block_time
  alone_time [] all = refl
  alone_time (m ∷ ms) all =
      omega (
        arith,
        alone_time ms (single_rest m ms all),
        passage_parts c m.first m.last m.copies m.cores (head_cores ms),
        handed_none c m.copies (single_first m ms all),
      )

  -- every response n times and a single block's time, and at most so many of the greatest and that time
  pub end_after : (n : ℕ) (ms : List Module) → covers k 1 ms ≡ true → AllPass single_test ms → (x : Slowest) → Memᴰ x (loads c 0 1 ms) → n * x.response + block_time c ms ≤ end_of (stages c ms) (suc n)
  unfolding end_of throughs
  end_after n ms e all x i =
      let ss = stages c ms in
      let a : Above n 0 (transfer c (1 - 1) 0 (head_cores ms)) ss (throughs ss (suc n)) = rw (no_sender c (1 - 1) (head_cores ms)) (above_throughs ss n) in
      omega (arith, load_ends n 0 0 1 1 (get_or (throughs ss n) 0 0) 0 ms (throughs ss n) e all x i a, alone_time ms all)

  pub end_before : (b n : ℕ) (ms : List Module) → covers k 1 ms ≡ true → AllPass single_test ms → ((x : Slowest) → Memᴰ x (loads c 0 1 ms) → x.response ≤ b)
      → end_of (stages c ms) (suc n) ≤ n * b + block_time c ms
  end_before b n ms e all h =
      omega (arith, end_most b (stages c ms) (rw (no_sender c (1 - 1) (head_cores ms)) at (within_loads b 0 1 1 ms e all h)) n, alone_time ms all)

  pub response_alone : (ms : List Module) → covers k 1 ms ≡ true → AllPass single_test ms → (x : Slowest) → Memᴰ x (loads c 0 1 ms) → x.response ≤ block_time c ms
  response_alone ms e all x i = omega (arith, load_alone 0 0 1 1 ms e all (rw (no_sender c (1 - 1) (head_cores ms)) (omega arith)) x i, alone_time ms all)
