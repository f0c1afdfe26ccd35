-- The turns of the loops: one module more makes the same row of times, one block more the next row, and no time outgrows 64 bits. Assumes
-- nothing.
use Prim.Native.Nat.{ℕ, zero, suc, ◌+◌, ◌*◌, ◌-◌, ◌≤◌, ◌<◌}
use native.Mathlib.Nat.{suc-mul, mul-le-mul}
use native.Mathlib.Numerals.{add-one}
use native.Mathlib.Omega.{arith}
use mathlib.Core.Path.{◌≡◌, refl, sym, ap, ◌∙◌}
use mathlib.Core.List.{List, [], ◌∷◌, ◌++◌, append-nil}
use lib.ListN.{get_or, take, drop, set, length, replicate, take-append-drop, replicate-append-replicate}
use lib.Seq.{take-suc-set, drop-set-lt, drop-drop, drop-cons, drop_at, append_snoc, get_or-drop, set_at}
use Rattle.layout.specs.Layout.{most_modules}
use Rattle.timetable.specs.Loops.{stages_in, AtMost, most_body, most_send, most_block, most_time}
use Rattle.timetable.specs.Stages.{Stage}
use Rattle.timetable.specs.Timetable.{through_at, pass, throughs, last_of, end_of, ends, most_blocks}
use Rattle.std.specs.Prelude.{max}
use Rattle.std.proofs.lemmas.List.{drop_all}
use Rattle.timetable.proofs.Through.{through_least}
use Rattle.timetable.proofs.Rows.{zeros, throughs_length}

pub stages_length : (b x : List ℕ) (i n : ℕ) → length (stages_in b x i n) ≡ n
unfolding stages_in
stages_length b x i zero = refl
stages_length b x i (suc n) = ap suc (stages_length b x (i + 1) n)

-- ---- one module more

module _ (b x times : List ℕ) (m i ready out : ℕ) (h : i < m) (l : i < length times) (e : out ≡ max (ready + get_or b i 0) (get_or times (i + 1) 0) + get_or x i 0) where
  -- what is passed and what is left make the same row
  pub row_turn : take (i + 1) (set times i out) ++ pass out (stages_in b x (i + 1) (m - (i + 1))) (drop (i + 1) (set times i out)) ≡ take i times ++ pass ready (stages_in b x i (m - i)) (drop i times)
  unfolding stages_in pass through_at
  row_turn =
      let d : m - i ≡ suc (m - (i + 1)) = omega arith in
      rw (d, drop-drop 1 i times, get_or-drop i times 1 0, ← e, drop-set-lt (i + 1) times i out (omega arith), ap (λ (j : ℕ). take j (set times i out)) (add-one i), take-suc-set times i out l)
      (append_snoc (take i times) out _)

  -- and have the same last time
  pub last_turn : last_of out (pass out (stages_in b x (i + 1) (m - (i + 1))) (drop (i + 1) (set times i out))) ≡ last_of ready (pass ready (stages_in b x i (m - i)) (drop i times))
  unfolding stages_in pass through_at last_of
  last_turn =
      let d : m - i ≡ suc (m - (i + 1)) = omega arith in
      rw (d, drop-drop 1 i times, get_or-drop i times 1 0, ← e, drop-set-lt (i + 1) times i out (omega arith))

module _ (b x times : List ℕ) (m i ready : ℕ) (e : i ≡ m) where
  pub row_done : {whole rest : List ℕ} → take i times ++ pass ready (stages_in b x i (m - i)) (drop i times) ≡ whole → drop i times ≡ rest → times ≡ whole ++ rest
  unfolding stages_in pass
  row_done p q =
      let z : m - i ≡ 0 = omega arith in
      let p' = sym (append-nil (take i times)) ∙ rw z at p in
      sym (take-append-drop i times) ∙ rw (p', q)

  pub last_done : {last : ℕ} → last_of ready (pass ready (stages_in b x i (m - i)) (drop i times)) ≡ last → ready ≡ last
  unfolding stages_in pass last_of
  last_done p = let z : m - i ≡ 0 = omega arith in rw z at p

-- what is not yet passed is as it was
pub ahead : (times before : List ℕ) (i j : ℕ) → drop i times ≡ drop i before → get_or times (i + j) 0 ≡ get_or before (i + j) 0
ahead times before i j e = sym (get_or-drop i times j 0) ∙ ap (λ (l : List ℕ). get_or l j 0) e ∙ get_or-drop i before j 0

pub ahead_set : (times before : List ℕ) (i out : ℕ) → drop i times ≡ drop i before → drop (i + 1) (set times i out) ≡ drop (i + 1) before
ahead_set times before i out e = drop-set-lt (i + 1) times i out (omega arith) ∙ sym (drop-drop 1 i times) ∙ ap (λ (l : List ℕ). drop 1 l) e ∙ drop-drop 1 i before

-- ---- one block more

-- a row depends on the times that it reads
pass_same : (ready : ℕ) (ss : List Stage) (ts us : List ℕ) → ((i : ℕ) → get_or ts i 0 ≡ get_or us i 0) → pass ready ss ts ≡ pass ready ss us
unfolding pass
pass_same ready [] ts us h = refl
pass_same ready (s ∷ ss) ts us h =
    rw (h 1)
    (ap (λ (l : List ℕ). through_at s ready (get_or us 1 0) ∷ l)
    (pass_same (through_at s ready (get_or us 1 0)) ss (drop 1 ts) (drop 1 us) (λ i. get_or-drop 1 ts i 0 ∙ h (1 + i) ∙ sym (get_or-drop 1 us i 0))))

-- zeros after a row are as no module
padded : (ts : List ℕ) (k i : ℕ) → get_or (ts ++ replicate k 0) i 0 ≡ get_or ts i 0
padded [] k i = zeros k i
padded (t ∷ ts) k zero = refl
padded (t ∷ ts) k (suc i) = padded ts k i

-- the last time does not depend on where there is none, once there is a module
last_from : (ss : List Stage) (n : ℕ) → last_of (get_or (throughs ss n) 0 0) (throughs ss (suc n)) ≡ last_of 0 (throughs ss (suc n))
unfolding throughs pass last_of
last_from [] zero = refl
last_from [] (suc n) = refl
last_from (s ∷ ss) n = refl

-- the times that the loop keeps: those of n blocks, and zeros after them
abbrev pub Kept : List Stage → (n k : ℕ) → List ℕ → Type 0
Kept ss n k times = times ≡ throughs ss n ++ replicate k 0

module _ (ss : List Stage) (n k : ℕ) {times : List ℕ} (kept : Kept ss n k times) where
  same_at : (i : ℕ) → get_or times i 0 ≡ get_or (throughs ss n) i 0
  same_at i = rw kept (padded (throughs ss n) k i)

  same_row : pass (get_or times 0 0) ss times ≡ throughs ss (suc n)
  unfolding throughs
  same_row = rw (same_at 0) (pass_same (get_or (throughs ss n) 0 0) ss times (throughs ss n) same_at)

  pub kept_next : {next : List ℕ} → next ≡ pass (get_or times 0 0) ss times ++ drop (length ss) times → Kept ss (n + 1) k next
  kept_next d =
      let q : drop (length ss) times ≡ replicate k 0 = rw kept (drop_at (throughs ss n) (replicate k 0) (length ss) (throughs_length ss n)) in
      d ∙ rw (add-one n, q, same_row)

  pub kept_end : {end : ℕ} → end ≡ last_of (get_or times 0 0) (pass (get_or times 0 0) ss times) → end ≡ end_of ss (n + 1)
  unfolding end_of
  kept_end e = e ∙ rw (same_row, same_at 0, add-one n) (last_from ss n)

pub kept_start : (ss : List Stage) (k all : ℕ) → length ss + k ≡ all → Kept ss 0 k (replicate all 0)
unfolding throughs
kept_start ss k all e = rw (← e) (sym (replicate-append-replicate {A = ℕ} (length ss) k 0))

-- ---- the table

pub ends_length : (ss : List Stage) (b n : ℕ) → length (ends ss b n) ≡ n
unfolding ends
ends_length ss b zero = refl
ends_length ss b (suc n) = ap suc (ends_length ss (b + 1) n)

ends_more : (ss : List Stage) (b n : ℕ) → ends ss b (suc n) ≡ ends ss b n ++ (end_of ss (b + n) ∷ [])
unfolding ends
ends_more ss b zero = let e : b + 0 ≡ b = omega arith in rw e
ends_more ss b (suc n) =
    let e : b + suc n ≡ b + 1 + n = omega arith in
    rw e (ap (λ (l : List ℕ). end_of ss b ∷ l) (ends_more ss (b + 1) n))

-- one end more in the table
pub table_turn : (ss : List Stage) (lent table : List ℕ) (n v : ℕ) → n < length lent → table ≡ ends ss 1 n ++ drop n lent → v ≡ end_of ss (n + 1) → set table n v ≡ ends ss 1 (n + 1) ++ drop (n + 1) lent
table_turn ss lent table n v h e d =
    let c : 1 + n ≡ n + 1 = omega arith in
    rw (e, drop-cons lent n 0 h, add-one n, ends_more ss 1 n, c, ← d)
    (set_at (ends ss 1 n) (get_or lent n 0) (drop (suc n) lent) v n (ends_length ss 1 n) ∙ sym (append_snoc (ends ss 1 n) v (drop (suc n) lent)))

-- the whole of it
pub table_done : (ss : List Stage) (lent table : List ℕ) (n i : ℕ) → n ≡ i → length lent ≤ i → table ≡ ends ss 1 i ++ drop i lent → table ≡ ends ss 1 n
table_done ss lent table n i d h e = e ∙ rw (d, drop_all i lent h) (append-nil (ends ss 1 i))

-- ---- no time outgrows 64 bits

-- a module executes and sends for at most a step after both are free
pub later_most : (low i ready body free v : ℕ) → ready ≤ low + i * (most_body + most_send) → body ≤ most_body → free ≡ v → v ≤ low
    → max (ready + body) free ≤ low + i * (most_body + most_send) + most_body
later_most low i ready body free v h g e f = omega arith

module _ (b x : List ℕ) (sb : AtMost most_body b) (sx : AtMost most_send x) where
  -- a row is at most a step later for each module
  pass_most : (low ready i k : ℕ) (ts : List ℕ) → AtMost low ts → ready ≤ low → AtMost (low + k * (most_body + most_send)) (pass ready (stages_in b x i k) ts)
  unfolding pass stages_in
  pass_most low ready i zero ts st h j = omega arith
  pass_most low ready i (suc k) ts st h zero =
      omega (
        arith,
        suc-mul k (most_body + most_send),
        sb i,
        sx i,
        through_least (record { body = get_or b i 0; send = get_or x i 0 }) ready (get_or ts 1 0) (low + most_body) (omega (arith, sb i)) (omega (arith, st 1)),
      )
  pass_most low ready i (suc k) ts st h (suc j) =
      let s : Stage = record { body = get_or b i 0; send = get_or x i 0 } in
      let g = through_least s ready (get_or ts 1 0) (low + most_body) (omega (arith, sb i)) (omega (arith, st 1)) in
      omega (
        arith,
        suc-mul k (most_body + most_send),
        pass_most (low + (most_body + most_send)) (through_at s ready (get_or ts 1 0)) (i + 1) k (drop 1 ts) (λ i. rw (get_or-drop 1 ts i 0) (omega (arith, st (1 + i)))) (omega (arith, g, sx i)) j,
      )

  throughs_most : (m n : ℕ) → AtMost (n * (m * (most_body + most_send))) (throughs (stages_in b x 0 m) n)
  unfolding throughs
  throughs_most m zero j = rw (zeros (length (stages_in b x 0 m)) j) (omega arith)
  throughs_most m (suc n) j =
      let ih = throughs_most m n in
      omega (arith, suc-mul n (m * (most_body + most_send)), pass_most (n * (m * (most_body + most_send))) (get_or (throughs (stages_in b x 0 m) n) 0 0) 0 m (throughs (stages_in b x 0 m) n) ih (ih 0) j)

  pub kept_most : (m n k : ℕ) {times : List ℕ} → m ≤ most_modules → n ≤ most_blocks → Kept (stages_in b x 0 m) n k times → AtMost most_time times
  kept_most m n k {times} h g e j =
      let p : get_or times j 0 ≡ get_or (throughs (stages_in b x 0 m) n) j 0 = rw e (padded (throughs (stages_in b x 0 m) n) k j) in
      let q : m * (most_body + most_send) ≤ most_block = omega arith in
      omega (arith, p, throughs_most m n j, mul-le-mul g q)
