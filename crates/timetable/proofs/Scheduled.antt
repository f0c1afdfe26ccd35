-- The recurrence's schedule runs (document 02, M-105): it keeps the rules of the machine, and nothing in it starts later than it must.
-- Assumes nothing.
use Prim.Native.Nat.{ℕ, zero, suc, ◌+◌, ◌-◌, ◌≤◌, ◌<◌}
use native.Mathlib.Nat.{not-suc-le-zero}
use native.Mathlib.Numerals.{add-one}
use native.Mathlib.Omega.{arith}
use mathlib.Core.Path.{◌≡◌, refl, sym, ◌∙◌}
use mathlib.Core.List.{List}
use mathlib.Core.Logic.{◌⊎◌, inl, inr, ⊎_elim}
use lib.ListN.{get_or, length, get_or-eq_default}
use borrow.Author.Tests.{lt-leb, lt-ltb, le-ltb}
use Rattle.records.proofs.Cases.{lt_or_le}
use Rattle.timetable.specs.Machine.{Schedule, through, free, Keeps, Prompt, Runs}
use Rattle.timetable.specs.Stages.{Stage, stage_at}
use Rattle.timetable.specs.Timetable.{through_at, throughs, starts, schedule_of}
use Rattle.std.specs.Prelude.{max}
use Rattle.timetable.proofs.Rows.{zeros, throughs_length, pass_first, pass_next}

-- ---- when a module is through and free

module _ (ss : List Stage) (t : Schedule) (i : ℕ) where
  pub through_sent : (n : ℕ) → i + 1 < length ss → through ss t i n ≡ t.sent i n
  through_sent n h = simp (lt-ltb (i + 1) (length ss) h)

  pub through_executed : (n : ℕ) → length ss ≤ i + 1 → through ss t i n ≡ t.executed i n
  through_executed n h = simp (le-ltb (i + 1) (length ss) h)

  free_first : free ss t i 1 ≡ 0
  free_first = refl

  pub free_later : (n : ℕ) → free ss t i (suc (suc n)) ≡ through ss t i (suc n)
  free_later n =
      let e : suc (suc n) - 1 ≡ suc n = omega arith in
      rw e (simp (lt-leb (suc (suc n)) 1 (omega arith)))

-- ---- the recurrence's schedule

-- a module sends when it and the next are free, and is then through
pub row_step : (ss : List Stage) (i n : ℕ) → i < length ss → get_or (throughs ss (suc n)) i 0 ≡ max (starts ss i (suc n) + (stage_at ss i).body) (get_or (throughs ss n) (i + 1) 0) + (stage_at ss i).send
unfolding throughs through_at
row_step ss zero n h = pass_first (get_or (throughs ss n) 0 0) ss (throughs ss n) h
row_step ss (suc i) n h =
    rw (add-one (suc i)) (pass_next (get_or (throughs ss n) 0 0) ss (throughs ss n) i h)

none_after : (ss : List Stage) (i n : ℕ) → length ss ≤ i → get_or (throughs ss n) i 0 ≡ 0
none_after ss i n h = get_or-eq_default (throughs ss n) 0 (rw (throughs_length ss n) h)

module _ (ss : List Stage) (still : (i : ℕ) → i + 1 ≡ length ss → (stage_at ss i).send ≡ 0) where
  -- the last module is through when it has executed
  pub row_last : (i n : ℕ) → i + 1 ≡ length ss → get_or (throughs ss (suc n)) i 0 ≡ starts ss i (suc n) + (stage_at ss i).body
  row_last i n e =
      omega (
        arith,
        row_step ss i n (omega arith),
        still i e,
        none_after ss (i + 1) n (omega arith),
      )

  pub row_through : (i n : ℕ) → i < length ss → through ss (schedule_of ss) i (suc n) ≡ get_or (throughs ss (suc n)) i 0
  row_through i n h = ⊎_elim
      (λ l. through_sent ss (schedule_of ss) i (suc n) l)
      (λ l. through_executed ss (schedule_of ss) i (suc n) l ∙ sym (row_last i n (omega arith)))
      (lt_or_le (i + 1) (length ss))

  row_free : (i n : ℕ) → i < length ss → free ss (schedule_of ss) i (suc n) ≡ get_or (throughs ss n) i 0
  unfolding throughs
  row_free i zero h = free_first ss (schedule_of ss) i ∙ sym (zeros (length ss) i)
  row_free i (suc n) h = free_later ss (schedule_of ss) i n ∙ row_through i n h

  pub schedule_keeps : Keeps ss (schedule_of ss)
  schedule_keeps = record {
    executing = λ i n h l. refl;
    sending = λ i n h l. sending i n h l;
    takes = λ n h l. takes n h l;
    receives = λ i n h l. rw (add-one i) (omega arith);
    sender = λ i n h l. omega arith;
    receiver = λ i n h l. receiver i n h l;
  }
    where
      sending : (i n : ℕ) → i + 1 < length ss → 1 ≤ n → (schedule_of ss).sent i n ≡ (schedule_of ss).sends i n + (stage_at ss i).send
      sending i zero h l = absurd (not-suc-le-zero l)
      sending i (suc n) h l = row_step ss i n (omega arith)

      takes : (n : ℕ) → 0 < length ss → 1 ≤ n → free ss (schedule_of ss) 0 n ≤ (schedule_of ss).executes 0 n
      takes zero h l = absurd (not-suc-le-zero l)
      takes (suc n) h l = omega (arith, row_free 0 n h)

      receiver : (i n : ℕ) → i + 1 < length ss → 1 ≤ n → free ss (schedule_of ss) (i + 1) n ≤ (schedule_of ss).sends i n
      receiver i zero h l = absurd (not-suc-le-zero l)
      receiver i (suc n) h l = omega (arith, row_free (i + 1) n h)

  schedule_prompt : Prompt ss (schedule_of ss)
  schedule_prompt = record {
    takes = λ n h l. takes n h l;
    receives = λ i n h l. rw (add-one i) (omega arith);
    starts = λ i n h l. begins i n h l;
  }
    where
      takes : (n : ℕ) → 0 < length ss → 1 ≤ n → (schedule_of ss).executes 0 n ≤ free ss (schedule_of ss) 0 n
      takes zero h l = absurd (not-suc-le-zero l)
      takes (suc n) h l = omega (arith, row_free 0 n h)

      begins : (i n : ℕ) → i + 1 < length ss → 1 ≤ n → ((schedule_of ss).sends i n ≤ (schedule_of ss).executed i n) ⊎ ((schedule_of ss).sends i n ≤ free ss (schedule_of ss) (i + 1) n)
      begins i zero h l = absurd (not-suc-le-zero l)
      begins i (suc n) h l = ⊎_elim
          (λ e. inr (omega (arith, row_free (i + 1) n h)))
          (λ e. inl (omega arith))
          (lt_or_le (starts ss i (suc n) + (stage_at ss i).body) (get_or (throughs ss n) (i + 1) 0))

  pub schedule_runs : Runs ss (schedule_of ss)
  schedule_runs = record { keeps = schedule_keeps; prompt = schedule_prompt }
