-- The recurrence's schedule is the only one that runs (document 02, M-105): every schedule that keeps the rules is nowhere earlier, and one in which
-- nothing starts later than it must is nowhere later. By induction over blocks, then modules. Assumes nothing.
use Prim.Native.Nat.{ℕ, zero, suc, ◌+◌, ◌≤◌, ◌<◌}
use native.Mathlib.Nat.{not-suc-le-zero}
use native.Mathlib.Numerals.{add-one}
use native.Mathlib.Omega.{arith}
use mathlib.Core.Path.{◌≡◌, refl, sym, ◌∙◌}
use mathlib.Core.List.{List}
use mathlib.Core.Logic.{◌↔◌, inl, inr, ⊎_elim}
use lib.ListN.{get_or, length}
use Rattle.records.proofs.Cases.{lt_or_le}
use Rattle.timetable.specs.Machine.{Schedule, through, free, Keeps, Runs, Same, NoLater}
use Rattle.timetable.specs.Stages.{Stage, stage_at}
use Rattle.timetable.specs.Timetable.{throughs, starts, schedule_of}
use Rattle.timetable.proofs.Rows.{zeros}
use Rattle.timetable.proofs.Scheduled.{through_sent, through_executed, free_later, row_step, row_last, schedule_keeps, schedule_runs}

-- ---- no schedule that keeps the rules is anywhere earlier

module _ (ss : List Stage) (still : (i : ℕ) → i + 1 ≡ length ss → (stage_at ss i).send ≡ 0) where
  module _ {t : Schedule} (k : Keeps ss t) where
    -- of one block: the module starts no earlier, so it has neither executed nor sent the block earlier
    late_sends : (i n : ℕ) → i + 1 < length ss → starts ss i (suc n) ≤ t.executes i (suc n) → get_or (throughs ss n) (i + 1) 0 ≤ free ss t (i + 1) (suc n)
        → (schedule_of ss).sends i (suc n) ≤ t.sends i (suc n)
    late_sends i n h a f =
        omega (arith, k.executing i (suc n) (omega arith) (omega arith), k.sender i (suc n) h (omega arith), k.receiver i (suc n) h (omega arith))

    late_starts : (n : ℕ) → ((i : ℕ) → i < length ss → get_or (throughs ss n) i 0 ≤ free ss t i (suc n)) → (i : ℕ) → i < length ss → starts ss i (suc n) ≤ t.executes i (suc n)
    late_starts n f zero h = omega (arith, f 0 h, k.takes (suc n) h (omega arith))
    late_starts n f (suc i) h =
        let l : i + 1 < length ss = omega arith in
        let a = late_sends i n l (late_starts n f i (omega arith)) (f (i + 1) l) in
        omega (arith, row_step ss i n (omega arith), k.sending i (suc n) l (omega arith), rw (add-one i) at (k.receives i (suc n) l (omega arith)))

    late_free : (n i : ℕ) → i < length ss → get_or (throughs ss n) i 0 ≤ free ss t i (suc n)
    unfolding throughs
    late_free zero i h = omega (arith, zeros (length ss) i)
    late_free (suc n) i h =
        let a = late_starts n (late_free n) i h in
        ⊎_elim
        (λ l. omega (arith, free_later ss t i n, through_sent ss t i (suc n) l, row_step ss i n h, k.sending i (suc n) l (omega arith), late_sends i n l a (late_free n (i + 1) l)))
        (λ l. omega (arith, free_later ss t i n, through_executed ss t i (suc n) l, row_last ss still i n (omega arith), k.executing i (suc n) h (omega arith)))
        (lt_or_le (i + 1) (length ss))

    pub schedule_earliest : NoLater ss (schedule_of ss) t
    schedule_earliest = record {
      executes = λ i n h l. begins i n h l;
      executed = λ i n h l. omega (arith, begins i n h l, k.executing i n h l);
      sends = λ i n h l. sends i n h l;
      sent = λ i n h l. omega (arith, sends i n h l, (schedule_keeps ss still).sending i n h l, k.sending i n h l);
    }
      where
        begins : (i n : ℕ) → i < length ss → 1 ≤ n → (schedule_of ss).executes i n ≤ t.executes i n
        begins i zero h l = absurd (not-suc-le-zero l)
        begins i (suc n) h l = late_starts n (late_free n) i h

        sends : (i n : ℕ) → i + 1 < length ss → 1 ≤ n → (schedule_of ss).sends i n ≤ t.sends i n
        sends i zero h l = absurd (not-suc-le-zero l)
        sends i (suc n) h l = late_sends i n h (begins i (suc n) (omega arith) l) (late_free n (i + 1) h)

  -- ---- one in which nothing starts later than it must is nowhere later

  module _ {t : Schedule} (r : Runs ss t) where
    soon_sends : (i n : ℕ) → i + 1 < length ss → t.executes i (suc n) ≤ starts ss i (suc n) → free ss t (i + 1) (suc n) ≤ get_or (throughs ss n) (i + 1) 0
        → t.sends i (suc n) ≤ (schedule_of ss).sends i (suc n)
    soon_sends i n h a f =
        ⊎_elim
        (λ e. omega (arith, r.keeps.executing i (suc n) (omega arith) (omega arith)))
        (λ e. omega arith)
        (r.prompt.starts i (suc n) h (omega arith))

    soon_starts : (n : ℕ) → ((i : ℕ) → i < length ss → free ss t i (suc n) ≤ get_or (throughs ss n) i 0) → (i : ℕ) → i < length ss → t.executes i (suc n) ≤ starts ss i (suc n)
    soon_starts n f zero h = omega (arith, f 0 h, r.prompt.takes (suc n) h (omega arith))
    soon_starts n f (suc i) h =
        let l : i + 1 < length ss = omega arith in
        let a = soon_sends i n l (soon_starts n f i (omega arith)) (f (i + 1) l) in
        omega (arith, row_step ss i n (omega arith), r.keeps.sending i (suc n) l (omega arith), rw (add-one i) at (r.prompt.receives i (suc n) l (omega arith)))

    soon_free : (n i : ℕ) → i < length ss → free ss t i (suc n) ≤ get_or (throughs ss n) i 0
    unfolding throughs
    soon_free zero i h = omega arith
    soon_free (suc n) i h =
        let a = soon_starts n (soon_free n) i h in
        ⊎_elim
        (λ l. omega (arith, free_later ss t i n, through_sent ss t i (suc n) l, row_step ss i n h, r.keeps.sending i (suc n) l (omega arith), soon_sends i n l a (soon_free n (i + 1) l)))
        (λ l. omega (arith, free_later ss t i n, through_executed ss t i (suc n) l, row_last ss still i n (omega arith), r.keeps.executing i (suc n) h (omega arith)))
        (lt_or_le (i + 1) (length ss))

    schedule_latest : NoLater ss t (schedule_of ss)
    schedule_latest = record {
      executes = λ i n h l. begins i n h l;
      executed = λ i n h l. omega (arith, begins i n h l, r.keeps.executing i n h l);
      sends = λ i n h l. sends i n h l;
      sent = λ i n h l. omega (arith, sends i n h l, (schedule_keeps ss still).sending i n h l, r.keeps.sending i n h l);
    }
      where
        begins : (i n : ℕ) → i < length ss → 1 ≤ n → t.executes i n ≤ (schedule_of ss).executes i n
        begins i zero h l = absurd (not-suc-le-zero l)
        begins i (suc n) h l = soon_starts n (soon_free n) i h

        sends : (i n : ℕ) → i + 1 < length ss → 1 ≤ n → t.sends i n ≤ (schedule_of ss).sends i n
        sends i zero h l = absurd (not-suc-le-zero l)
        sends i (suc n) h l = soon_sends i n h (begins i (suc n) (omega arith) l) (soon_free n (i + 1) h)

    -- ---- so it is the same

    runs_same : Same ss t (schedule_of ss)
    runs_same =
        let a = schedule_earliest r.keeps in
        let b = schedule_latest in
        record {
          executes = λ i n h l. omega (arith, a.executes i n h l, b.executes i n h l);
          executed = λ i n h l. omega (arith, a.executed i n h l, b.executed i n h l);
          sends = λ i n h l. omega (arith, a.sends i n h l, b.sends i n h l);
          sent = λ i n h l. omega (arith, a.sent i n h l, b.sent i n h l);
        }

-- ---- and whatever says the same runs

module _ (ss : List Stage) {t u : Schedule} (same : Same ss t u) where
  pub through_same : (i n : ℕ) → i < length ss → 1 ≤ n → through ss t i n ≡ through ss u i n
  through_same i n h l = ⊎_elim
      (λ a. through_sent ss t i n a ∙ same.sent i n a l ∙ sym (through_sent ss u i n a))
      (λ a. through_executed ss t i n a ∙ same.executed i n h l ∙ sym (through_executed ss u i n a))
      (lt_or_le (i + 1) (length ss))

  free_same : (i n : ℕ) → i < length ss → 1 ≤ n → free ss t i n ≡ free ss u i n
  free_same i zero h l = absurd (not-suc-le-zero l)
  free_same i (suc zero) h l = refl
  free_same i (suc (suc n)) h l = free_later ss t i n ∙ through_same i (suc n) h (omega arith) ∙ sym (free_later ss u i n)

  same_runs : Runs ss u → Runs ss t
  same_runs r = record {
    keeps = record {
      executing = λ i n h l. omega (arith, same.executed i n h l, same.executes i n h l, r.keeps.executing i n h l);
      sending = λ i n h l. omega (arith, same.sent i n h l, same.sends i n h l, r.keeps.sending i n h l);
      takes = λ n h l. omega (arith, same.executes 0 n h l, free_same 0 n h l, r.keeps.takes n h l);
      receives = λ i n h l. omega (arith, same.sent i n h l, same.executes (i + 1) n h l, r.keeps.receives i n h l);
      sender = λ i n h l. omega (arith, same.executed i n (omega arith) l, same.sends i n h l, r.keeps.sender i n h l);
      receiver = λ i n h l. omega (arith, free_same (i + 1) n h l, same.sends i n h l, r.keeps.receiver i n h l);
    };
    prompt = record {
      takes = λ n h l. omega (arith, same.executes 0 n h l, free_same 0 n h l, r.prompt.takes n h l);
      receives = λ i n h l. omega (arith, same.sent i n h l, same.executes (i + 1) n h l, r.prompt.receives i n h l);
      starts = λ i n h l. ⊎_elim
          (λ e. inl (omega (arith, same.executed i n (omega arith) l, same.sends i n h l)))
          (λ e. inr (omega (arith, free_same (i + 1) n h l, same.sends i n h l)))
          (r.prompt.starts i n h l);
    };
  }

pub runs_exactly : (ss : List Stage) → ((i : ℕ) → i + 1 ≡ length ss → (stage_at ss i).send ≡ 0) → (t : Schedule) → Runs ss t ↔ Same ss t (schedule_of ss)
runs_exactly ss still t = (λ r. runs_same ss still r, λ q. same_runs ss q (schedule_runs ss still))
