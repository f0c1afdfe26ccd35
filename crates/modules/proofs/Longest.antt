-- A task's reach (document 02, M-102): the longest module that needs at most P cores is found; and since a longer module needs no fewer
-- cores, all shorter ones need at most P too, and the search may go up to the first that needs more. Assumes nothing.
use mathlib.Core.Path.{◌≡◌, ap, sym, ◌∙◌}
use mathlib.Core.Bool.{true, false, ◌&&◌}
use mathlib.Core.List.{List}
use mathlib.Core.Logic.{◌↔◌, ⊎_elim}
use Prim.Native.Nat.{ℕ, zero, suc, ◌+◌, ◌-◌, ◌≤◌, ◌<◌}
use native.Mathlib.Nat.{le_refl}
use native.Mathlib.Omega.{arith}
use lib.Dec.{leb}
use borrow.Author.Tests.{eq-eqb, ne_eqb, le-leb, lt-leb, leb-true, leb-false}
use Rattle.records.specs.declared.Board.{Board}
use Rattle.std.specs.Prelude.{Result, Ok, Err}
use Rattle.records.specs.declared.refusal.Refusal.{Refusal}
use Rattle.records.proofs.Refusing.{refused_or_not}
use Rattle.records.specs.Costs.{read_costs}
use Rattle.records.specs.Filled.{count_in}
use Rattle.records.specs.Format.{IsCosts}
use Rattle.records.proofs.Cases.{lt_or_le, true_or_false, and-true}
use Rattle.records.proofs.Laws.{read_exactly, read_accepts}
use Rattle.modules.specs.Model.{Chain, chain_of}
use Rattle.modules.specs.Rules.{memory_fits, copies_allowed, within_limit, module_rules, fewest_cores}
use Rattle.modules.specs.Reach.{reach_of, reach, reach_answer}
use Rattle.modules.specs.Claims.{IsReach, NoReach, SomeHold, Reaches, Reaches.reached, Reaches.costs_wrong}
use Rattle.modules.proofs.Fewest.{fewest_some, fewest_most, fewest_fits, fewest_low}
use Rattle.modules.proofs.Sharing.{memory_drop}

-- ---- what is found

module _ (c : Chain) (first : ℕ) where
  -- the module up to that task needs at most P cores
  abbrev Few : ℕ → Type 0
  Few last = fewest_cores c first last ≤ c.board

  -- x is the last task of the longest of the modules of at most n tasks that need at most P cores, or 0
  record Longest (n x : ℕ) : Type 0 where
    later : 1 ≤ x → first ≤ x
    inside : 1 ≤ x → x < first + n
    few : 1 ≤ x → Few x
    longest : (m : ℕ) → first ≤ m → m < first + n → Few m → m ≤ x

  longest_here : (n : ℕ) → Few (first + n) → Longest (suc n) (first + n)
  longest_here n h = record { later = λ _. omega arith; inside = λ _. omega arith; few = λ _. h; longest = λ m a b f. omega arith }

  longest_shorter : (n x : ℕ) → (Few (first + n) → ⊥) → Longest n x → Longest (suc n) x
  longest_shorter n x h l = record {
    later = l.later;
    inside = λ some. omega (arith, l.inside some);
    few = l.few;
    longest = λ m a b f. ⊎_elim
        (λ d. l.longest m a d f)
        (λ d. let e : m ≡ first + n = omega arith in absurd (h (rw e at f)))
        (lt_or_le m (first + n));
  }

  found : (n : ℕ) → Longest n (reach_of c first n)
  unfolding reach_of
  found zero = record { later = λ s. absurd (omega arith); inside = λ s. absurd (omega arith); few = λ s. absurd (omega arith); longest = λ m a b f. absurd (omega arith) }
  found (suc n) = ⊎_elim
      (λ (t : leb (fewest_cores c first (first + n)) c.board ≡ true). rw t (longest_here n (leb-true _ _ t)))
      (λ (t : leb (fewest_cores c first (first + n)) c.board ≡ false). rw t (longest_shorter n (reach_of c first n) (λ f. omega (arith, leb-false (fewest_cores c first (first + n)) c.board t)) (found n)))
      (true_or_false (leb (fewest_cores c first (first + n)) c.board))

  reach_start : (first ≡ 0 → ⊥) → reach c first ≡ reach_of c first (c.tasks + 1 - first)
  unfolding reach
  reach_start n = simp (ne_eqb first 0 n)

  reach_found : 1 ≤ first → Longest (c.tasks + 1 - first) (reach c first)
  reach_found some = rw (reach_start (λ z. omega arith)) (found (c.tasks + 1 - first))

  -- ---- what is no task of the chain, and what is one

  pub reach_zero : first ≡ 0 → reach c first ≡ 0
  unfolding reach
  reach_zero z = simp (eq-eqb first 0 z)

  reach_some : 1 ≤ reach c first → 1 ≤ first
  reach_some some = ⊎_elim (λ h. absurd (omega (arith, reach_zero (omega arith)))) (λ h. h) (lt_or_le first 1)

  reach_few : 1 ≤ reach c first → Few (reach c first)
  reach_few some = (reach_found (reach_some some)).few some

  reach_most : 1 ≤ reach c first → (first ≤ reach c first) × (reach c first ≤ c.tasks)
  reach_most some =
      let f = reach_found (reach_some some) in
      let later = f.later some in
      let inside = f.inside some in
      (later, omega arith)

  pub reach_inside : reach c first ≤ c.tasks
  reach_inside = ⊎_elim (λ h. omega arith) (λ h. (reach_most h).1) (lt_or_le (reach c first) 1)

  pub reach_outside : (1 ≤ first → first ≤ c.tasks → ⊥) → reach c first ≡ 0
  reach_outside h = ⊎_elim
      (λ n. omega arith)
      (λ n. let m = reach_most n in absurd (h (reach_some n) (omega arith)))
      (lt_or_le (reach c first) 1)

  -- the search itself says that no longer module needs at most P cores
  reach_longer : 1 ≤ first → (m : ℕ) → first ≤ m → m ≤ c.tasks → Few m → m ≤ reach c first
  reach_longer some m a b = (reach_found some).longest m a (omega arith)

  -- ---- the reach, both ways round

  pub reach_longest : (l : ℕ) → 1 ≤ l → (reach c first ≡ l) ↔ IsReach c first l
  reach_longest l h = (
    λ e.
        let n : 1 ≤ reach c first = omega arith in
        let m = reach_most n in
        record {
          some = reach_some n;
          later = omega arith;
          inside = omega arith;
          needs = rw e at (reach_few n);
          longest = λ k a b f. omega (arith, reach_longer (reach_some n) k a b f);
        },
    λ r.
        let up = reach_longer r.some l r.later r.inside r.needs in
        let n : 1 ≤ reach c first = omega arith in
        let m = reach_most n in
        omega (arith, r.longest (reach c first) m.0 m.1 (reach_few n)),
  )

  pub reach_none : (reach c first ≡ 0) ↔ NoReach c first
  reach_none = (
    λ e. record {
      none = λ some l a b. ⊎_elim (λ m. m) (λ f. absurd (omega (arith, reach_longer some l a b f))) (lt_or_le c.board (fewest_cores c first l));
    },
    λ n. ⊎_elim
        (λ h. omega arith)
        (λ h.
        let m = reach_most h in
        absurd (omega (arith, n.none (reach_some h) (reach c first) m.0 m.1, reach_few h)))
        (lt_or_le (reach c first) 1),
  )

  -- ---- lengthening a module only adds to its memory need

  pub fewest_longer : (to last : ℕ) → to ≤ last → fewest_cores c first to ≤ fewest_cores c first last
  fewest_longer to last h = ⊎_elim
      (λ m. omega (arith, fewest_most c first to))
      (λ f. fewest_low c first to (fewest_cores c first last) (fewest_some c first last)
      (memory_drop c first last first to (le_refl first) h (fewest_cores c first last) (fewest_fits c first last f)))
      (lt_or_le c.board (fewest_cores c first last))

  -- ---- so the search may go up: what it has found up to a task is the reach of a chain that ends there

  pub reach_nothing : (n : ℕ) → n ≡ 0 → 0 ≡ reach_of c first n
  unfolding reach_of
  reach_nothing n e = rw e

  module _ (last : ℕ) (later : first ≤ last) where
    pub reach_more : fewest_cores c first last ≤ c.board → last ≡ reach_of c first (last + 1 - first)
    unfolding reach_of
    reach_more few =
        let d : last + 1 - first ≡ suc (last - first) = omega arith in
        let e : first + (last - first) ≡ last = omega arith in
        rw (d, e, le-leb (fewest_cores c first last) c.board few)

    -- past the first module that needs more than P cores there is none that does not
    none_longer : c.board < fewest_cores c first last → (d : ℕ) → reach_of c first (last - first + d) ≡ reach_of c first (last - first)
    unfolding reach_of
    none_longer many zero = let e : last - first + zero ≡ last - first = omega arith in rw e
    none_longer many (suc d) =
        let e : last - first + suc d ≡ suc (last - first + d) = omega arith in
        let f : first + (last - first + d) ≡ last + d = omega arith in
        let more : c.board < fewest_cores c first (last + d) = omega (arith, fewest_longer last (last + d) (omega arith)) in
        rw (e, f, lt-leb (fewest_cores c first (last + d)) c.board more) (none_longer many d)

    pub reach_stops : 1 ≤ first → last ≤ c.tasks → c.board < fewest_cores c first last → reach_of c first (last - first) ≡ reach c first
    reach_stops some inside many =
        let d : last - first + (c.tasks + 1 - last) ≡ c.tasks + 1 - first = omega arith in
        sym (reach_start (λ z. omega arith) ∙ ap (reach_of c first) (sym d) ∙ none_longer many (c.tasks + 1 - last))

  pub reach_ends : (n : ℕ) → 1 ≤ first → n ≡ c.tasks + 1 - first → reach_of c first n ≡ reach c first
  reach_ends n some e = ap (reach_of c first) e ∙ sym (reach_start (λ z. omega arith))

  -- ---- all modules up to the reach need at most P cores, and no longer ones

  module _ (last : ℕ) (some : 1 ≤ first) (later : first ≤ last) (inside : last ≤ c.tasks) where
    pub reach_exactly : Few last ↔ (last ≤ reach c first)
    reach_exactly = (
      reach_longer some last later inside,
      λ h. let n : 1 ≤ reach c first = omega arith in omega (arith, fewest_longer last (reach c first) h, reach_few n),
    )

    pub reach_memory : SomeHold c first last ↔ (last ≤ reach c first)
    reach_memory = (
      λ s. reach_exactly.0 (omega (arith, fewest_low c first last s.cores s.some s.fits, s.board)),
      λ h.
          let few = reach_exactly.1 h in
          record { cores = fewest_cores c first last; some = fewest_some c first last; board = few; fits = fewest_fits c first last few },
    )

    -- what keeps the rules on the board's cores ends within its reach
    pub rules_reach : (r p : ℕ) → 1 ≤ p → p ≤ c.board → module_rules c first last r p ≡ true → last ≤ reach c first
    unfolding module_rules
    rules_reach r p a b e =
        let copies_and_memory = (and-true (copies_allowed c first last r && memory_fits c first last p) (within_limit c first last p) e).0 in
        let memory = (and-true (copies_allowed c first last r) (memory_fits c first last p) copies_and_memory).1 in
        reach_memory.0 (record { cores = p; some = a; board = b; fits = memory })

-- ---- the service

module _ (s : List ℕ) (first : ℕ) where
  -- as the code finds it
  module _ {r : Result Board Refusal} (read : r ≡ read_costs s) where
    pub reach_refused : {e : Refusal} → r ≡ Err e → Err e ≡ reach_answer s first
    unfolding reach_answer
    reach_refused z = simp (sym read ∙ z)

    pub reach_given : {b : Board} {x : ℕ} → r ≡ Ok b → x ≡ reach (chain_of s b) first → Ok x ≡ reach_answer s first
    unfolding reach_answer
    reach_given z e = simp (sym read ∙ z, e)

  answered : Reaches s first (reach_answer s first)
  unfolding reach_answer
  answered = ⊎_elim
      (λ (t : (b : Board) × (read_costs s ≡ Ok b)). rw t.1 (reached t.0 ((read_accepts s t.0).0 t.1)))
      (λ (t : (e : Refusal) × (read_costs s ≡ Err e)). rw t.1 (costs_wrong t.0 ((read_exactly s (Err t.0)).0 t.1)))
      (refused_or_not (read_costs s))

  answered_only : (a : Result ℕ Refusal) → Reaches s first a → reach_answer s first ≡ a
  unfolding reach_answer
  answered_only a (reached b i) = rw ((read_accepts s b).1 i)
  answered_only a (costs_wrong e f) = rw ((read_exactly s (Err e)).1 f)

  pub reach_answers : (a : Result ℕ Refusal) → (reach_answer s first ≡ a) ↔ Reaches s first a
  reach_answers a = (λ e. rw e at answered, answered_only a)

-- the count that is answered says of each module of the chain whether it needs at most P cores
pub reach_counts : (s : List ℕ) (b : Board) → IsCosts s b → (first last : ℕ) → 1 ≤ first → first ≤ last → last ≤ b.tasks
    → (fewest_cores (chain_of s b) first last ≤ b.cores) ↔ (last ≤ count_in (reach_answer s first))
reach_counts s b i first last some later inside =
    let e : reach_answer s first ≡ Ok (reach (chain_of s b) first) = (reach_answers s first (Ok (reach (chain_of s b) first))).1 (reached b i) in
    rw e (reach_exactly (chain_of s b) first last some later inside)
