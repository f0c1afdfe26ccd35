-- The bytes of an assignment, and of one with a core more for a module: by induction along the records. Assumes nothing.
use mathlib.Core.Path.{◌≡◌, refl, sym, ap, ◌∙◌}
use mathlib.Core.Bool.{true}
use mathlib.Core.List.{List, [], ◌∷◌}
use Prim.Native.Nat.{ℕ, zero, suc, ◌+◌, ◌*◌, ◌≤◌, ◌<◌}
use native.Mathlib.Omega.{arith}
use lib.ListN.{length, get_or, set}
use Rattle.modules.specs.declared.Module.{Module}
use Rattle.layout.specs.Layout.{most_modules, modules_of, encode, encode_plan}
use Rattle.figures.specs.Model.{cores_of}
use Rattle.figures.specs.Rules.{covers}
use Rattle.figures.proofs.Covering.{covers_length}
use Rattle.figures.proofs.Decoding.{decode_encode}
use Rattle.greedy.specs.Greedy.{give}
use Rattle.greedy.specs.Assignment.{Single, Assigned}
use Rattle.greedy.proofs.Giving.{give_covers, give_single}

-- ---- the byte of the i-th module's cores

byte_next : (i : ℕ) → 4 * suc i + 3 ≡ suc (suc (suc (suc (4 * i + 3))))
byte_next i = omega arith

give_bytes : (n : ℕ) (ms : List Module) (i : ℕ) → i < length ms → length ms ≤ n
    → set (encode n ms) (4 * i + 3) (get_or (encode n ms) (4 * i + 3) 0 + 1) ≡ encode n (give ms i)
unfolding give encode
give_bytes zero ms i h l = absurd (omega arith)
give_bytes (suc n) [] i h l = absurd (omega arith)
give_bytes (suc n) (m ∷ ms) zero h l = refl
give_bytes (suc n) (m ∷ ms) (suc i) h l =
    rw (byte_next i) (ap (λ (t : List ℕ). m.first ∷ (m.last ∷ (m.copies ∷ (m.cores ∷ t)))) (give_bytes n ms i (omega arith) (omega arith)))

cores_byte : (n : ℕ) (ms : List Module) (i : ℕ) → Single ms → i < length ms → length ms ≤ n → get_or (encode n ms) (4 * i + 3) 0 ≤ cores_of ms
unfolding encode cores_of
cores_byte zero ms i s h l = absurd (omega arith)
cores_byte (suc n) [] i s h l = absurd (omega arith)
cores_byte (suc n) (m ∷ ms) zero s h l = rw s.0 (omega arith)
cores_byte (suc n) (m ∷ ms) (suc i) s h l = rw (byte_next i) (omega (arith, cores_byte n ms i s.1 (omega arith) (omega arith)))

-- ---- whole assignments

-- the bytes of modules that cover the chain in single copies are an assignment, and say those modules
pub assigned : (k : ℕ) (ms : List Module) {w : List ℕ} → 1 ≤ k → k ≤ most_modules → covers k 1 ms ≡ true → Single ms → w ≡ encode_plan ms → Assigned k w × (modules_of w k ≡ ms)
assigned k ms {w} h l e s b =
    let says : modules_of w k ≡ ms = ap (λ (v : List ℕ). modules_of v k) b ∙ decode_encode k ms h l e in
    (record { bytes = b ∙ ap encode_plan (sym says); covered = ap (covers k 1) says ∙ e; single = rw says s }, says)

module _ (k : ℕ) (w : List ℕ) (i : ℕ) (most : k ≤ most_modules) (a : Assigned k w) (there : i < length (modules_of w k)) where
  few : length (modules_of w k) ≤ most_modules
  few = omega (arith, covers_length k 1 (modules_of w k) a.covered)

  -- no module has more cores than all of them
  pub byte_most : get_or w (4 * i + 3) 0 ≤ cores_of (modules_of w k)
  byte_most =
      omega (arith, ap (λ (v : List ℕ). get_or v (4 * i + 3) 0) a.bytes, cores_byte most_modules (modules_of w k) i a.single there few)

  pub given_assigned : {v : List ℕ} → 1 ≤ k → v ≡ set w (4 * i + 3) (get_or w (4 * i + 3) 0 + 1) → Assigned k v × (modules_of v k ≡ give (modules_of w k) i)
  given_assigned {v} h e =
      let ms = modules_of w k in
      let b : v ≡ encode_plan (give ms i) =
      e ∙ ap (λ (x : List ℕ). set x (4 * i + 3) (get_or x (4 * i + 3) 0 + 1)) a.bytes ∙ give_bytes most_modules ms i there few in
      assigned k (give ms i) h most (give_covers k 1 ms i a.covered) (give_single ms i a.single) b
