-- The ends of a chain: a transfer without a sender or a receiver is nothing, and is looked up so. Assumes nothing.
use mathlib.Core.Path.{◌≡◌, refl}
use mathlib.Core.Bool.{and-false, or-true}
use mathlib.Core.List.{List}
use Prim.Native.Nat.{ℕ, zero, suc}
use native.Mathlib.Omega.{arith}
use borrow.Author.Tests.{ne_eqb}
use Rattle.records.specs.declared.Board.{Board}
use Rattle.lookups.specs.Lookups.{within, pair_of, external_of}
use Rattle.modules.specs.Model.{chain_of, transfer}

pub transfer_looked_up : (w : List ℕ) (b : Board) (t s q : ℕ) → transfer (chain_of w b) t s q ≡ external_of (pair_of w b t) b.cores s q
unfolding transfer external_of within
transfer_looked_up w b t zero q = refl
transfer_looked_up w b t (suc s) zero = simp (or-true, and-false)
transfer_looked_up w b t (suc s) (suc q) = simp (ne_eqb (suc s) 0 (λ e. omega arith), ne_eqb (suc q) 0 (λ e. omega arith))
