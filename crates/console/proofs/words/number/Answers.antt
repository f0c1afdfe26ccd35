-- `number` puts `decimal` behind the text: the digits that `io::decimal` promises are those, and they are text.
use mathlib.Core.Path.{refl, sym, ap, subst}
use native.Mathlib.Omega.{arith}
use Rattle.std.specs.Prelude.{ℕ, List, length, IsUtf8}
use Rattle.console.proofs.Digits.{digits_few, digits_decimal, digits_text}
use Rattle.console.proofs.words.number.Goals as goal

pub returns-in-Ok : goal.returns-in-Ok
returns-in-Ok c =
    let d = c.decimal-k in
    let n = c.args.n in
    let words = c.in-Ok.ensures.cases.0 in
    let few = digits_few n d.result c.ranges.n.fits d.ensures.len in (
      rw (c.push_str.ensures.bytes, words, d.ensures.digits, digits_decimal n d.result c.ranges.n.fits d.ensures.len) (refl),
      omega (arith, c.push_str.ensures.len, ap (λ (l : List ℕ). length l) words, d.ensures.in_bounds.1),
    )

pub returns-in_default : goal.returns-in_default
returns-in_default c =
    let d = c.decimal-k in
    absurd (c.in_default.ensures.cases.0 (subst IsUtf8 (sym d.ensures.digits) (digits_text d.result c.args.n)))
