-- `fill_on` refuses with the laws' fault, then for want of room, and else fills in.
use mathlib.Core.Path.{sym, ◌∙◌}
use native.Mathlib.Omega.{arith}
use Rattle.std.proofs.lemmas.Result.{err_from_is_err_and}
use Rattle.fitted.proofs.Dues.{count_bound}
use Rattle.fitted.proofs.Answers.{refuse_on, short_on, filled_on}
use Rattle.fitted.proofs.fill.fill_on.Goals as goal

pub returns-in_err-laws_fault : goal.returns-in_err-laws_fault
returns-in_err-laws_fault c =
    let a = c.args in
    let p = err_from_is_err_and c.from_residual.result c.from_residual.ensures.1 in
    rw (p.1, p.2) (refuse_on a.head.now a.laws.now a.k a.p a.out.now (sym c.laws_fault.ensures ∙ c.in_err-laws_fault.was))

pub overflow_mul-bytes : goal.overflow_mul-bytes
overflow_mul-bytes c =
    let a = c.args in
    omega (arith, c.count-bytes.ensures, count_bound a.k a.p (omega arith) (omega arith))

pub returns-then-out-bytes : goal.returns-then-out-bytes
returns-then-out-bytes c =
    let a = c.args in
    short_on a.head.now a.laws.now a.k a.p a.out.now (sym c.laws_fault.ensures ∙ c.in_ok-laws_fault.was) (omega (arith, c.count-bytes.ensures))

pub put_all-requires : goal.put_all-requires
put_all-requires c = (omega arith, omega arith, omega arith, c.requires.3, sym c.laws_fault.ensures ∙ c.in_ok-laws_fault.was, omega (arith, c.count-bytes.ensures))

pub returns : goal.returns
returns c =
    let a = c.args in
    filled_on a.head.now a.laws.now a.k a.p a.out.now (sym c.laws_fault.ensures ∙ c.in_ok-laws_fault.was) (omega (arith, c.count-bytes.ensures))
    (omega (arith, c.count-bytes.ensures)) c.put_all.ensures
