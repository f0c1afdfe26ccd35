-- `put_all` writes the first part and, behind it, the records of the laws, for which there is room.
use native.Mathlib.Omega.{arith}
use Rattle.fitted.proofs.Answers.{fault_none, put_both}
use Rattle.fitted.proofs.Dues.{count_more, all_length}
use Rattle.fitted.proofs.Stated.{meets_laws}
use Rattle.fitted.proofs.fill.put_all.Goals as goal

pub put_head-requires : goal.put_head-requires
put_head-requires c = omega (arith, count_more c.args.k c.args.p)

pub put_costs-requires : goal.put_costs-requires
put_costs-requires c =
    let a = c.args in
    let f = fault_none a.laws.now a.k a.p c.requires.4 in
    let all = all_length a.laws.now a.k a.p (omega arith) (meets_laws a.laws.now a.k (omega arith) f.0) in
    (omega arith, omega arith, omega arith, f.1, omega (arith, all, c.put_head.auto.out))

pub returns : goal.returns
returns c =
    let a = c.args in
    put_both a.head.now a.laws.now a.k a.p a.out.now (omega arith) c.requires.4 c.requires.3 c.requires.5
    c.put_head.ensures c.put_costs.ensures
