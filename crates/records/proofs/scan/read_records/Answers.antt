-- `read_records` is the `read_records` of specs: the length, then what the walk found, decides which branch is due.
use borrow.Author.Tests.{eq-eqb, ne_eqb}
use mathlib.Core.Path.{sym, ◌∙◌}
use Rattle.std.proofs.lemmas.Result.{err_from_is_err_and}
use Rattle.records.specs.Costs.{read_records}
use Rattle.records.proofs.scan.read_records.Goals as goal

pub returns-then-costs-total : goal.returns-then-costs-total
unfolding read_records
returns-then-costs-total c = simp (← c.count-total.ensures, ne_eqb _ _ c.if-costs-total.true)

pub returns-in_err-first_fault : goal.returns-in_err-first_fault
unfolding read_records
returns-in_err-first_fault c =
    let p = err_from_is_err_and c.from_residual.result c.from_residual.ensures.1 in
    rw (p.1, p.2) (simp (← c.count-total.ensures, eq-eqb _ _ c.if-costs-total.false, sym c.first_fault.ensures ∙ c.in_err-first_fault.was))

pub returns : goal.returns
unfolding read_records
returns c = simp (← c.count-total.ensures, eq-eqb _ _ c.if-costs-total.false, sym c.first_fault.ensures ∙ c.in_ok-first_fault.was)
