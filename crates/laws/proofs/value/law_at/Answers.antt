-- `law_at` is its definition, case by case.
use borrow.Author.Rules.{rules}
use Rattle.laws.specs.Laws.{law_at}
use Rattle.laws.proofs.value.law_at.Goals as goal

pub returns-in-Constant : goal.returns-in-Constant
unfolding law_at
returns-in-Constant c = search rules

pub returns-in-Three : goal.returns-in-Three
unfolding law_at
returns-in-Three c = rw c.in-Three.is c.three.ensures

pub returns-in-Five : goal.returns-in-Five
unfolding law_at
returns-in-Five c = rw c.in-Five.is c.five.ensures
