-- "Bottleneck at most z" for any fraction z, as a claim about every single module. Assumes nothing.
use Rattle.search.specs.Plan.{Rule, Problem}
use Rattle.search.specs.Fraction.{Frac}
use Rattle.search.specs.Bottleneck.{within}

-- the problem with z's denominator for its grain
abbrev pub gauge : Problem → Frac → Problem
gauge X z = record {
  tasks = X.tasks;
  board = X.board;
  allowed = X.allowed;
  response = X.response;
  grain = z.den;
  unit = X.unit;
  price = X.price;
}

-- a module keeps the rules, and its load is at most z
abbrev pub below : Problem → Frac → Rule
below X z = within (gauge X z) z.num
