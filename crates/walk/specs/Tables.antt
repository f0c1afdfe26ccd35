-- The chain that the walk goes over. Assumes nothing.
use Rattle.modules.specs.Model.{Chain, chain_of}
use Rattle.walk.specs.declared.tables.Tables.{Tables}

-- the chain of the costs and the board
abbrev pub chain_in : Tables → Chain
chain_in t = chain_of t.costs.now t.board
