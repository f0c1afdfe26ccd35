-- The chain that is weighed. Assumes nothing.
use Rattle.modules.specs.Model.{Chain, chain_of}
use Rattle.weights.specs.declared.scale.Scale.{Scale}

-- the chain of the costs and the board
abbrev pub chain_in : Scale → Chain
chain_in s = chain_of s.costs.now s.board
