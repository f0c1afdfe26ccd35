-- The chain that a search is for. Assumes nothing.
use Rattle.modules.specs.Model.{Chain, chain_of}
use Rattle.threshold.specs.declared.dock.Dock.{Dock}

-- the chain of the costs and the board
abbrev pub chain : Dock → Chain
chain d = chain_of d.costs.now d.board
