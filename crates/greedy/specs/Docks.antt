-- What a dock of the greedy procedure and an assignment on it stand for: the chain of its costs and its board, and the modules.
-- Assumes nothing.
use Rattle.std.specs.Prelude.{List}
use Rattle.modules.specs.declared.Module.{Module}
use Rattle.modules.specs.Model.{Chain, chain_of}
use Rattle.layout.specs.Layout.{modules_of}
use Rattle.greedy.specs.declared.greedy.Dock.{Dock}
use Rattle.greedy.specs.declared.greedy.Assignment.{Assignment}

abbrev pub chain : Dock → Chain
chain d = chain_of d.costs.now d.board

abbrev pub modules : Assignment → List Module
modules a = modules_of a.plan a.dock.board.tasks
