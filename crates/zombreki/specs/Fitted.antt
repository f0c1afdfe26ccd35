-- Costs filled in from laws (document 02, M-101), and the chain that the laws themselves describe. Assumes nothing.
use Rattle.std.specs.Prelude.{cond, ◌&&◌, List, ℕ, take}
use Rattle.records.specs.declared.Board.{Board}
use Rattle.records.specs.Filled.{count_in}
use Rattle.lookups.specs.Lookups.{within, has_next, hand_out_of, need_of, replicable_of, limit_of}
use Rattle.modules.specs.Model.{Chain}
use Rattle.laws.specs.Laws.{law_at}
use Rattle.laws.specs.Form.{law_of}
use Rattle.fitted.specs.Fill.{fill_answer, fill_bytes}
use Rattle.fitted.specs.Claims.{execution_place, internal_place, external_place}

-- the costs filled in: the bytes that the answer counts
abbrev pub filled_costs : List ℕ → List ℕ → List ℕ → List ℕ
filled_costs head l out = take (count_in (fill_answer head l out)) (fill_bytes head l out)

-- the chain of a first part of the board b and of laws: D (M-106), needs, flags and limits are the first part's, and each time is its law's
-- value; 0 where there is no such task, pair or number of cores
unfoldable pub law_chain : List ℕ → List ℕ → Board → Chain
law_chain head l b = record {
  tasks = b.tasks;
  board = b.cores;
  capacity = b.capacity;
  hand_out = hand_out_of head;
  need = need_of head b;
  replicable = replicable_of head b;
  limit = limit_of head b;
  execution = λ t p. cond (within t b.tasks && within p b.cores) (law_at (law_of l (execution_place t)) p 0) 0;
  internal = λ t p. cond (has_next t b.tasks && within p b.cores) (law_at (law_of l (internal_place b.tasks t)) p 0) 0;
  external = λ t s q. cond (has_next t b.tasks && (within s b.cores && within q b.cores)) (law_at (law_of l (external_place b.tasks t)) s q) 0;
}
