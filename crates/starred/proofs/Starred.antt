-- The starred examples of document 01 and the figures of document 02, computed: what each case says comes of the definitions. Assumes
-- nothing.
use mathlib.Core.Path.{refl}
use Rattle.rounding.specs.Rounding.{rounded_up}
use Rattle.fields.specs.Fields.{value_at}
use Rattle.records.specs.Costs.{each_from, join_from, due_keys, count_of, task_meets, key_meets, value_meets, fault_at, first_fault, length_meets, head_meets, board_meets, read_records, read_head, read_board, read_costs}
use Rattle.lookups.specs.Lookups.{within, has_next, cell_of, hand_out_of, need_of, replicable_of, limit_of, execution_of, internal_of, pair_place, pair_of, external_of}
use Rattle.modules.specs.Model.{run, gather, body, transfer, handed, response, passage}
use Rattle.modules.specs.Rules.{share, shares, memory_fits, copies_allowed, tighter, limit_from, module_limit, allows, within_limit, module_rules, fewest_from, fewest_cores}
use Rattle.layout.specs.Layout.{count_from, module_count, modules_from, modules_of, encode}
use Rattle.figures.specs.Model.{cores_of, slower_of, slowest_from, bottleneck, block_time}
use Rattle.figures.specs.Rules.{covers, each_allowed, keeps_rules}
use Rattle.figures.specs.Plan.{figures_of}
use Rattle.judge.specs.Judge.{is_blank, is_module, blank_fault, shape_fault, first_failing, judged_plan, judged_bytes, judged}
use Rattle.greedy.specs.Greedy.{bit, start_from, start, give, may_take, consider, predecessor, next, greedy_from, greedy_plan, start_fits, greedy_on, greedy_answer, greedy_bytes_on, greedy_bytes}
use Rattle.search.specs.Every.{in_turn, every, scan}
use Rattle.planners.specs.Best.{is_lighter, is_better, best_plan, found_answer, found_bytes, begins, answer_on, best_answer, best_bytes}
use Rattle.starred.specs.Dock.{small_dock, fixed_dock, dock_of, copying_dock, fives_dock, zeroed, idle_dock}
use Rattle.starred.specs.Cases.{Each, lent, words, starred}

pub each_holds : Each starred
unfolding rounded_up value_at each_from join_from due_keys count_of task_meets key_meets value_meets fault_at first_fault length_meets head_meets board_meets read_head read_board read_records read_costs within has_next cell_of hand_out_of need_of replicable_of limit_of execution_of internal_of pair_place pair_of external_of run gather body transfer handed response passage cores_of slower_of slowest_from bottleneck block_time share shares memory_fits copies_allowed tighter limit_from module_limit allows within_limit module_rules fewest_from fewest_cores covers each_allowed keeps_rules count_from module_count modules_from modules_of encode figures_of is_blank is_module blank_fault shape_fault first_failing judged_plan judged_bytes judged in_turn every scan is_lighter is_better best_plan found_answer found_bytes begins answer_on best_answer best_bytes bit start_from start give may_take consider predecessor next greedy_from greedy_plan start_fits greedy_on greedy_answer greedy_bytes_on greedy_bytes small_dock fixed_dock dock_of copying_dock fives_dock zeroed idle_dock lent words starred
each_holds = ((refl, refl), ((refl, refl), ((refl, refl), ((refl, refl), ((refl, refl), ((refl, refl), ((refl, refl), ((refl, refl), ((refl, refl), (refl, (refl, (refl, (refl, (refl, tt))))))))))))))
