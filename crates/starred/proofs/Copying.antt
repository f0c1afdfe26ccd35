-- What handing out to copies costs (document 02, M-106), computed on document 01's small dock with D = 10: the lookup, modules of 0 to 5 copies,
-- copies that are enough, and plans. Assumes nothing.
use mathlib.Core.Path.{◌≡◌, refl}
use mathlib.Core.Bool.{true, false}
use mathlib.Core.List.{[], ◌∷◌, map}
use lib.ListN.{replicate}
use Rattle.rounding.specs.Rounding.{rounded_up}
use Rattle.fields.specs.Fields.{value_at}
use Rattle.lookups.specs.Lookups.{within, has_next, cell_of, hand_out_of, execution_of, internal_of, pair_place, pair_of, external_of}
use Rattle.modules.specs.Model.{Chain, chain_of, run, gather, body, transfer, handed, response, passage}
use Rattle.layout.specs.Layout.{count_from, module_count, modules_from, modules_of}
use Rattle.figures.specs.Model.{cores_of, slower_of, slowest_from, bottleneck, block_time}
use Rattle.figures.specs.Plan.{figures_of, filled_in}
use Rattle.search.specs.Least.{pick}
use Rattle.search.specs.Copies.{enough, fewest}
use Rattle.starred.specs.Dock.{small_dock, copying_dock}
use Rattle.starred.specs.Cases.{figures, one, two}
use Rattle.starred.proofs.Single.{few, board, dock}

hand_outs : map hand_out_of (small_dock ∷ copying_dock 10 ∷ copying_dock 255 ∷ [] ∷ (1 ∷ []) ∷ (1 ∷ 9 ∷ []) ∷ []) ≡ 0 ∷ 10 ∷ 255 ∷ 0 ∷ 0 ∷ 9 ∷ []
unfolding hand_out_of small_dock copying_dock
hand_outs = refl

abbrev copying : Chain
copying = chain_of (copying_dock 10) (board 4 100)

-- 0 to 5 copies: D if r is above 1, once however many they are; and so in a response and in what a module adds to the time of a block
handed_out :
    (map (handed copying) few ≡ 0 ∷ 0 ∷ 10 ∷ 10 ∷ 10 ∷ 10 ∷ [])
    × (map (handed dock) few ≡ replicate 6 0)
    × (map (λ r. response copying 0 1 1 r 1 2) few ≡ 14 ∷ 14 ∷ 24 ∷ 24 ∷ 24 ∷ 24 ∷ [])
    × (map (λ r. response copying 1 2 2 r 2 0) few ≡ 12 ∷ 12 ∷ 22 ∷ 22 ∷ 22 ∷ 22 ∷ [])
    × (map (λ r. passage copying 2 2 r 2 0) few ≡ 10 ∷ 10 ∷ 20 ∷ 20 ∷ 20 ∷ 20 ∷ [])
unfolding hand_out_of value_at within has_next cell_of execution_of internal_of pair_place pair_of external_of run gather body transfer handed response passage small_dock copying_dock
handed_out = (refl, refl, refl, refl, refl)

-- at a threshold of 5 one copy is enough, two are not, and three are again: a load of 5, and of 12 where handing out costs 7
copies_enough : (map (enough true 5 12 5) few ≡ false ∷ true ∷ false ∷ true ∷ true ∷ true ∷ []) × (fewest true 5 12 5 ≡ 1) × (fewest true 6 13 5 ≡ 3)
unfolding rounded_up pick fewest
copies_enough = (refl, refl, refl)

-- of plans: D before the division, for each module with copies
copying_plans :
    (filled_in (figures_of copying (modules_of (one 1 2 2 2) 2)) ≡ figures 1 4 1 28 2)
    × (filled_in (figures_of copying (modules_of (one 1 2 1 4) 2)) ≡ figures 1 4 1 11 1)
    × (filled_in (figures_of copying (modules_of (two 1 1 2 1 2 2 1 2) 2)) ≡ figures 2 4 1 24 2)
    × (block_time copying (modules_of (one 1 2 2 2) 2) ≡ 28)
    × (block_time copying (modules_of (one 1 2 1 4) 2) ≡ 11)
    × (block_time copying (modules_of (two 1 1 2 1 2 2 1 2) 2) ≡ 34)
    × (block_time copying (modules_of (two 1 1 2 1 2 2 3 2) 2) ≡ 44)
unfolding hand_out_of value_at within has_next cell_of execution_of internal_of pair_place pair_of external_of run gather body transfer handed response passage count_from module_count modules_from modules_of cores_of slower_of slowest_from bottleneck figures_of block_time small_dock copying_dock
copying_plans = (refl, refl, refl, refl, refl, refl, refl)
