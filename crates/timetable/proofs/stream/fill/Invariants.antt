-- `fill` holds the body and the transfer of each module that it has passed.
use mathlib.Core.Path.{◌≡◌}
use lib.ListN.{length}
use Rattle.modules.specs.Model.{chain_of}
use Rattle.layout.specs.Layout.{most_modules}
use Rattle.timetable.specs.Loops.{stage_in, most_body, most_send, Each}
use Rattle.timetable.proofs.stream.fill.Given as goal

abbrev pub invariant-loop-i : goal.invariant-loop-i
invariant-loop-i l =
    let stage = stage_in (chain_of l.costs l.board) l.plan l.count in
    (length l.bodies ≡ most_modules) × (length l.sends ≡ most_modules) × Each (λ j. (stage j).body) most_body l.i l.bodies × Each (λ j. (stage j).send) most_send l.i l.sends
