-- `module_lines` is the `module_lines` of specs: after each turn one line more stands at the end.
use mathlib.Core.Path.{◌≡◌}
use Prim.Native.Nat.{◌*◌, ◌≤◌}
use Rattle.arrayvec.specs.ArrayString.{array_string_len}
use Rattle.modules.specs.Model.{chain_of}
use Rattle.console.specs.Text.{text_of, module_lines}
use Rattle.console.specs.Room.{line_room}
use Rattle.console.proofs.lines.module_lines.Given as goal

abbrev pub invariant-loop-i : goal.invariant-loop-i
invariant-loop-i l =
    (text_of l.text ≡ module_lines (chain_of l.costs l.board) l.plan l.i) × (array_string_len l.text ≤ l.i * line_room)
