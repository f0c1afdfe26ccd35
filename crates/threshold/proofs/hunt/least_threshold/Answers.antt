-- `least_threshold` refuses where there is no room; else the words are laid, the bracket starts with all thresholds, and halving decides it; the table of the answer is filled last.
use mathlib.Core.Path.{◌∙◌}
use Rattle.modules.specs.Model.{chain_of}
use Rattle.threshold.proofs.Hunting.{bracket_start, searched_refused, searched_none, searched_some}
use Rattle.threshold.proofs.hunt.least_threshold.Goals as goal

pub returns-then-not-has_room : goal.returns-then-not-has_room
returns-then-not-has_room c =
    let a = c.args in
    searched_refused (chain_of a.costs.now a.board) a.board a.work.now (c.has_room.ensures.1 (c.if-not-has_room.true))

pub lay-requires : goal.lay-requires
lay-requires c = c.has_room.ensures.0 (c.if-not-has_room.false)

pub jump-near-requires : goal.jump-near-requires
jump-near-requires c =
    let room = c.has_room.ensures.0 (c.if-not-has_room.false) in
    let a = c.args in
    let l = c.lay.ensures in
    let h = c.start-h.ensures in
    (rw l.0 room, l.1, bracket_start (chain_of a.costs.now a.board) h.0 h.1)

pub halve-n-requires : goal.halve-n-requires
halve-n-requires c =
    let room = c.has_room.ensures.0 (c.if-not-has_room.false) in
    let l = c.lay.ensures in
    let j = c.jump-near.ensures in
    (rw (j.0 ∙ l.0) room, j.1, j.2)

pub returns-then-n-gt-TOP : goal.returns-then-n-gt-TOP
returns-then-n-gt-TOP c =
    let room = c.has_room.ensures.0 (c.if-not-has_room.false) in
    let a = c.args in
    let r = c.halve-n.ensures in
    let j = c.jump-near.ensures in
    let l = c.lay.ensures in
    searched_none (chain_of a.costs.now a.board) a.board a.work.now room r.2 (r.0 ∙ j.0 ∙ l.0) r.1 (λ i h. r.3 i h ∙ j.3 i h ∙ l.2 i h) c.if-n-gt-TOP.true

pub fill-requires : goal.fill-requires
fill-requires c =
    let room = c.has_room.ensures.0 (c.if-not-has_room.false) in
    let r = c.halve-n.ensures in
    (rw (r.0 ∙ c.jump-near.ensures.0 ∙ c.lay.ensures.0) room, c.if-n-gt-TOP.false, r.1)

pub returns : goal.returns
returns c =
    let room = c.has_room.ensures.0 (c.if-not-has_room.false) in
    let a = c.args in
    let r = c.halve-n.ensures in
    let j = c.jump-near.ensures in
    let l = c.lay.ensures in
    let f = c.fill.ensures in
    searched_some (chain_of a.costs.now a.board) a.board a.work.now room r.2 (f.0 ∙ r.0 ∙ j.0 ∙ l.0) f.1 (λ i h. f.3 i h ∙ r.3 i h ∙ j.3 i h ∙ l.2 i h) c.if-n-gt-TOP.false f.2
