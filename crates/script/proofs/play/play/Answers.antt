-- `play::play` meets its contract. Assumes nothing.
use mathlib.Core.Path.{sym, ◌∙◌}
use Rattle.script.proofs.PlayLaws.{room, leaves-bad, leaves-asked, leaves-played}
use Rattle.script.proofs.play.play.Goals as goal

pub returns-then-not-can_play : goal.returns-then-not-can_play
returns-then-not-can_play c =
    let a = c.args in
    leaves-bad a.kept a.asks a.event a.readings a.at a.number a.table.now a.lengths.now _ _ _
    (sym c.can_play.ensures ∙ c.if-not-can_play.true) c.bad.ensures

pub arriving-requires : goal.arriving-requires
arriving-requires c =
    let a = c.args in
    let r = room a.kept.stored a.kept.latest.ok a.event a.number _ a.lengths.now (sym c.can_play.ensures ∙ c.if-not-can_play.false) in
    (r.line, r.sizes)

pub returns-then-asks : goal.returns-then-asks
returns-then-asks c =
    let a = c.args in
    leaves-asked a.kept a.asks a.event a.readings a.at a.number a.table.now a.lengths.now _ _ _
    (sym c.can_play.ensures ∙ c.if-not-can_play.false) c.if-asks.true _ c.arriving.ensures c.ask_event.ensures

pub play_event-requires : goal.play_event-requires
play_event-requires c =
    let a = c.args in
    let r = room a.kept.stored a.kept.latest.ok a.event a.number _ a.lengths.now (sym c.can_play.ensures ∙ c.if-not-can_play.false) in
    (r.line, r.early, r.sizes)

pub returns : goal.returns
returns c =
    let a = c.args in
    leaves-played a.kept a.asks a.event a.readings a.at a.number a.table.now a.lengths.now _ _ _
    (sym c.can_play.ensures ∙ c.if-not-can_play.false) c.if-asks.false c.play_event.ensures
