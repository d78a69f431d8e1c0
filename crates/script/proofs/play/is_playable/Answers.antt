-- `play::is_playable` meets its contract. Assumes nothing.
use mathlib.Core.Path.{sym, ap, ◌∙◌}
use Rattle.script.specs.Play.{playable}
use Rattle.script.proofs.PlayLaws.{others-playable}
use Rattle.script.proofs.play.is_playable.Goals as goal

pub returns-in-Deliver : goal.returns-in-Deliver
unfolding playable
returns-in-Deliver c =
    let a = c.args in
    c.was_sent.ensures ∙ sym (ap (λ e. playable a.stored a.asked e a.number a.lengths.now) c.in-Deliver.is)

pub returns-in-Return : goal.returns-in-Return
unfolding playable
returns-in-Return c =
    let a = c.args in
    sym (ap (λ e. playable a.stored a.asked e a.number a.lengths.now) c.in-Return.is)

pub returns-in-StoreAsked : goal.returns-in-StoreAsked
unfolding playable
returns-in-StoreAsked c =
    let a = c.args in
    sym (ap (λ e. playable a.stored a.asked e a.number a.lengths.now) c.in-StoreAsked.is)

pub returns-in-Bad : goal.returns-in-Bad
unfolding playable
returns-in-Bad c =
    let a = c.args in
    sym (ap (λ e. playable a.stored a.asked e a.number a.lengths.now) c.in-Bad.is)

pub returns-in_default : goal.returns-in_default
returns-in_default c =
    let a = c.args in
    others-playable a.stored a.asked a.event a.number a.lengths.now c.in_default.not-Deliver c.in_default.not-Return
    c.in_default.not-StoreAsked c.in_default.not-Bad
