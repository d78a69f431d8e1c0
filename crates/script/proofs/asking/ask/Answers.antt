-- `asking::ask` meets its contract. Assumes nothing.
use borrow.Enum.Refused.{opened}
use mathlib.Core.Path.{sym, subst}
use Rattle.script.specs.Asking.{Asks, ask_of}
use Rattle.script.proofs.AskLaws.{other-asked}
use Rattle.script.proofs.asking.ask.Goals as goal

pub returns-in-Tick : goal.returns-in-Tick
unfolding ask_of
returns-in-Tick c =
    let a = c.args in
    subst (λ e. Asks (ask_of a.kept e a.readings a.bytes.now) c.ask_tick.result) (sym c.in-Tick.is) c.ask_tick.ensures

pub returns-in-GiveUp : goal.returns-in-GiveUp
unfolding ask_of
returns-in-GiveUp c =
    let a = c.args in
    subst (λ e. Asks (ask_of a.kept e a.readings a.bytes.now) c.ask_give_up.result) (sym c.in-GiveUp.is) c.ask_give_up.ensures

pub returns-in-Deliver : goal.returns-in-Deliver
unfolding ask_of
returns-in-Deliver c =
    let a = c.args in
    subst (λ e. Asks (ask_of a.kept e a.readings a.bytes.now) c.ask_arrive.result) (sym c.in-Deliver.is) c.ask_arrive.ensures

pub returns-in_default : goal.returns-in_default
returns-in_default c =
    let a = c.args in
    other-asked a.kept a.event a.readings a.bytes.now c.not_asked.result (opened c.in_default.in_default-own.keys4) c.not_asked.ensures
