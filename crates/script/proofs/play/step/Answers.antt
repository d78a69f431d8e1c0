-- `play::step` meets its contract. Assumes nothing.
use mathlib.Core.Path.{sym, subst}
use Rattle.script.specs.Boxes.{Gives}
use Rattle.script.specs.Play.{effect_of}
use Rattle.script.proofs.play.step.Goals as goal

pub returns-in-Tick : goal.returns-in-Tick
unfolding effect_of
returns-in-Tick c =
    let a = c.args in
    subst (λ e. Gives (effect_of a.kept e a.readings a.bytes.now) c.tick.result) (sym c.in-Tick.is) c.tick.ensures

pub returns-in-GiveUp : goal.returns-in-GiveUp
unfolding effect_of
returns-in-GiveUp c =
    let a = c.args in
    subst (λ e. Gives (effect_of a.kept e a.readings a.bytes.now) c.give_up.result) (sym c.in-GiveUp.is) c.give_up.ensures

pub returns-in-Deliver : goal.returns-in-Deliver
unfolding effect_of
returns-in-Deliver c =
    let a = c.args in
    subst (λ e. Gives (effect_of a.kept e a.readings a.bytes.now) c.arrive.result) (sym c.in-Deliver.is) c.arrive.ensures

pub returns-in-Store : goal.returns-in-Store
unfolding effect_of
returns-in-Store c =
    let a = c.args in
    subst (λ e. Gives (effect_of a.kept e a.readings a.bytes.now) c.store.result) (sym c.in-Store.is) c.store.ensures

pub returns-in-Return : goal.returns-in-Return
unfolding effect_of
returns-in-Return c =
    let a = c.args in
    subst (λ e. Gives (effect_of a.kept e a.readings a.bytes.now) c.come_back.result) (sym c.in-Return.is) c.come_back.ensures

pub returns-in-Commit : goal.returns-in-Commit
unfolding effect_of
returns-in-Commit c =
    let a = c.args in
    subst (λ e. Gives (effect_of a.kept e a.readings a.bytes.now) c.commit.result) (sym c.in-Commit.is) c.commit.ensures

pub returns-in-StoreAsked : goal.returns-in-StoreAsked
unfolding effect_of
returns-in-StoreAsked c =
    let a = c.args in
    subst (λ e. Gives (effect_of a.kept e a.readings a.bytes.now) c.store_asked.result) (sym c.in-StoreAsked.is) c.store_asked.ensures

pub returns-in-Bad : goal.returns-in-Bad
unfolding effect_of
returns-in-Bad c =
    let a = c.args in
    subst (λ e. Gives (effect_of a.kept e a.readings a.bytes.now) c.quiet.result) (sym c.in-Bad.is) c.quiet.ensures
