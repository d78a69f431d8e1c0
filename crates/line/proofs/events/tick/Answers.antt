-- `events::tick` meets its contract. Assumes nothing.
use Rattle.std.proofs.Common.{sym, ap, ◌∙◌, ◌≡◌, ◌+◌, List, refl, Some, None, true, false}
use borrow.Author.Tests.{eq-eqb, ne_eqb}
use Rattle.std.proofs.Common.{Bool}
use Rattle.std.proofs.lemmas.Option.{none-some, same_Some}
use Rattle.lists.specs.Choice.{pick}
use Rattle.transmitters.specs.declared.Reading.{Reading}
use Rattle.line.specs.declared.events.Called.{Called}
use Rattle.line.specs.declared.events.Event.TheVariants.{Tick}
use Rattle.line.specs.Events.{tick_called}
use Rattle.line.proofs.events.tick.Goals as goal

given : (t : Bool) (row : List Reading) (f : List Reading → Called) (bad : Called) {x : List Reading} → pick t (Some row) None ≡ Some x → f x ≡ pick t (f row) bad
unfolding pick
given true row f bad {x} e = ap f (sym (same_Some row x e))
given false row f bad {x} e = absurd (none-some x e)

not_given : (t : Bool) (row : List Reading) (c bad : Called) → pick t (Some row) None ≡ None → bad ≡ pick t c bad
unfolding pick
not_given true row c bad e = absurd (none-some row (sym e))
not_given false row c bad e = refl

pub returns-then-count-m : goal.returns-then-count-m
unfolding tick_called pick
returns-then-count-m c =
    let a = c.args in
    let e : a.count ≡ a.m + 1 → ⊥ = c.if-count-m.true in
    rw (ne_eqb _ _ e) c.calls.ensures

pub returns-in-Some : goal.returns-in-Some
unfolding tick_called
returns-in-Some c =
    let a = c.args in
    let e : a.count ≡ a.m + 1 = c.if-count-m.false in
    rw (eq-eqb _ _ e) (given _ _ (λ (row : List Reading). record { event = Tick a.at; asks = false; readings = row }) _ (sym c.row_in.ensures ∙ c.in-Some.is))

pub returns-in-None : goal.returns-in-None
unfolding tick_called
returns-in-None c =
    let a = c.args in
    let e : a.count ≡ a.m + 1 = c.if-count-m.false in
    c.calls-in-None.ensures ∙ rw (eq-eqb _ _ e) (not_given _ _ _ _ (sym c.row_in.ensures ∙ c.in-None.is))
