-- `next_estimate` meets its contract. Assumes nothing.
use Rattle.std.proofs.Common.{eq-eqb, ne_eqb, ◌≡◌, sym, ◌∙◌}
use Rattle.lists.proofs.Choice.{pick_true, pick-false}
use Rattle.scram.specs.Events as Events
use Rattle.replica.specs.Settings.{law_of}
use Rattle.replica.specs.Held.{held_in}
use Rattle.replica.proofs.moves.next_estimate.Goals as goal

pub returns-then-held-eq0 : goal.returns-then-held-eq0
returns-then-held-eq0 c =
    λ law e.
    let s = c.args in
    let state : s.held.estimate.state ≡ Events.next_state (law_of law) (held_in s.held) = sym (pick_true _ _ _ (eq-eqb _ 0 c.if-held-eq0.true)) in
    λ i. record { state = state i; readings = s.taken }

pub returns-else-held-eq0 : goal.returns-else-held-eq0
returns-else-held-eq0 c =
    λ law e.
    let s = c.args in
    let state : s.updated ≡ Events.next_state (law_of law) (held_in s.held) = e ∙ sym (pick-false _ _ _ (ne_eqb _ 0 c.if-held-eq0.false)) in
    λ i. record { state = state i; readings = s.taken }
