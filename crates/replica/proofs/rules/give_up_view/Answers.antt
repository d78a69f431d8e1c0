-- `give_up_view` meets its contract. Assumes nothing.
use Rattle.std.proofs.Common.{sym, ◌∙◌, le-leb, arith}
use Rattle.std.proofs.lemmas.Bool.{lt-leb}
use Rattle.refusal.specs.declared.Refusal.TheVariants.{LastView}
use Rattle.scram.specs.Events.{give_up}
use Rattle.replica.proofs.Gives.{says-refused, says-ignored, says-true, says-false}
use Rattle.replica.proofs.rules.give_up_view.Goals as goal
use Rattle.replica.proofs.rules.give_up_view.Goals.{then-idle-via-then-idle, then-idle-via-else-idle+then-normal_coordinator}

pub returns-then-idle : goal.returns-then-idle
unfolding give_up
returns-then-idle c =
    λ law.
    elim c.then-idle.branch [
      | then-idle-via-then-idle w ↦ says-true _ _ (sym c.idle.ensures ∙ w.if-idle.true) (rw c.ignored.ensures (says-ignored _ _ _ _))
      | then-idle-via-else-idle+then-normal_coordinator w ↦ says-false _ _ (sym c.idle.ensures ∙ w.if-idle.false)
          (says-true _ _ (sym w.normal_coordinator.ensures ∙ w.if-normal_coordinator.true) (rw c.ignored.ensures (says-ignored _ _ _ _)))
    ]

pub returns-then-held-eq4294967295 : goal.returns-then-held-eq4294967295
unfolding give_up
returns-then-held-eq4294967295 c =
    λ law.
    says-false _ _ (sym c.idle.ensures ∙ c.if-idle.false)
    (says-false _ _ (sym c.normal_coordinator.ensures ∙ c.if-normal_coordinator.false)
    (says-true _ _ (le-leb 4294967295 c.args.held.view (omega arith)) (rw c.refused_rule.ensures (says-refused _ _ _ _ LastView))))

pub returns : goal.returns
unfolding give_up
returns c =
    λ law.
    says-false _ _ (sym
    c.idle.ensures ∙ c.if-idle.false)
    (says-false _ _ (sym
    c.normal_coordinator.ensures ∙ c.if-normal_coordinator.false)
    (says-false _ _ (lt-leb 4294967295 c.args.held.view (omega arith)) (c.raise.ensures law)))
