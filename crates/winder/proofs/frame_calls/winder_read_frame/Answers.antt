-- `winder_read_frame` meets its contract. Assumes nothing.
use mathlib.Core.Path.{sym, ap, ◌∙◌}
use Rattle.frame.specs.declared.Frame.{Frame}
use Rattle.winder.specs.FrameAreas.{kind_and_sender_of, counters_of, marks_of}
use Rattle.refusal.proofs.Numbers.{number-not-0}
use Rattle.winder.proofs.Refused.{done, refused}
use Rattle.winder.proofs.frame_calls.winder_read_frame.Goals as goal

pub returns-in-Ok-clause-kind_and_sender : goal.returns-in-Ok-clause-kind_and_sender
returns-in-Ok-clause-kind_and_sender c = ap kind_and_sender_of c.in-Ok.ensures.frame ∙ done _ _ _ (sym c.in-Ok.ensures.answer)

pub returns-in-Ok-clause-counters : goal.returns-in-Ok-clause-counters
returns-in-Ok-clause-counters c = ap counters_of c.in-Ok.ensures.frame ∙ done _ _ _ (sym c.in-Ok.ensures.answer)

pub returns-in-Ok-clause-state : goal.returns-in-Ok-clause-state
returns-in-Ok-clause-state c = ap (λ (f : Frame). f.estimate.state) c.in-Ok.ensures.frame ∙ done _ _ _ (sym c.in-Ok.ensures.answer)

pub returns-in-Ok-clause-present : goal.returns-in-Ok-clause-present
returns-in-Ok-clause-present c = c.marks_of.ensures ∙ ap (λ (f : Frame). marks_of f.estimate.readings) c.in-Ok.ensures.frame ∙ done _ _ _ (sym c.in-Ok.ensures.answer)

pub returns-in-Ok-clause-values : goal.returns-in-Ok-clause-values
returns-in-Ok-clause-values c = ap (λ (f : Frame). f.estimate.readings.values) c.in-Ok.ensures.frame ∙ done _ _ _ (sym c.in-Ok.ensures.answer)

pub returns-in-Err-clause-kind_and_sender : goal.returns-in-Err-clause-kind_and_sender
returns-in-Err-clause-kind_and_sender c = refused _ _ _ (λ h. number-not-0 c.in-Err.refusal (c.in-Err.ensures.answer ∙ h))

pub returns-in-Err-clause-counters : goal.returns-in-Err-clause-counters
returns-in-Err-clause-counters c = refused _ _ _ (λ h. number-not-0 c.in-Err.refusal (c.in-Err.ensures.answer ∙ h))

pub returns-in-Err-clause-state : goal.returns-in-Err-clause-state
returns-in-Err-clause-state c = refused _ _ _ (λ h. number-not-0 c.in-Err.refusal (c.in-Err.ensures.answer ∙ h))

pub returns-in-Err-clause-present : goal.returns-in-Err-clause-present
returns-in-Err-clause-present c = refused _ _ _ (λ h. number-not-0 c.in-Err.refusal (c.in-Err.ensures.answer ∙ h))

pub returns-in-Err-clause-values : goal.returns-in-Err-clause-values
returns-in-Err-clause-values c = refused _ _ _ (λ h. number-not-0 c.in-Err.refusal (c.in-Err.ensures.answer ∙ h))
