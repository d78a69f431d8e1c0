-- `winder_make` meets its contract. Assumes nothing.
use Rattle.std.proofs.Common.{◌≡◌, sym, ap, ◌∙◌, length}
use Rattle.octets.specs.Areas.{over}
use Rattle.refusal.specs.Numbers.{number}
use Rattle.scram.specs.Answers.{Done, Refused}
use Rattle.replica.specs.declared.Settings.{Settings}
use Rattle.replica.specs.declared.Replica.{Replica}
use Rattle.replica.specs.Calls.{made_answer, made, fresh_of}
use Rattle.records.specs.Recording.{record_answer, recorded}
use Rattle.records.specs.Reading.{is_done}
use Rattle.winder.specs.Answers.{number_of}
use Rattle.winder.specs.ReplicaAreas.{settings_of}
use Rattle.winder.proofs.Made.{made_none, made-fresh}
use Rattle.winder.proofs.replica_calls.winder_make.Goals as goal

pub returns-in-Err : goal.returns-in-Err
returns-in-Err c =
    let a = c.args in
    let given : Settings =
    settings_of a.n a.m a.p a.a.now a.l.now a.c.now a.k.now a.low.now a.high.now a.start.now a.boxes a.own a.to_decide a.to_propose in
    let e : Refused (number c.in-Err.refusal) ≡ made_answer given = c.in-Err.ensures.answer ∙ ap made_answer c.settings_of-settings.ensures in
    let r = made_none given a.replica.now (ap is_done (sym e)) in
    record { answer = c.refusal_number.ensures ∙ ap number_of (e ∙ r.0); replica = r.1 }

pub returns-in-Ok : goal.returns-in-Ok
returns-in-Ok c =
    let a = c.args in
    let given : Settings =
    settings_of a.n a.m a.p a.a.now a.l.now a.c.now a.k.now a.low.now a.high.now a.start.now a.boxes a.own a.to_decide a.to_propose in
    let e : Done ≡ made_answer given = c.in-Ok.ensures.answer ∙ ap made_answer c.settings_of-settings.ensures in
    let fresh : c.in-Ok.fresh ≡ fresh_of given =
    c.in-Ok.ensures.replica ∙ ap made c.settings_of-settings.ensures ∙ made-fresh _ (ap is_done (sym e)) in
    let area = a.replica.now in
    let w = c.write.ensures in
    record {
      answer = c.result_number.ensures ∙ ap number_of (w.answer ∙ ap (λ (r : Replica). record_answer r.settings (length area)) fresh);
      replica = w.area ∙ ap (λ (r : Replica). over (recorded r (length area)) area) fresh;
    }
