-- `records::recording::write` meets its contract: the two parts are put one after the other, at the start of the area. Assumes nothing.
use Rattle.std.proofs.Common.{◌≡◌, sym, ap, ◌∙◌, ℕ, List, length, arith, rules}
use mir.Val.{Val}
use denote.Shadow.{shadow}
use Rattle.octets.specs.Areas.{put, over}
use Rattle.octets.proofs.Areas.{then-put, put_front}
use Rattle.refusal.specs.Numbers.{number}
use Rattle.refusal.proofs.Numbers.{number-not-0}
use Rattle.scram.specs.Answers.{Refused, answered_of}
use Rattle.law.specs.declared.Settings as Law
use Rattle.law.specs.contracts.Settings.{the_type, the_field}
use Rattle.law.proofs.Laws.{sizes-accepted}
use Rattle.law.proofs.Accepted.{Sizes}
use Rattle.quorums.proofs.Stand.{stand}
use Rattle.replica.proofs.Accepted.{accepted}
use Rattle.records.specs.SettingsPart.{settings_bytes}
use Rattle.records.specs.HeldPart.{held_bytes}
use Rattle.records.specs.Recording.{recorded_held, record_bytes}
use Rattle.records.proofs.PartLengths.{TypedTables, length-settings, length-recorded}
use Rattle.records.proofs.Recorded.{Ready, ready, record-refused, record-done}
use Rattle.records.proofs.recording.write.Goals as goal

-- what owning the law's settings tells of their tables
owned : (law : Law.Settings) (vs : List Val) → shadow (the_field.row.own_val (the_type.to law) vs) → TypedTables law
owned law vs g = record {
  a = search rules;
  l = search rules;
  c = search rules;
  k = search rules;
  low = search rules;
  high = search rules;
  start = search rules;
}

pub returns-in_err-check_recording-clause-answer : goal.returns-in_err-check_recording-clause-answer
returns-in_err-check_recording-clause-answer c =
    let s = c.args in
    let e = c.in_err-check_recording.ensures in
    let a : answered_of c.from_residual.result ≡ Refused (number c.in_err-check_recording.field-0.0) = search rules in
    a ∙ ap Refused e ∙ sym (record-refused s.replica (length s.area.now) (λ z. number-not-0 _ (e ∙ z))).0

pub returns-in_err-check_recording-clause-area : goal.returns-in_err-check_recording-clause-area
returns-in_err-check_recording-clause-area c =
    let s = c.args in
    let r = record-refused s.replica (length s.area.now) (λ z. number-not-0 _ (c.in_err-check_recording.ensures ∙ z)) in
    sym (ap (λ (w : List ℕ). over w s.area.now) r.1)

pub put_settings-requires : goal.put_settings-requires
put_settings-requires c =
    let left : Ready c.args.replica.settings (length c.args.area.now) = ready _ _ (sym c.in_ok-check_recording.ensures) in
    let sizes : let law = c.args.replica.settings.law in Sizes law.n law.m law.p = sizes-accepted _ (accepted _ left.settings).law in
    let a = accepted _ left.settings in
    let few = a.group.N9 in
    let s = stand _ _ a.quorums in
    let room = left.room in
    let decide = s.a_n in
    let propose = s.b_n in
    (omega arith, omega arith, omega arith, omega arith, omega arith)

pub recorded_held-held-requires : goal.recorded_held-held-requires
recorded_held-held-requires c =
    let left : Ready c.args.replica.settings (length c.args.area.now) = ready _ _ (sym c.in_ok-check_recording.ensures) in
    (sizes-accepted _ (accepted _ left.settings).law).n6

pub put_held-requires : goal.put_held-requires
put_held-requires c =
    let left : Ready c.args.replica.settings (length c.args.area.now) = ready _ _ (sym c.in_ok-check_recording.ensures) in
    let room = left.room in omega arith

pub returns : goal.returns
unfolding record_bytes
returns c =
    let tables : TypedTables c.args.replica.settings.law = owned c.args.replica.settings.law _ c.well_formed.0.1.1.0.1.1.1.1.1.0 in
    let ten : length c.args.replica.held.heard ≡ 10 = search rules in
    let pass = sym c.in_ok-check_recording.ensures in
    let left : Ready c.args.replica.settings (length c.args.area.now) = ready _ _ pass in
    let r = c.args.replica in
    let l = c.args.area.now in
    let d = record-done r (length l) pass in
    let first = length-settings r.settings tables in
    let second = length-recorded r.settings.law.n r.settings.law.m r.held ten in
    let room = left.room in record {
      answer = sym d.0;
      area = then-put l _ _ 0 496 (settings_bytes r.settings) (held_bytes (recorded_held r.settings.law.n r.settings.law.m r.held))
          c.put_settings.ensures
          (c.put_held.ensures ∙ ap (put _ 496) (ap held_bytes c.recorded_held-held.ensures))
          (omega arith) (omega arith)
          ∙ put_front l _
          ∙ sym (ap (λ (w : List ℕ). over w l) d.1);
    }
