-- `winder_tick` meets its contract. Assumes nothing.
use Rattle.std.proofs.Common.{◌≡◌, sym, ap, ◌∙◌, true, length, arith, rules}
use Rattle.octets.specs.Words.{AllBytes}
use Rattle.transmitters.specs.Conversion.{converted_row}
use Rattle.replica.specs.declared.Replica.{Replica}
use Rattle.replica.specs.Calls.{tick_outcome}
use Rattle.records.specs.Lengths.{record_length}
use Rattle.records.specs.Reading.{layout_ok, is_record}
use Rattle.records.proofs.IsRecord.{layout-length, no-layout}
use Rattle.winder.proofs.Stepped.{
  refused-record,
  refused-areas,
  parts-read,
  Stands,
  stands,
  stands-settings,
  stands-length,
  stands-room,
  tick-stepped,
}
use Rattle.winder.proofs.replica_calls.winder_tick.Goals as goal

pub returns-then-not-layout_ok : goal.returns-then-not-layout_ok
returns-then-not-layout_ok c =
    let a = c.args in
    refused-record a.replica.now a.frame.now a.command.now _ c.refusal_number.ensures
    (no-layout _ (sym c.layout_ok.ensures ∙ c.if-not-layout_ok.true))

pub settings_in-settings-requires : goal.settings_in-settings-requires
settings_in-settings-requires c = layout-length _ (sym c.layout_ok.ensures ∙ c.if-not-layout_ok.false)

pub parts_ok-requires : goal.parts_ok-requires
parts_ok-requires c = layout-length _ (sym c.layout_ok.ensures ∙ c.if-not-layout_ok.false)

pub returns-then-not-parts_ok : goal.returns-then-not-parts_ok
returns-then-not-parts_ok c =
    let laid_out : layout_ok c.args.replica.now ≡ true = sym c.layout_ok.ensures ∙ c.if-not-layout_ok.false in
    let recorded : c.parts_ok.result ≡ is_record c.args.replica.now = parts-read _ c.settings_in-settings.ensures laid_out c.parts_ok.ensures in
    let a = c.args in
    refused-record a.replica.now a.frame.now a.command.now _ c.refusal_number-then-not-parts_ok.ensures (sym recorded ∙ c.if-not-parts_ok.true)

pub returns-then-short_area : goal.returns-then-short_area
unfolding tick_outcome
returns-then-short_area c =
    let laid_out : layout_ok c.args.replica.now ≡ true = sym c.layout_ok.ensures ∙ c.if-not-layout_ok.false in
    let recorded : c.parts_ok.result ≡ is_record c.args.replica.now = parts-read _ c.settings_in-settings.ensures laid_out c.parts_ok.ensures in
    let a = c.args in
    refused-areas a.replica.now a.frame.now a.command.now _ c.refusal_number-then-short_area.ensures (sym recorded ∙ c.if-not-parts_ok.false)
    (sym c.short_area.ensures ∙ c.if-short_area.true)

pub held_at-held-requires : goal.held_at-held-requires
held_at-held-requires c =
    let long : length c.args.replica.now ≡ record_length = layout-length _ (sym c.layout_ok.ensures ∙ c.if-not-layout_ok.false) in
    omega (arith, long)

pub tick-given-requires : goal.tick-given-requires
tick-given-requires c =
    let laid_out : layout_ok c.args.replica.now ≡ true = sym c.layout_ok.ensures ∙ c.if-not-layout_ok.false in
    let recorded : c.parts_ok.result ≡ is_record c.args.replica.now = parts-read _ c.settings_in-settings.ensures laid_out c.parts_ok.ensures in
    let found : Replica = record { settings = c.settings_in-settings.result; held = c.held_at-held.result } in
    let stand : Stands c.args.replica.now found c.args.frame.now c.args.command.now =
    stands _ c.settings_in-settings.ensures (sym recorded ∙ c.if-not-parts_ok.false) c.held_at-held.ensures (sym c.short_area.ensures ∙ c.if-short_area.false) in
    (stands-settings stand, (stands-room stand).frame-room)

pub leave-requires : goal.leave-requires
leave-requires c =
    let laid_out : layout_ok c.args.replica.now ≡ true = sym c.layout_ok.ensures ∙ c.if-not-layout_ok.false in
    let recorded : c.parts_ok.result ≡ is_record c.args.replica.now = parts-read _ c.settings_in-settings.ensures laid_out c.parts_ok.ensures in
    let found : Replica = record { settings = c.settings_in-settings.result; held = c.held_at-held.result } in
    let stand : Stands c.args.replica.now found c.args.frame.now c.args.command.now =
    stands _ c.settings_in-settings.ensures (sym recorded ∙ c.if-not-parts_ok.false) c.held_at-held.ensures (sym c.short_area.ensures ∙ c.if-short_area.false) in
    stands-length stand

pub returns : goal.returns
unfolding AllBytes
returns c =
    let laid_out : layout_ok c.args.replica.now ≡ true = sym c.layout_ok.ensures ∙ c.if-not-layout_ok.false in
    let recorded : c.parts_ok.result ≡ is_record c.args.replica.now = parts-read _ c.settings_in-settings.ensures laid_out c.parts_ok.ensures in
    let found : Replica = record { settings = c.settings_in-settings.result; held = c.held_at-held.result } in
    let stand : Stands c.args.replica.now found c.args.frame.now c.args.command.now =
    stands _ c.settings_in-settings.ensures (sym recorded ∙ c.if-not-parts_ok.false) c.held_at-held.ensures (sym c.short_area.ensures ∙ c.if-short_area.false) in
    let bytes : AllBytes c.args.replica.now = search rules in
    let l = c.leave.ensures in
    let y = c.convert_row-converted.ensures ∙ ap converted_row c.readings_of.ensures in
    tick-stepped stand bytes l.answer l.replica l.lengths y (c.tick-given.ensures c.args.command.now)
