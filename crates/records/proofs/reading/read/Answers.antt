-- `records::reading::read` meets its contract: the conditions of refusal 15, one after the other. Assumes nothing.
use Rattle.std.proofs.Common.{◌≡◌, sym, ap, ◌∙◌, arith, true, length}
use mathlib.Core.Path.{ap₂}
use Rattle.replica.specs.declared.Settings.{Settings}
use Rattle.replica.specs.declared.Held.{Held}
use Rattle.records.specs.Lengths.{record_length}
use Rattle.records.specs.Reading.{layout_ok, replica_in}
use Rattle.records.proofs.IsRecord.{parts, layout-length, no-layout, parts-record, read-refused, read_done}
use Rattle.records.proofs.reading.read.Goals as goal

pub returns-then-not-layout_ok-clause-answer : goal.returns-then-not-layout_ok-clause-answer
returns-then-not-layout_ok-clause-answer c = sym (read-refused _ (no-layout _ (sym c.layout_ok.ensures ∙ c.if-not-layout_ok.true))).0

pub settings_in-settings-requires : goal.settings_in-settings-requires
settings_in-settings-requires c = layout-length _ (sym c.layout_ok.ensures ∙ c.if-not-layout_ok.false)

pub parts_ok-requires : goal.parts_ok-requires
parts_ok-requires c = layout-length _ (sym c.layout_ok.ensures ∙ c.if-not-layout_ok.false)

pub returns-then-not-parts_ok-clause-answer : goal.returns-then-not-parts_ok-clause-answer
returns-then-not-parts_ok-clause-answer c =
    let b = c.args.bytes.now in
    let laid_out : layout_ok b ≡ true = sym c.layout_ok.ensures ∙ c.if-not-layout_ok.false in
    let found = c.parts_ok.ensures ∙ ap (λ (s : Settings). parts b s) c.settings_in-settings.ensures ∙ parts-record b laid_out in
    sym (read-refused b (sym found ∙ c.if-not-parts_ok.true)).0

pub held_at-held-requires : goal.held_at-held-requires
held_at-held-requires c =
    let long : length c.args.bytes.now ≡ record_length = layout-length _ (sym c.layout_ok.ensures ∙ c.if-not-layout_ok.false) in
    omega (arith, long)

pub returns : goal.returns
unfolding replica_in
returns c =
    let b = c.args.bytes.now in
    let laid_out : layout_ok b ≡ true = sym c.layout_ok.ensures ∙ c.if-not-layout_ok.false in
    let found = c.parts_ok.ensures ∙ ap (λ (s : Settings). parts b s) c.settings_in-settings.ensures ∙ parts-record b laid_out in
    let r = read_done b (sym found ∙ c.if-not-parts_ok.false) in record {
      answer = sym r.0;
      replica = ap₂ (λ (s : Settings) (x : Held). record { settings = s; held = x }) c.settings_in-settings.ensures c.held_at-held.ensures ∙ sym r.1;
    }
