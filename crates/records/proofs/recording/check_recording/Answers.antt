use Rattle.std.proofs.Common.{◌≡◌, sym, ◌∙◌, rules}
use borrow.Author.Tests.{lt-ltb, le-ltb}
use Rattle.refusal.specs.Numbers.{number_of}
use Rattle.refusal.proofs.Numbers.{number-not-0}
use Rattle.replica.specs.Settings.{settings_refusal}
use Rattle.records.proofs.Recorded.{refused-settings, refused-short, not-refused}
use Rattle.records.proofs.recording.check_recording.Goals as goal

pub returns-in_err-check_settings : goal.returns-in_err-check_settings
returns-in_err-check_settings c =
    let s = c.args in
    let e : number_of c.from_residual.result ≡ settings_refusal s.settings.now = search rules in
    e ∙ refused-settings s.settings.now s.area (λ z. number-not-0 _ (c.in_err-check_settings.ensures ∙ z))

pub returns-then-area-lt-RECORD : goal.returns-then-area-lt-RECORD
returns-then-area-lt-RECORD c =
    let s = c.args in refused-short s.settings.now s.area (sym c.in_ok-check_settings.ensures) (lt-ltb _ _ c.if-area-lt-RECORD.true)

pub returns : goal.returns
returns c =
    let s = c.args in not-refused s.settings.now s.area (sym c.in_ok-check_settings.ensures) (le-ltb _ _ c.if-area-lt-RECORD.false)
