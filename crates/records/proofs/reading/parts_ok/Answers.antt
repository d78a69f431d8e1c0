use Rattle.std.proofs.Common.{sym, ◌∙◌}
use Rattle.law.proofs.Laws.{sizes-accepted}
use Rattle.replica.proofs.Accepted.{accepted}
use Rattle.records.proofs.Results.{ok-number}
use Rattle.records.proofs.reading.parts_ok.Goals as goal

pub held_ok-requires : goal.held_ok-requires
held_ok-requires c =
    let stands = sym c.check_settings.ensures ∙ ok-number _ (sym c.is_ok.ensures.value ∙ c.if-is_ok.true) in
    let z = sizes-accepted _ (accepted c.args.settings.now stands).law in
    (c.requires, z.m1, z.m4)
