-- `records::settings_part::put_head` meets its contract: twice four bytes, one after the other. Assumes nothing.
use mathlib.Core.Path.{refl}
use mathlib.Core.List.{[], ◌∷◌}
use Rattle.octets.proofs.Areas.{then-put}
use Rattle.records.specs.SettingsPart.{letter, version, quorums_byte, head_bytes}
use Rattle.records.proofs.settings_part.put_head.Goals as goal

pub returns : goal.returns
unfolding head_bytes
returns c =
    let g = c.args.settings in
    then-put c.args.area.now _ _ 0 4 (letter ∷ version ∷ g.boxes ∷ g.own ∷ []) (g.law.n ∷ g.law.m ∷ g.law.p ∷ quorums_byte g.quorums ∷ [])
    c.put_bytes.ensures
    (rw c.quorums_byte-quorums.ensures at c.put_bytes-2.ensures)
    refl
    c.requires.0
