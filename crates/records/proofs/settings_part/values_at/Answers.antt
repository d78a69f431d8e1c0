-- `records::settings_part::values_at` meets its contract: the part that is lent is the one that the definition reads. Assumes nothing.
use Rattle.std.proofs.Common.{refl, ap, ◌∙◌, ◌*◌, ℕ, List, pos}
use lib.ListN.{length-replicate}
use Rattle.lists.specs.Places.{filled}
use Rattle.octets.specs.Words.{value_at}
use Rattle.octets.proofs.Areas.{part_of}
use Rattle.records.specs.SettingsPart.{values_at}
use Rattle.records.proofs.settings_part.values_at.Goals as goal

pub returns : goal.returns
unfolding values_at
returns g c =
    let s = c.args in
    let n = g.row.N in
    c.read_values.ensures ∙ simp length-replicate (ap (λ (p : List ℕ). filled (pos 0) n n (value_at p)) (part_of s.bytes.now s.at (4 * n) _ _ refl refl))
