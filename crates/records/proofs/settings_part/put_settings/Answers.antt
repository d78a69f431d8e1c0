-- `records::settings_part::put_settings` meets its contract: the head, and the tables after it. Assumes nothing.
use mathlib.Core.Path.{◌≡◌}
use native.Mathlib.Omega.{arith}
use borrow.Author.Rules.{rules}
use lib.ListN.{length}
use Rattle.octets.proofs.Areas.{then-put}
use Rattle.records.specs.SettingsPart.{head_bytes, tables_bytes, settings_bytes}
use Rattle.records.proofs.PartLengths.{length-head, length-tables}
use Rattle.records.proofs.settings_part.put_settings.Goals as goal

pub returns : goal.returns
unfolding settings_bytes
returns c =
    let tables-length : length (tables_bytes c.args.settings.law) ≡ 488 =
    length-tables c.args.settings.law (record {
      a = search rules;
      l = search rules;
      c = search rules;
      k = search rules;
      low = search rules;
      high = search rules;
      start = search rules;
    }) in
    let g = c.args.settings in
    then-put c.args.area.now _ _ 0 8 (head_bytes g) (tables_bytes g.law) c.put_head.ensures c.put_tables.ensures
    (omega (arith, length-head g))
    (omega (arith, tables-length, c.requires.0))
