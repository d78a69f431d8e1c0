-- `transmitters::convert_row` meets its contract. Assumes nothing.
use Rattle.std.proofs.Common.{rules, ◌≡◌, pos, map, None, is_some, unwrap_or}
use Rattle.transmitters.specs.declared.Reading.TheVariants.{Missing}
use Rattle.transmitters.specs.Conversion.{converted}
use Rattle.transmitters.proofs.Rows.{mapped, row-of}
use Rattle.transmitters.proofs.convert_row.Goals as goal

pub returns : goal.returns
returns c =
    let y = c.args.y in
    let counts = c.map-counts in
    let converts : counts.result ≡ map converted y = mapped _ converted _ y counts.result 4 Missing (search rules) counts.ensures.items (λ p x r q k. k.met) in
    let marks : c.map.result ≡ map is_some counts.result = mapped _ is_some _ counts.result c.map.result 4 None counts.ensures.items.long c.map.ensures.items (λ p x r q k. search rules) in
    let values : c.map-2.result ≡ map (λ x. unwrap_or x (pos 0)) counts.result =
    mapped _ (λ x. unwrap_or x (pos 0)) _ counts.result c.map-2.result 4 None counts.ensures.items.long c.map-2.ensures.items (λ p x r q k. search rules) in
    row-of y counts.result c.map.result c.map-2.result converts marks values
