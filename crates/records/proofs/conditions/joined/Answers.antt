-- `records::conditions::joined` meets its contract. Assumes nothing.
use Rattle.std.proofs.Common.{rules, ◌≡◌, ◌^◌, ap, ◌∙◌, bit_or, ltb}
use Rattle.std.specs.List.{fold}
use Rattle.octets.specs.Words.{part}
use Rattle.records.proofs.Joined.{part-below}
use Rattle.records.proofs.conditions.joined.Goals as goal

pub returns : goal.returns
returns c =
    let s = c.args in
    let bits : c.fold.result ≡ fold bit_or 0 (part s.bytes.now s.at s.count) = search rules in
    λ k. ap (λ b. ltb b (2 ^ k)) bits ∙ part-below k s.bytes.now s.at s.count c.requires
