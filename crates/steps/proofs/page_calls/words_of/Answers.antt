-- `page_calls::words_of` meets its contract. Assumes nothing.
use Rattle.std.proofs.Common.{◌≡◌, ap, ◌∙◌, List, [], ◌∷◌, rules}
use Rattle.std.specs.Prelude.{ℤ}
use mir.Syntax.{w32}
use mir.ValLaws.{to_z-of_z}
use Rattle.lists.specs.Places.{entry}
use Rattle.octets.specs.Words.{twos_complement}
use Rattle.estimate.specs.Marks.{bit}
use Rattle.records.proofs.Heard.{bit-from}
use Rattle.pages.specs.Entries.{decided}
use Rattle.steps.specs.Pages.{words_of}
use Rattle.steps.proofs.page_calls.words_of.Goals as goal

pub returns : goal.returns
unfolding words_of
returns c =
    let e = c.args.entry in
    let v : List ℤ = c.values-command.result in
    let w₀ = c.bits.ensures ∙ ap twos_complement (to_z-of_z w32 (entry v 0) (record { sfits = search rules })) ∙ ap (λ (l : List ℤ). twos_complement (entry l 0)) c.values-command.ensures in
    let w₁ = c.bits-2.ensures ∙ ap twos_complement (to_z-of_z w32 (entry v 1) (record { sfits = search rules })) ∙ ap (λ (l : List ℤ). twos_complement (entry l 1)) c.values-command.ensures in
    let w₂ = c.bits-3.ensures ∙ ap twos_complement (to_z-of_z w32 (entry v 2) (record { sfits = search rules })) ∙ ap (λ (l : List ℤ). twos_complement (entry l 2)) c.values-command.ensures in
    let w₃ = c.bits-4.ensures ∙ ap twos_complement (to_z-of_z w32 (entry v 3) (record { sfits = search rules })) ∙ ap (λ (l : List ℤ). twos_complement (entry l 3)) c.values-command.ensures in
    let m : c.from.result ≡ bit (decided e) = c.from.ensures ∙ bit-from _ ∙ ap bit c.is_some.ensures in
    λ i. e.period ∷ e.view ∷ m i ∷ w₀ i ∷ w₁ i ∷ w₂ i ∷ w₃ i ∷ []
