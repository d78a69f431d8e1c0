-- `entries::command_at` meets its contract. Assumes nothing.
use mathlib.Core.Path.{◌∙◌}
use mir.Syntax.{w32}
use mir.ValLaws.{to_z-of_z}
use Rattle.pages.proofs.WordLaws.{no_command, command-words}
use Rattle.pages.proofs.entries.command_at.Goals as goal

pub returns-then-words-at-eq0 : goal.returns-then-words-at-eq0
returns-then-words-at-eq0 c = no_command c.args.words.now c.args.at c.if-words-at-eq0.true

pub returns : goal.returns
returns c =
    let a = c.args in
    let b₁ = c.signed in
    let b₂ = c.signed-2 in
    let b₃ = c.signed-3 in
    let b₄ = c.signed-4 in
    command-words a.words.now a.at _ _ _ _ c.if-words-at-eq0.false
    (to_z-of_z w32 b₁.result (record { sfits = b₁.type_inv }) ∙ b₁.ensures)
    (to_z-of_z w32 b₂.result (record { sfits = b₂.type_inv }) ∙ b₂.ensures)
    (to_z-of_z w32 b₃.result (record { sfits = b₃.type_inv }) ∙ b₃.ensures)
    (to_z-of_z w32 b₄.result (record { sfits = b₄.type_inv }) ∙ b₄.ensures)
