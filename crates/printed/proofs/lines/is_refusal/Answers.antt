-- `lines::is_refusal` meets its contract. Assumes nothing.
use mathlib.Core.Path.{ap, sym, ◌∙◌}
use Rattle.std.proofs.lemmas.Option.{MatchOption-at_some, MatchOption-at_none}
use Rattle.printed.specs.Lines.{is_refusal_number}
use Rattle.printed.proofs.LineLaws.{refusal-other, refusal-number}
use Rattle.printed.proofs.lines.is_refusal.Goals as goal

pub returns-in-Some : goal.returns-in-Some
returns-in-Some c =
    let found = MatchOption-at_some _ _ _ c.in-Some.is c.strip_prefix.ensures.cases in
    c.is_refusal_number.ensures ∙ ap is_refusal_number found.1 ∙ sym (refusal-number c.args.bytes.now found.0)

pub returns-in-None : goal.returns-in-None
returns-in-None c =
    let none = MatchOption-at_none _ _ c.in-None.is c.strip_prefix.ensures.cases in
    sym (refusal-other c.args.bytes.now none)
