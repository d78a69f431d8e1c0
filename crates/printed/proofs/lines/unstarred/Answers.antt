-- `lines::unstarred` meets its contract. Assumes nothing.
use mathlib.Core.Path.{sym, ◌∙◌}
use Rattle.std.proofs.lemmas.Option.{MatchOption-at_some, MatchOption-at_none}
use Rattle.printed.proofs.LineLaws.{star-out, no-star}
use Rattle.printed.proofs.lines.unstarred.Goals as goal

pub returns-in-Some : goal.returns-in-Some
returns-in-Some c =
    let found = MatchOption-at_some _ _ _ c.in-Some.is c.strip_suffix.ensures.cases in
    found.1 ∙ sym (star-out c.args.bytes.now found.0)

pub returns-in-None : goal.returns-in-None
returns-in-None c =
    let none = MatchOption-at_none _ _ c.in-None.is c.strip_suffix.ensures.cases in
    sym (no-star c.args.bytes.now none)
