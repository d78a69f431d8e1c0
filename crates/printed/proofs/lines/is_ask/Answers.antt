-- `lines::is_ask` meets its contract. Assumes nothing.
use mathlib.Core.Path.{◌≡◌, sym, ap, ◌∙◌}
use mathlib.Core.Bool.{true}
use lib.Dec.{eqb}
use borrow.Author.Tests.{eq-eqb, ne_eqb}
use Rattle.line.specs.Fields.{spaces}
use Rattle.line.specs.Tickets.{ticket_of, is_ticket}
use Rattle.printed.specs.Lines.{is_ask}
use Rattle.printed.proofs.lines.is_ask.Goals as goal

pub returns-then-count_spaces-ne10 : goal.returns-then-count_spaces-ne10
unfolding is_ask
returns-then-count_spaces-ne10 c = rw (ne_eqb _ _ (λ e. c.if-count_spaces-ne10.true (c.count_spaces.ensures ∙ e)))

pub returns-then-not-ten_ok : goal.returns-then-not-ten_ok
unfolding is_ask
returns-then-not-ten_ok c =
    let fields : eqb (spaces c.args.line.now) 10 ≡ true = eq-eqb _ _ (sym c.count_spaces.ensures ∙ c.if-count_spaces-ne10.false) in
    rw (fields, sym c.ten_ok.ensures ∙ c.if-not-ten_ok.true)

pub returns : goal.returns
unfolding is_ask
returns c =
    let fields : eqb (spaces c.args.line.now) 10 ≡ true = eq-eqb _ _ (sym c.count_spaces.ensures ∙ c.if-count_spaces-ne10.false) in
    let t = c.ticket_in.ensures ∙ ap ticket_of c.field.ensures in
    rw (
      fields,
      sym c.ten_ok.ensures ∙ c.if-not-ten_ok.false,
    )
    (c.is_some.ensures ∙ ap is_ticket t)
