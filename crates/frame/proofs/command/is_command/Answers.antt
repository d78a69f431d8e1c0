-- `frame::command::is_command` meets its contract: each test of the code is a test of the definition, in their order. Assumes nothing.
use Rattle.std.proofs.Common.{◌≡◌, ◌∙◌, refl, ap, ◌&&◌, length, get_or, eqb, leb}
use borrow.Author.Tests.{eq-eqb, ne_eqb}
use Rattle.frame.specs.CommandReading.{is_command}
use Rattle.frame.proofs.Conditions.{and_then, and_else, chain_of_five}
use Rattle.frame.proofs.command.is_command.Goals as goal
use Rattle.frame.proofs.command.is_command.Goals.{then-bytes-command_length, else-bytes-command_length, then-bytes-eq5, else-bytes-eq5, then-from-p, else-from-p}

pub returns-then-bytes-le-MOST_MARK : goal.returns-then-bytes-le-MOST_MARK
unfolding is_command
returns-then-bytes-le-MOST_MARK c =
    let b = c.args.bytes.now in
    let p = c.args.p in
    let size = c.command_length.result in
    let one : c.if-bytes-command_length.value ≡ eqb (length b) size && eqb (get_or b 0 0) 5 =
    elim c.if-bytes-command_length.branch [
      | then-bytes-command_length w ↦ and_then (eqb (length b) size) (eqb (get_or b 0 0) 5) _ (eq-eqb _ _ w.if-bytes-command_length.true) w.value-is
      | else-bytes-command_length w ↦ and_else (eqb (length b) size) (eqb (get_or b 0 0) 5) _ (ne_eqb _ _ w.if-bytes-command_length.false) w.value-is
    ] in
    let two : c.if-bytes-eq5.value ≡ c.if-bytes-command_length.value && eqb (get_or b 1 0) p =
    elim c.if-bytes-eq5.branch [
      | then-bytes-eq5 w ↦ and_then c.if-bytes-command_length.value (eqb (get_or b 1 0) p) _ w.if-bytes-eq5.true (w.value-is ∙ ap (λ k. eqb k p) w.from.ensures)
      | else-bytes-eq5 w ↦ and_else c.if-bytes-command_length.value (eqb (get_or b 1 0) p) _ w.if-bytes-eq5.false w.value-is
    ] in
    let three : c.if-from-p.value ≡ c.if-bytes-eq5.value && leb (get_or b 2 0) 1 =
    elim c.if-from-p.branch [
      | then-from-p w ↦ and_then c.if-bytes-eq5.value (leb (get_or b 2 0) 1) _ w.if-from-p.true w.value-is
      | else-from-p w ↦ and_else c.if-bytes-eq5.value (leb (get_or b 2 0) 1) _ w.if-from-p.false w.value-is
    ] in
    chain_of_five (eqb (length b) size) (eqb (get_or b 0 0) 5) (eqb (get_or b 1 0) p) (leb (get_or b 2 0) 1) (eqb (get_or b 3 0) 0) _ _ _ _ one two three
    (and_then c.if-from-p.value (eqb (get_or b 3 0) 0) _ c.if-bytes-le-MOST_MARK.true refl)
    ∙ rw c.command_length.ensures

pub returns-else-bytes-le-MOST_MARK : goal.returns-else-bytes-le-MOST_MARK
unfolding is_command
returns-else-bytes-le-MOST_MARK c =
    let b = c.args.bytes.now in
    let p = c.args.p in
    let size = c.command_length.result in
    let one : c.if-bytes-command_length.value ≡ eqb (length b) size && eqb (get_or b 0 0) 5 =
    elim c.if-bytes-command_length.branch [
      | then-bytes-command_length w ↦ and_then (eqb (length b) size) (eqb (get_or b 0 0) 5) _ (eq-eqb _ _ w.if-bytes-command_length.true) w.value-is
      | else-bytes-command_length w ↦ and_else (eqb (length b) size) (eqb (get_or b 0 0) 5) _ (ne_eqb _ _ w.if-bytes-command_length.false) w.value-is
    ] in
    let two : c.if-bytes-eq5.value ≡ c.if-bytes-command_length.value && eqb (get_or b 1 0) p =
    elim c.if-bytes-eq5.branch [
      | then-bytes-eq5 w ↦ and_then c.if-bytes-command_length.value (eqb (get_or b 1 0) p) _ w.if-bytes-eq5.true (w.value-is ∙ ap (λ k. eqb k p) w.from.ensures)
      | else-bytes-eq5 w ↦ and_else c.if-bytes-command_length.value (eqb (get_or b 1 0) p) _ w.if-bytes-eq5.false w.value-is
    ] in
    let three : c.if-from-p.value ≡ c.if-bytes-eq5.value && leb (get_or b 2 0) 1 =
    elim c.if-from-p.branch [
      | then-from-p w ↦ and_then c.if-bytes-eq5.value (leb (get_or b 2 0) 1) _ w.if-from-p.true w.value-is
      | else-from-p w ↦ and_else c.if-bytes-eq5.value (leb (get_or b 2 0) 1) _ w.if-from-p.false w.value-is
    ] in
    chain_of_five (eqb (length b) size) (eqb (get_or b 0 0) 5) (eqb (get_or b 1 0) p) (leb (get_or b 2 0) 1) (eqb (get_or b 3 0) 0) _ _ _ _ one two three
    (and_else c.if-from-p.value (eqb (get_or b 3 0) 0) _ c.if-bytes-le-MOST_MARK.false refl)
    ∙ rw c.command_length.ensures
