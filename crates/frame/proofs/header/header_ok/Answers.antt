-- `frame::header::header_ok` meets its contract: each test of the code is a test of the definition, and bytes too short for a header have no
-- frame's length. Assumes nothing.
use Rattle.std.proofs.Common.{◌≡◌, ◌∙◌, refl, ap, Bool, ◌&&◌, length, get_or, eqb, leb}
use borrow.Author.Tests.{le-leb, lt-leb}
use Rattle.frame.specs.Kinds.{kind_ok, part_count}
use Rattle.frame.specs.Lengths.{header_length, frame_length}
use Rattle.frame.specs.Reading.{kind_in, length_ok, part_count_ok, byte_three_ok, header_ok}
use Rattle.frame.proofs.Conditions.{and_then, and_else, chain_of_five, with_room}
use Rattle.frame.proofs.header.header_ok.Goals as goal
use Rattle.frame.proofs.header.header_ok.Goals.{then-bytes-ge-HEADER_LENGTH, else-bytes-ge-HEADER_LENGTH, then-bytes-frame_length, else-bytes-frame_length, then-kind_ok, else-kind_ok}

pub returns-then-bytes-part_count : goal.returns-then-bytes-part_count
unfolding header_ok length_ok part_count_ok byte_three_ok
returns-then-bytes-part_count c =
    let a = c.args in
    let b = a.bytes.now in
    let k = kind_in b in
    let room : Bool = leb header_length (length b) in
    let sized : Bool = eqb (length b) (frame_length a.n a.m k) in
    let counted : Bool = eqb (get_or b 2 0) (part_count k) in
    let zeroed : Bool = eqb (get_or b 3 0) 0 in
    let one : c.if-bytes-ge-HEADER_LENGTH.value ≡ room && sized =
    elim c.if-bytes-ge-HEADER_LENGTH.branch [
      | then-bytes-ge-HEADER_LENGTH w ↦ and_then room sized _ (le-leb header_length _ w.if-bytes-ge-HEADER_LENGTH.true)
          (w.value-is ∙ ap (eqb (length b)) w.frame_length.ensures)
      | else-bytes-ge-HEADER_LENGTH w ↦ and_else room sized _ (lt-leb header_length _ w.if-bytes-ge-HEADER_LENGTH.false) w.value-is
    ] in
    let two : c.if-bytes-frame_length.value ≡ c.if-bytes-ge-HEADER_LENGTH.value && kind_ok k =
    elim c.if-bytes-frame_length.branch [
      | then-bytes-frame_length w ↦ and_then c.if-bytes-ge-HEADER_LENGTH.value (kind_ok k) _ w.if-bytes-frame_length.true (w.value-is ∙ w.kind_ok.ensures)
      | else-bytes-frame_length w ↦ and_else c.if-bytes-ge-HEADER_LENGTH.value (kind_ok k) _ w.if-bytes-frame_length.false w.value-is
    ] in
    let three : c.if-kind_ok.value ≡ c.if-bytes-frame_length.value && counted =
    elim c.if-kind_ok.branch [
      | then-kind_ok w ↦ and_then c.if-bytes-frame_length.value counted _ w.if-kind_ok.true (w.value-is ∙ ap (eqb (get_or b 2 0)) w.part_count.ensures)
      | else-kind_ok w ↦ and_else c.if-bytes-frame_length.value counted _ w.if-kind_ok.false w.value-is
    ] in
    chain_of_five room sized (kind_ok k) counted zeroed _ _ _ _ one two three
    (and_then c.if-kind_ok.value zeroed _ c.if-bytes-part_count.true refl)
    ∙ with_room a.n a.m b

pub returns-else-bytes-part_count : goal.returns-else-bytes-part_count
unfolding header_ok length_ok part_count_ok byte_three_ok
returns-else-bytes-part_count c =
    let a = c.args in
    let b = a.bytes.now in
    let k = kind_in b in
    let room : Bool = leb header_length (length b) in
    let sized : Bool = eqb (length b) (frame_length a.n a.m k) in
    let counted : Bool = eqb (get_or b 2 0) (part_count k) in
    let zeroed : Bool = eqb (get_or b 3 0) 0 in
    let one : c.if-bytes-ge-HEADER_LENGTH.value ≡ room && sized =
    elim c.if-bytes-ge-HEADER_LENGTH.branch [
      | then-bytes-ge-HEADER_LENGTH w ↦ and_then room sized _ (le-leb header_length _ w.if-bytes-ge-HEADER_LENGTH.true)
          (w.value-is ∙ ap (eqb (length b)) w.frame_length.ensures)
      | else-bytes-ge-HEADER_LENGTH w ↦ and_else room sized _ (lt-leb header_length _ w.if-bytes-ge-HEADER_LENGTH.false) w.value-is
    ] in
    let two : c.if-bytes-frame_length.value ≡ c.if-bytes-ge-HEADER_LENGTH.value && kind_ok k =
    elim c.if-bytes-frame_length.branch [
      | then-bytes-frame_length w ↦ and_then c.if-bytes-ge-HEADER_LENGTH.value (kind_ok k) _ w.if-bytes-frame_length.true (w.value-is ∙ w.kind_ok.ensures)
      | else-bytes-frame_length w ↦ and_else c.if-bytes-ge-HEADER_LENGTH.value (kind_ok k) _ w.if-bytes-frame_length.false w.value-is
    ] in
    let three : c.if-kind_ok.value ≡ c.if-bytes-frame_length.value && counted =
    elim c.if-kind_ok.branch [
      | then-kind_ok w ↦ and_then c.if-bytes-frame_length.value counted _ w.if-kind_ok.true (w.value-is ∙ ap (eqb (get_or b 2 0)) w.part_count.ensures)
      | else-kind_ok w ↦ and_else c.if-bytes-frame_length.value counted _ w.if-kind_ok.false w.value-is
    ] in
    chain_of_five room sized (kind_ok k) counted zeroed _ _ _ _ one two three
    (and_else c.if-kind_ok.value zeroed _ c.if-bytes-part_count.false refl)
    ∙ with_room a.n a.m b
