-- `reading::lines_in` meets its contract. The loop's invariant: the first i places hold what their lines show and the others are blank. Assumes
-- nothing.
use mathlib.Core.Path.{◌≡◌, refl, sym, ap, ap₂, ◌∙◌}
use mathlib.Core.List.{List}
use Prim.Native.Nat.{ℕ, ◌*◌}
use native.Mathlib.Omega.{arith}
use lib.ListN.{set, length-set, replicate}
use Rattle.lists.specs.Places.{filled}
use Rattle.lists.proofs.Places.{filled_none, filled_more}
use Rattle.pages.specs.declared.entries.Entry.{Entry}
use Rattle.pages.specs.Entries.{blank}
use Rattle.pages.specs.Reading.{entry_in}
use Rattle.pages.proofs.ReadingLaws.{part-to, part-to-length, shown_by, page-lines}
use Rattle.pages.proofs.reading.lines_in.Goals as goal

pub loop-i-init : goal.loop-i-init
loop-i-init c =
    let s = c.args in
    (ap (replicate 60) c.blank-lines.ensures ∙ sym (filled_none blank 60 (shown_by s.p s.bytes.now)), refl)

pub entry_in-requires : goal.entry_in-requires
entry_in-requires c =
    (part-to-length c.args.bytes.now (73 * c.loop-i.i) 73 (omega arith), c.requires.2)

pub loop-i-preserved : goal.loop-i-preserved
loop-i-preserved c =
    let l = c.loop-i in
    let s = c.args in
    let here : c.entry_in.result ≡ shown_by s.p s.bytes.now l.i =
    c.entry_in.ensures ∙ ap (entry_in s.p) (part-to s.bytes.now (73 * l.i) 73) in
    let more = filled_more blank 60 l.i (shown_by s.p s.bytes.now) (omega arith) in
    (ap₂ (λ (q : List Entry) (e : Entry). set q l.i e) l.invariant.0 here ∙ more, simp length-set l.invariant.1)

pub returns : goal.returns
returns c =
    let l = c.loop-i in
    let s = c.args in
    let e : l.i ≡ s.n = omega arith in
    let lines = l.invariant.0 ∙ ap (λ (k : ℕ). filled blank 60 k (shown_by s.p s.bytes.now)) e in
    ap (λ (q : List Entry). record { lines = q; count = s.n }) lines ∙ page-lines s.p s.n s.bytes.now
