-- `output::play_script` meets its contract. Assumes nothing.
use borrow.Author.Rules.{rules}
use mathlib.Core.Path.{◌≡◌, ap₂}
use mathlib.Core.List.{List}
use Prim.Native.Nat.{ℕ, ◌+◌}
use lib.ListN.{take, replicate}
use native.Mathlib.Omega.{arith}
use Rattle.text.proofs.PrintingLaws.{put-within}
use Rattle.script.specs.declared.boxes.Kept.{Kept}
use Rattle.script.specs.Printing.{header_line}
use Rattle.script.specs.Play.{most, table_length}
use Rattle.text.specs.Lines.{lines_of}
use Rattle.script.specs.Script.{Left, left, played, unplayed, left_by}
use Rattle.script.proofs.ScriptLaws.{prints-same, prints-after}
use Rattle.script.proofs.output.play_script.Goals as goal

pub play_lines-requires : goal.play_lines-requires
unfolding header_line
play_lines-requires c =
    let w = put-within (omega (arith, c.requires))
    c.put_header-start.ensures in (
      search rules,
      search rules,
      omega
          (arith, w.count, c.put_header-start.auto, c.requires),
    )

pub returns : goal.returns
unfolding header_line unplayed left_by
returns c =
    let a = c.args in
    let h = c.put_header-start in
    let w = put-within (omega
    (arith, c.requires))
    h.ensures in
    let start : Left = left c.fresh-kept.result
    (replicate table_length 0) (replicate (most + 1) 0) (take h.result _) in
    let same : start ≡ unplayed a.settings =
    ap₂ (λ (b : List Kept) (p : List ℕ). left b (replicate table_length 0) (replicate (most + 1) 0) p)
    c.fresh-kept.ensures w.text in
    let whole = ap₂ (λ (m : ℕ) (l : Left). (played a.of_rig a.settings.boxes m 0 l (lines_of most a.text.now)).printed)
    c.min-m.ensures same in
    let p = c.play_lines.ensures in
    prints-same whole
    (prints-after _ _ _ header_line a.output.now _ _ h.ensures (omega
    (arith, c.requires))
    p.0 p.1)
