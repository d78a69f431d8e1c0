-- `frame::write` meets its contract: each test of the code is a case of the definition, in their order. Assumes nothing.
use mathlib.Core.Path.{sym, ◌∙◌}
use Rattle.octets.proofs.Areas.{put_front}
use Rattle.frame.proofs.Conditions.{sizes}
use Rattle.frame.proofs.Refusals.{write-sizes, write-area, write-malformed, write_done, nothing_written, frame-written}
use Rattle.frame.proofs.write.Goals as goal

pub returns-then-not-sizes_ok : goal.returns-then-not-sizes_ok
returns-then-not-sizes_ok c =
    let a = c.args in
    let e = write-sizes a.n a.m a.frame a.area.now (sym c.sizes_ok.ensures ∙ c.if-not-sizes_ok.true) in
    record { answer = sym e; count = tt; bytes = rw (nothing_written a.n a.m a.frame a.area.now 1 e) }

pub returns-then-area-lt-LONGEST_FRAME : goal.returns-then-area-lt-LONGEST_FRAME
returns-then-area-lt-LONGEST_FRAME c =
    let a = c.args in
    let e = write-area a.n a.m a.frame a.area.now (sym c.sizes_ok.ensures ∙ c.if-not-sizes_ok.false) c.if-area-lt-LONGEST_FRAME.true in
    record { answer = sym e; count = tt; bytes = rw (nothing_written a.n a.m a.frame a.area.now 4 e) }

pub well_formed-requires : goal.well_formed-requires
well_formed-requires c = (sizes _ _ (sym c.sizes_ok.ensures ∙ c.if-not-sizes_ok.false)).m-high

pub returns-then-not-well_formed : goal.returns-then-not-well_formed
returns-then-not-well_formed c =
    let a = c.args in
    let e = write-malformed a.n a.m a.frame a.area.now (sym c.sizes_ok.ensures ∙ c.if-not-sizes_ok.false)
    c.if-area-lt-LONGEST_FRAME.false (sym c.well_formed-2.ensures ∙ c.if-not-well_formed.true) in
    record { answer = sym e; count = tt; bytes = rw (nothing_written a.n a.m a.frame a.area.now 7 e) }

pub put_frame-requires : goal.put_frame-requires
put_frame-requires c =
    let s = sizes _ _ (sym c.sizes_ok.ensures ∙ c.if-not-sizes_ok.false) in (s.n-high, s.m-high, c.if-area-lt-LONGEST_FRAME.false)

pub returns : goal.returns
returns c =
    let a = c.args in
    let e = write_done a.n a.m a.frame a.area.now (sym c.sizes_ok.ensures ∙ c.if-not-sizes_ok.false)
    c.if-area-lt-LONGEST_FRAME.false
    (sym c.well_formed-2.ensures ∙ c.if-not-well_formed.false) in
    let w = frame-written a.n a.m a.frame a.area.now e in
    let p = c.put_frame.ensures in
    record { answer = sym e; count = p.0 ∙ rw w; bytes = p.1 ∙ put_front _ _ ∙ rw w }
