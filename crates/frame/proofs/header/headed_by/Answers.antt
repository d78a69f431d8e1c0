-- `frame::header::headed_by` meets its contract: the header has 20 bytes, and each field is the number at its offset. Assumes nothing.
use Rattle.frame.proofs.header.headed_by.Goals as goal

pub returns : goal.returns
returns c = rw (c.u32_at-period.ensures, c.u32_at-view.ensures, c.u32_at-base_view.ensures, c.u32_at-base_period.ensures)
