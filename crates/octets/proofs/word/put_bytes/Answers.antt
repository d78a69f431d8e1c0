-- `octets::word::put_bytes` meets its contract: the bytes that are copied are those that are put. Assumes nothing.
use Rattle.std.proofs.Common.{arith}
use Rattle.octets.proofs.Areas.{put_over}
use Rattle.octets.proofs.word.put_bytes.Goals as goal

pub returns : goal.returns
returns c = put_over c.args.area.now c.args.at _ _ c.args.bytes.now c.copy_from_slice.ensures.after (omega arith)
