-- `notation::put::bytes` meets its contract: after i turns the first i bytes of `s` are put.
use Rattle.std.proofs.Common.{rules}
use Rattle.notation.specs.PutLaws.{put_next}
use Rattle.notation.proofs.put.bytes.Goals as goal

pub loop-b-preserved : goal.loop-b-preserved
loop-b-preserved c = put_next _ _ _ _ _ _ _ c.loop-b.b-index (search rules) c.loop-b.invariant c.byte-here.ensures
