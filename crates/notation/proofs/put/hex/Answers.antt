-- `notation::put::hex` meets its contract: after i turns the digits of the first i bytes are put.
use Rattle.std.proofs.Common.{rules}
use Rattle.notation.specs.Hex.{hex_of}
use Rattle.notation.specs.HexLaws.{hex_of_next}
use Rattle.notation.specs.PutLaws.{put_none, put_then}
use Rattle.notation.proofs.put.hex.Goals as goal

pub loop-b-init : goal.loop-b-init
unfolding hex_of
loop-b-init c = put_none _ _

pub loop-b-preserved : goal.loop-b-preserved
loop-b-preserved c =
    let l = c.loop-b in
    rw (hex_of_next c.args.s.now l.b-index (search rules)) (put_then _ _ _ _ _ _ _ _ l.invariant c.hex_byte-here.ensures)
