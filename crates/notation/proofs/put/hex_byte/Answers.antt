-- `notation::put::hex_byte` meets its contract: one digit behind the other.
use Rattle.notation.specs.Hex.{hex_of}
use Rattle.notation.specs.PutLaws.{put_then}
use Rattle.notation.proofs.put.hex_byte.Goals as goal

pub returns : goal.returns
unfolding hex_of
returns c =
    put_then _ _ _ _ _ _ _ _
    (rw c.hex_digit.ensures at c.byte-next.ensures)
    (rw c.hex_digit-2.ensures at c.byte.ensures)
