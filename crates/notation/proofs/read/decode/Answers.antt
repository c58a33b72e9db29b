-- `notation::read::decode` meets its contract: the bytes that are left, stored from i on, complete the whole.
use Rattle.std.proofs.Common.{◌≡◌, ◌+◌, ◌*◌, get_or, arith}
use Rattle.notation.specs.Hex.{hex_value}
use Rattle.notation.specs.HexLaws.{decode_step, unhex_end}
use Rattle.notation.proofs.read.decode.Goals as goal

pub loop-i-preserved : goal.loop-i-preserved
loop-i-preserved c =
    let l = c.loop-i in
    let s = c.args.s.now in
    let stored : 16 * c.hex_value.result + c.hex_value-in-loop-i.result
    ≡ 16 * hex_value (get_or s (2 * l.i) 0) + hex_value (get_or s (2 * l.i + 1) 0) =
    omega (arith, c.hex_value.ensures.0, c.hex_value-in-loop-i.ensures.0) in
    decode_step s _ _ l.i _ (omega arith) stored l.invariant

pub returns : goal.returns
returns c = rw (unhex_end c.args.s.now c.loop-i.i (omega arith)) at c.loop-i.invariant
