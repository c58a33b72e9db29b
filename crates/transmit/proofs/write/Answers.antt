-- `write`: controls and data are added one behind the other from an empty output on, and the last datagram is closed.
use borrow.Author.Rules.{rules}
use Rattle.transmit.proofs.WriteLaws.{writes_all}
use Rattle.transmit.proofs.write.Goals as goal

pub returns : goal.returns
returns c =
    let made = c.new-writer.ensures in
    let acked = c.put_controls.ensures in
    let told = c.put_outstanding-told.ensures in
    writes_all _ _ _ _ _ _ _ _ _ _ _ _ _ _ _ _ _ c.finish.new.self made.settings.2
    (record { mtu = made.settings.0; carried = made.settings.1 }) acked.same (rw made.settings.1 at acked.adds) told.walks c.finish.ensures.same.1 c.finish.ensures.finishes
    _ _ _ _ made.same_out.1 made.same_lengths.1 (search rules) (search rules)
