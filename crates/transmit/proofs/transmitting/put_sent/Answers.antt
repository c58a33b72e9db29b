-- `put_sent`: the segment read from its word is put as data.
use Rattle.transmit.proofs.DataLaws.{data_adds}
use Rattle.transmit.proofs.transmitting.put_sent.Goals as goal

pub returns-clause-adds : goal.returns-clause-adds
returns-clause-adds c =
    let a = c.args in
    let p = c.requires in
    rw p.2.mtu (data_adds a.flush a.word a.x _ a.pool.now c.from.ensures p.1 p.3 p.4 _ _ _ _ _ _ (rw p.2.mtu at p.0.fills)
    (rw (p.2.mtu, p.2.carried) at c.put_data.ensures.puts))
