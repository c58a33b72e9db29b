-- `put_controls`: acks, ask and tell are added one behind the other.
use mathlib.Core.Path.{refl}
use native.Mathlib.Omega.{arith}
use Rattle.packing.specs.PackerLaws.{adds_append, adds_as}
use Rattle.transmit.proofs.controls.put_controls.Goals as goal

pub returns-clause-adds : goal.returns-clause-adds
returns-clause-adds c =
    let acked = c.put_acks.ensures in
    let asked = c.put_wished.ensures in
    let told = c.put_wished-2.ensures in
    adds_as (adds_append (adds_append acked.adds (rw (acked.same.mtu, acked.same.carried) at asked.adds))
    (rw (asked.same.mtu, asked.same.carried, acked.same.mtu, acked.same.carried) at told.adds)) refl (omega arith) (omega arith)
