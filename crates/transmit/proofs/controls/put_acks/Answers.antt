-- `put_acks`: the acks of the first i pairs are added.
use mathlib.Core.Path.{◌≡◌, refl}
use native.Mathlib.Omega.{arith}
use Rattle.packing.specs.PackerLaws.{room_left}
use Rattle.transmit.proofs.ControlLaws.{acks_more, acks_none, same_on}
use Rattle.transmit.proofs.controls.put_acks.Goals as goal

pub loop-i-init : goal.loop-i-init
loop-i-init c = record {
  same = record { mtu = refl; carried = refl; out = refl; lengths = refl };
  adds = acks_none _ _ _ _ _ _ c.requires.0.fills;
}

pub put_control-requires : goal.put_control-requires
put_control-requires c =
    let v = c.loop-i.invariant in
    (rw v.same.mtu (room_left v.adds c.requires.0 (omega arith) (omega arith)), rw v.same.mtu c.requires.1)

pub loop-i-preserved : goal.loop-i-preserved
loop-i-preserved c =
    let v = c.loop-i.invariant in
    let e = c.put_control.ensures in
    record {
      same = same_on v.same e.same;
      adds = acks_more _ _ c.args.acks.now c.loop-i.i _ _ _ _ _ _ _ _ _ (omega arith) c.requires.1 v.adds
          (rw (v.same.mtu, v.same.carried) at e.puts);
    }

pub returns-clause-adds : goal.returns-clause-adds
returns-clause-adds c =
    let all : c.loop-i.i ≡ c.args.n = omega arith in
    rw all at c.loop-i.invariant.adds
