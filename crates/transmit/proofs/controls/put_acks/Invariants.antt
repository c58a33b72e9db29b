-- `put_acks`: the acks of the first i pairs are added.
use mathlib.Core.List.{map}
use Prim.Native.Nat.{◌*◌}
use Rattle.session.specs.Flushing.{ack_segment}
use Rattle.control.specs.Views.{pairs}
use Rattle.packing.specs.Packers.{carried_of}
use Rattle.packing.specs.Writers.{Same, AddsTo}
use Rattle.transmit.proofs.controls.put_acks.Given as goal

abbrev pub invariant-loop-i : goal.invariant-loop-i
invariant-loop-i l = record {
  same : Same l.initial.writer l.writer;
  adds : AddsTo (map (ack_segment (carried_of l.initial.writer.carried)) (pairs l.i l.acks)) (24 * l.i) l.i l.initial.writer l.writer;
}
