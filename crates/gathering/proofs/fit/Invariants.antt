-- What is passed over behind the record at the index gives what passing over all gives.
use Rattle.std.proofs.Common.{◌≡◌, take, drop}
use Rattle.protocol.specs.Protocol.{send_slots}
use Rattle.records.specs.Tables.{slots_in, gathered}
use Rattle.checking.specs.Tests.{least_after_all}
use Rattle.checking.proofs.Turns.{carried_all}
use Rattle.gathering.proofs.fit.Given as goal

abbrev pub invariant-loop-word : goal.invariant-loop-word
invariant-loop-word l =
    let mode = l.settings.mode in
    let una = l.flight.una in
    let next = l.flight.next in
    let found = gathered (take send_slots l.table) (slots_in l.words l.flight.outstanding) in
    least_after_all mode una next 0 found ≡ carried_all mode una next l.carried (drop l.word-index found)
