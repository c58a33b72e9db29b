-- Each turn gathers one record more.
use Rattle.std.proofs.Common.{◌<◌, ◌%◌, ◌^◌, length, get_or, length-set, take, refl, rules, arith}
use Rattle.protocol.specs.Protocol.{send_slots}
use Rattle.records.specs.Tables.{slots_in}
use Rattle.records.proofs.Turns.{slots_counted, slot_listed, gathers_more}
use Rattle.gathering.proofs.Listed.{reached}
use Rattle.gathering.proofs.gather.Goals as goal

pub loop-i-init : goal.loop-i-init
loop-i-init c = record {
  within = search rules;
  whole = search rules;
  so_far = c.requires.1;
}

pub loop-i-preserved : goal.loop-i-preserved
loop-i-preserved c =
    let ys = c.args.table.now in
    let ws = c.args.words.now in
    let n = c.args.n in
    let i = c.loop-i.i in
    let room : length ys < 2 ^ 64 = omega arith in
    let counted = slots_counted ws n c.min-count.result c.told-words c.min-count.ensures in
    let within : i < length (slots_in ws n) = omega arith in
    let word = get_or ws i 0 in
    let so_far = gathers_more (take send_slots ys) c.loop-i.records (slots_in ws n) i (word % 256) c.read-found.result within
    (omega arith) c.loop-i.invariant.so_far (slot_listed ws n i (word % 256) refl within)
    (reached ys word c.reach-slot.result c.read-found.result room (c.reach-slot.ensures)
    c.read-found.ensures) in
    record { within = omega arith; whole = simp length-set c.loop-i.invariant.whole; so_far = so_far }
