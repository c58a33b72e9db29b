-- Each turn puts one record more back.
use Rattle.std.proofs.Common.{◌≤◌, ◌<◌, length, arith}
use Rattle.records.specs.Tables.{slots_in}
use Rattle.records.proofs.Turns.{slots_counted, slot_listed, scatters_more, scatters_all}
use Rattle.gathering.proofs.scatter.Goals as goal

pub loop-i-preserved : goal.loop-i-preserved
loop-i-preserved c =
    let ws = c.args.words.now in
    let n = c.args.n in
    let i = c.loop-i.i in
    let records = c.args.records.now in
    let whole = c.requires.1 in
    let counted = slots_counted ws n c.min-count.result c.requires.0 c.min-count.ensures in
    let within : i < length (slots_in ws n) = omega arith in
    let left = scatters_more c.loop-i.table c.replace.new.table records (slots_in ws n) i c.slot_of-slot.result within (omega arith)
    c.loop-i.invariant.left
    (slot_listed ws n i c.slot_of-slot.result (c.slot_of-slot.ensures) within)
    c.replace.ensures in
    record { within = omega arith; left = left }

pub returns : goal.returns
returns c =
    let ws = c.args.words.now in
    let n = c.args.n in
    let counted = slots_counted ws n c.min-count.result c.requires.0 c.min-count.ensures in
    let past : length (slots_in ws n) ≤ c.loop-i.i = omega arith in
    scatters_all c.loop-i.table c.args.records.now (slots_in ws n) c.loop-i.i past c.loop-i.invariant.left
