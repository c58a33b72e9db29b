-- The verdict of a block that is sound or not, with the lent records that fit or not.
use Rattle.std.proofs.Common.{take}
use Rattle.protocol.specs.Protocol.{send_slots}
use Rattle.checking.specs.Verdicts.{Flown}
use Rattle.checking.specs.VerdictLaws.{admitted}
use Rattle.block_check.specs.Lent.{lent_records}
use Rattle.block_check.proofs.Whole.{padded_whole}
use Rattle.block_check.proofs.check.Goals as goal

pub returns : goal.returns
returns c =
    let h = c.args.link.now in
    let records = lent_records h c.args.table.now in
    let flown : Flown h records c.fit-fit.result = record {
      whole = padded_whole (take send_slots c.args.table.now) h.outstanding h.flight.outstanding;
      fits = c.fit-fit.ensures;
    } in
    admitted h records _ _ c.args.long c.sound-sound.result c.fit-fit.result c.judged.result c.judged.ensures c.sound-sound.ensures flown
