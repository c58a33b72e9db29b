-- The verdict of a block that is sound or not, with gathered records that fit or not.
use Rattle.checking.specs.Verdicts.{Flown}
use Rattle.checking.specs.VerdictLaws.{admitted}
use Rattle.block_check.proofs.check_gathered.Goals as goal

pub returns : goal.returns
returns c =
    let h = c.args.link.now in
    let records = c.args.records.now in
    let flown : Flown h records c.flight_fits-flown.result = record { whole = c.told-records; fits = c.flight_fits-flown.ensures } in
    admitted h records _ _ c.args.long c.sound-sound.result c.flight_fits-flown.result c.judged.result c.judged.ensures c.sound-sound.ensures flown
