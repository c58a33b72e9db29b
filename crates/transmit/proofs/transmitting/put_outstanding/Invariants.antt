-- `put_outstanding`: the first i segments have been handled.
use Rattle.numbering.proofs.SentLaws.{sents}
use Rattle.transmit.proofs.WalkLaws.{Walking}
use Rattle.transmit.proofs.transmitting.put_outstanding.Given as goal

abbrev pub invariant-loop-i : goal.invariant-loop-i
invariant-loop-i l =
    Walking l.flush l.n l.pool l.initial.writer (sents l.words l.initial.transmissions l.initial.records) l.words l.transmissions l.records
    l.writer l.told l.i
