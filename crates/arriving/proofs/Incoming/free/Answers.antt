-- `freed` drops the message's words and advances.
use Rattle.arriving.proofs.Freeing.{freed_reads}
use Rattle.arriving.proofs.Incoming.free.Goals as goal

pub returns-clause-frees : goal.returns-clause-frees
returns-clause-frees c =
    let a = c.args.self.now in
    let p = c.requires in
    let ad = c.advance.ensures.advances in
    record {
      whole = ad.whole;
      counts = record { few_ready = ad.is.ready.fits; few_waiting = ad.is.waiting.fits };
      same_acks = ad.same_acks;
      reads = freed_reads a.arrival a.ready.now a.waiting.now a.numbers.now _ c.args.k p.0.whole_ready p.1.few_ready
          c.drop_first.ensures _ _ _ _ _ ad c.tell_after-self.result c.tell_after-self.ensures;
    }
