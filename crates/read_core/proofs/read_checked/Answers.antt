-- What reading leaves of the receiving half, as what it leaves of the block.
use Rattle.std.proofs.Common.{rules}
use Rattle.read_core.proofs.Blocks.{block_counts}
use Rattle.read_core.proofs.Readings.{reads_block}
use Rattle.read_core.proofs.read_checked.Goals as goal

pub read_message-answer-requires : goal.read_message-answer-requires
read_message-answer-requires c =
    let ok = c.requires in
    let n = block_counts c.args.link.now ok.counts in (
      search rules,
      record { few_ready = n.ready; few_waiting = n.waiting },
      rw c.mss-mss.ensures ok.inside,
    )

pub returns-clause-reads : goal.returns-clause-reads
returns-clause-reads c records acks =
    let h = c.args.link.now in
    let half = c.read_message-answer.new.half in
    reads_block h.settings h.flight h.arrival h.clock h.queued h.outstanding h.transmissions h.ready h.waiting h.waiting_numbers
    records acks c.args.pool.now c.args.buffer.now half.arrival half.ready.now half.waiting.now half.numbers.now
    c.read_message-answer.new.buffer c.read_message-answer.result c.mss-mss.result c.mss-mss.ensures c.requires
    c.read_message-answer.ensures.reads
