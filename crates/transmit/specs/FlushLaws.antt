-- What is written of a state's parts is what its flush writes.
-- Assumes nothing.
use Rattle.std.specs.Prelude.{◌≡◌, Bool, List, ◌++◌, map, ℕ}
use Rattle.std.proofs.Common.{ap, ◌∙◌}
use Rattle.protocol.specs.Protocol.{window_ask, window_tell}
use Rattle.protocol.specs.Ranges.{mss}
use Rattle.timing.specs.declared.Record.{Record}
use Rattle.lists.specs.declared.Sent.{Sent}
use Rattle.session.specs.State.{State}
use Rattle.session.specs.Flushing.{
  Carried,
  control,
  ack_segment,
  data_segment,
  wished,
  ruled,
  transmitted,
  written,
  packed,
  flushing,
}
use Rattle.transmit.specs.declared.Flush.{Flush}
use Rattle.transmit.specs.declared.Written.{Written}
use Rattle.transmit.specs.Writing.{segments_of, sent_by, left_by, Writes}
use Rattle.transmit.specs.Flushes.{FlushOf, outstanding_now, asks, FlushWrites}

module _ (s : State) (t : ℕ) (f : Flush) (e : FlushOf s t f) (pool : List ℕ) where
  same_segments : (ask : Bool) (sent : List Sent)
      → segments_of f s.receiving.acks ask s.receiving.tell pool sent ≡ written s t pool ask sent
  unfolding written
  same_segments ask sent =
      ap
      (λ (c : Carried). map (ack_segment c) s.receiving.acks
      ++ (wished ask (control c window_ask 0 0)
      ++ (wished s.receiving.tell (control c window_tell 0 0)
      ++ map (data_segment c (mss f.settings) f.t pool) sent)))
      e.carries ∙ rw (e.settings, e.time)

  same_sent : (l : List Sent) → sent_by f l ≡ transmitted (ruled s.settings s.sending.round_trip.timeout t l)
  same_sent l = rw (e.settings, e.timeout, e.time)

  same_datagrams : packed f.settings.mtu
      (segments_of f s.receiving.acks (asks s t) s.receiving.tell pool (sent_by f (outstanding_now s))) ≡ (flushing s t pool).datagrams
  unfolding flushing
  same_datagrams = rw (same_segments, same_sent, e.settings)

  same_outstanding : left_by f (outstanding_now s) ≡ (flushing s t pool).state.sending.outstanding
  unfolding flushing
  same_outstanding = rw (e.settings, e.timeout, e.time)

  pub flush_writes : (words : List ℕ) (n : ℕ) (out lengths : List ℕ) (r : Written)
      (transmissions' : List ℕ) (records' : List Record) (out' lengths' : List ℕ)
      → Writes f s.receiving.acks (asks s t) s.receiving.tell (outstanding_now s) words n pool out lengths r transmissions'
      records' out' lengths'
      → FlushWrites s t words n pool out lengths r transmissions' records' out' lengths'
  unfolding flushing
  flush_writes words n out lengths r transmissions' records' out' lengths' w =
      record {
        output = rw same_datagrams at w.output;
        sent = rw same_outstanding at w.sent;
        dead = rw (w.dead, same_sent);
        late = rw (w.late, e.settings, e.timeout, e.time);
        fast = rw (w.fast, e.settings, e.timeout, e.time);
        sends = rw (w.sends, e.settings, e.timeout, e.time);
      }
