-- What each call over the bench promises: the call's own promise, of the parts as far as they are lent; all behind that stays. Definitions.
-- b is the bench before the call, and s, r and a are send pool, receive pool and ack list.
-- Assumes nothing.
use Rattle.std.specs.Prelude.{◌≡◌, true, false, List, ℕ, take, drop, Err, Ok}
use Rattle.protocol.specs.declared.Settings.{Settings}
use Rattle.timing.specs.declared.Record.{Record}
use Rattle.control.specs.declared.Link.{Link}
use Rattle.promises.specs.Parts.{Parts, parts_of, FlushParts, flush_parts_of}
use Rattle.promises.specs.Outcomes.{shows}
use Rattle.promises.specs.Promises.{OpenPromise, SendPromise, InputPromise, FlushPromise, ReadPromise, SizePromise, shown}
use Rattle.promises.specs.Promises.{UpdatePromise, CheckPromise}
use Rattle.bench.specs.declared.Bench.{Bench}
use Rattle.bench_calls.specs.declared.Answered.{Answered}
use Rattle.bench_calls.specs.declared.Counted.{Counted}
use Rattle.bench_calls.specs.declared.Updated.{Updated}
use Rattle.answers.specs.Answers.{Answer, Count, Time}

-- the parts, as far as the bench lends them, with a table of records
abbrev pub lent_parts : Bench → List ℕ → List ℕ → List Record → List ℕ → Parts
lent_parts b s r table a = parts_of (take b.lent.send s) (take b.lent.receive r) (take b.lent.records table)
    (take b.lent.acks a)

-- output and lengths, as far as it lends them
abbrev pub lent_flush_parts : Bench → List ℕ → List ℕ → FlushParts
lent_flush_parts b out lengths = flush_parts_of (take b.lent.output out) (take b.lent.lengths lengths)

-- the bench after a command that is no accepted opening
abbrev pub after : Bench → Link → List Record → Bench
after b l table = record { link = l; table = table; lent = b.lent; opened = b.opened; fresh = false }

-- after an opening
abbrev pub after_open : Bench → Answer → Link → Bench
after_open b (Ok tt) l = record { link = l; table = b.table; lent = b.lent; opened = true; fresh = true }
after_open b (Err r) l = after b l b.table

pub record BenchOpens (c : Settings) (b : Bench) (s r a : List ℕ) (x : Answered) : Type 0 where
  pub promise : OpenPromise c b.link (lent_parts b s r b.table a) x.answer x.bench.link (lent_parts b s r b.table a)
  pub bench : x.bench ≡ after_open b x.answer x.bench.link

pub record BenchSends (message : List ℕ) (b : Bench) (s r a : List ℕ) (x : Answered) (s' : List ℕ) : Type 0 where
  pub promise : SendPromise message b.link (lent_parts b s r b.table a) x.answer x.bench.link (lent_parts b s' r b.table a)
  pub behind : drop b.lent.send s' ≡ drop b.lent.send s
  pub bench : x.bench ≡ after b x.bench.link b.table

pub record BenchTakesIn (datagram : List ℕ) (b : Bench) (s r a : List ℕ) (x : Answered) (r' a' : List ℕ) : Type 0 where
  pub promise : InputPromise datagram b.link (lent_parts b s r b.table a) x.answer x.bench.link
      (lent_parts b s r' x.bench.table a')
  pub behind : drop b.lent.receive r' ≡ drop b.lent.receive r
  pub acks_behind : drop b.lent.acks a' ≡ drop b.lent.acks a
  pub records_behind : drop b.lent.records x.bench.table ≡ drop b.lent.records b.table
  pub bench : x.bench ≡ after b x.bench.link x.bench.table

pub record BenchFlushes (t : ℕ) (b : Bench) (s r a out lengths : List ℕ) (x : Counted) (out' lengths' : List ℕ) : Type 0 where
  pub promise : FlushPromise t b.link (lent_parts b s r b.table a) (lent_flush_parts b out lengths)
      x.answer x.bench.link (lent_parts b s r x.bench.table a) (lent_flush_parts b out' lengths')
  pub behind : drop b.lent.output out' ≡ drop b.lent.output out
  pub lengths_behind : drop b.lent.lengths lengths' ≡ drop b.lent.lengths lengths
  pub records_behind : drop b.lent.records x.bench.table ≡ drop b.lent.records b.table
  pub bench : x.bench ≡ after b x.bench.link x.bench.table

pub record BenchUpdates (t : ℕ) (b : Bench) (s r a out lengths : List ℕ) (x : Updated) (out' lengths' : List ℕ) : Type 0 where
  pub promise : UpdatePromise t b.link (lent_parts b s r b.table a) (lent_flush_parts b out lengths)
      x.answer x.bench.link (lent_parts b s r x.bench.table a) (lent_flush_parts b out' lengths')
  pub behind : drop b.lent.output out' ≡ drop b.lent.output out
  pub lengths_behind : drop b.lent.lengths lengths' ≡ drop b.lent.lengths lengths
  pub records_behind : drop b.lent.records x.bench.table ≡ drop b.lent.records b.table
  pub bench : x.bench ≡ after b x.bench.link x.bench.table

-- the first `room` bytes of the buffer are lent
pub record BenchReads (b : Bench) (s r a : List ℕ) (room : ℕ) (buffer : List ℕ) (x : Counted) (buffer' : List ℕ) : Type 0 where
  pub promise : ReadPromise b.link (lent_parts b s r b.table a) (take room buffer) x.answer x.bench.link
      (lent_parts b s r b.table a) (take room buffer')
  pub behind : drop room buffer' ≡ drop room buffer
  pub bench : x.bench ≡ after b x.bench.link b.table

abbrev pub BenchTells : Bench → List ℕ → List ℕ → List ℕ → Count → Type 0
BenchTells b s r a n = SizePromise b.link (lent_parts b s r b.table a) n

abbrev pub BenchChecks : ℕ → Bench → List ℕ → List ℕ → List ℕ → Time → Type 0
BenchChecks t b s r a time = CheckPromise t b.link (lent_parts b s r b.table a) time

abbrev pub BenchShows : Bench → List ℕ → List ℕ → List ℕ → List ℕ → Type 0
BenchShows b s r a part = part ≡ shown (shows b.link (lent_parts b s r b.table a)) (take b.lent.receive r)
