-- What each command of a script does to the bench and the lent parts, and its answer. Definitions.
-- b is the bench before the command, s, r and a are send pool, receive pool and ack list, and text is where the answer goes;
-- x is what is given, and s', r', a' and text' are the parts and the text after it.
-- Assumes nothing.
use Rattle.std.specs.Prelude.{◌≡◌, true, false, Option, List, ◌++◌, ℕ, ◌-◌, ◌≤◌, ◌<◌, min, length, take, drop, get_or, set, replicate, Err, None, Ok, Some}
use Rattle.protocol.specs.Protocol.{output_least, lengths_least}
use Rattle.protocol.specs.declared.Settings.{Settings}
use Rattle.protocol.specs.declared.Refusal.TheVariants.{InvalidBlock}
use Rattle.control.specs.declared.Link.{Link}
use Rattle.notation.specs.Ascii.{ascii}
use Rattle.notation.specs.Puts.{Put}
use Rattle.transcript.specs.Lines.{bytes_line, refusal_line, answer_line, count_line, time_line, datagram_lines, state_line, held_line}
use Rattle.bench.specs.Fields.{counts_of, Jumped, IsField, Poked, HasField, HeldChanged, holds}
use Rattle.bench.specs.declared.Lent.{Lent}
use Rattle.bench.specs.declared.Bench.{Bench}
use Rattle.bench_calls.specs.declared.Answered.{Answered}
use Rattle.bench_calls.specs.declared.Counted.{Counted}
use Rattle.bench_calls.specs.declared.Updated.{Updated}
use Rattle.bench_calls.specs.BenchPromises.{after, BenchOpens, BenchSends, BenchTakesIn, BenchFlushes, BenchReads, BenchTells, BenchShows}
use Rattle.bench_calls.specs.BenchPromises.{BenchUpdates, BenchChecks}
use Rattle.script.specs.Commands.{Parsed}
use Rattle.script.specs.declared.Command.{Command}
use Rattle.script.specs.declared.Command.TheVariants as command
use Rattle.playing.specs.declared.Played.{Played}
use Rattle.answers.specs.Answers.{Count, Update, Time}

-- the bench is b', and the line stands at the start of the text
pub record Says (b' : Bench) (line text : List ℕ) (x : Played) (text' : List ℕ) : Type 0 where
  pub bench : x.bench ≡ b'
  pub answer : Put text 0 line x.len text'

-- a bench that is as it was, but for having had a command
abbrev pub still : Bench → Bench
still b = after b b.link b.table

-- no command: the bench is the very same
abbrev pub NoCommand : Bench → List ℕ → Played → List ℕ → Type 0
NoCommand b = Says b (ascii "malformed\n")

abbrev pub SaysOk : Bench → List ℕ → Played → List ℕ → Type 0
SaysOk b = Says b (ascii "ok\n")

-- ---- the calls

pub record PlaysOpen (c : Settings) (b : Bench) (s r a text : List ℕ) (x : Played) (text' : List ℕ) : Type 0 where
  pub done : Answered
  pub promise : BenchOpens c b s r a done
  pub says : Says done.bench (answer_line done.answer) text x text'

pub record PlaysSend (message : List ℕ) (b : Bench) (s r a text : List ℕ) (x : Played) (s' text' : List ℕ) : Type 0 where
  pub done : Answered
  pub promise : BenchSends message b s r a done s'
  pub says : Says done.bench (answer_line done.answer) text x text'

pub record PlaysInput (datagram : List ℕ) (b : Bench) (s r a text : List ℕ) (x : Played) (r' a' text' : List ℕ) : Type 0 where
  pub done : Answered
  pub promise : BenchTakesIn datagram b s r a done r' a'
  pub says : Says done.bench (answer_line done.answer) text x text'

-- the datagrams of a flush, one a line, and their count
abbrev pub flush_lines : List ℕ → List ℕ → Count → List ℕ
flush_lines output lengths (Ok n) = datagram_lines output (take n lengths) ++ count_line (Ok n)
flush_lines output lengths (Err e) = refusal_line e

-- output and lengths are zero before it
pub record PlaysFlush (t : ℕ) (b : Bench) (s r a text : List ℕ) (x : Played) (text' : List ℕ) : Type 0 where
  pub done : Counted
  pub output : List ℕ
  pub lengths : List ℕ
  pub promise : BenchFlushes t b s r a (replicate output_least 0) (replicate lengths_least 0) done output lengths
  pub says : Says done.bench (flush_lines output lengths done.answer) text x text'

-- of an update: the same where it flushes; where it does not, `ok` alone
abbrev pub update_lines : List ℕ → List ℕ → Update → List ℕ
update_lines output lengths (Ok None) = ascii "ok\n"
update_lines output lengths (Ok (Some n)) = flush_lines output lengths (Ok n)
update_lines output lengths (Err e) = refusal_line e

pub record PlaysUpdate (t : ℕ) (b : Bench) (s r a text : List ℕ) (x : Played) (text' : List ℕ) : Type 0 where
  pub done : Updated
  pub output : List ℕ
  pub lengths : List ℕ
  pub promise : BenchUpdates t b s r a (replicate output_least 0) (replicate lengths_least 0) done output lengths
  pub says : Says done.bench (update_lines output lengths done.answer) text x text'

pub record PlaysCheck (t : ℕ) (b : Bench) (s r a text : List ℕ) (x : Played) (text' : List ℕ) : Type 0 where
  pub time : Time
  pub promise : BenchChecks t b s r a time
  pub says : Says (still b) (time_line time) text x text'

abbrev pub read_line : List ℕ → Count → List ℕ
read_line buffer (Ok n) = bytes_line (ascii "message ") (take n buffer)
read_line buffer (Err e) = refusal_line e

-- the buffer is zero before it
pub record PlaysRead (room : ℕ) (b : Bench) (s r a text : List ℕ) (x : Played) (text' : List ℕ) : Type 0 where
  pub done : Counted
  pub buffer : List ℕ
  pub promise : BenchReads b s r a room (replicate 60000 0) done buffer
  pub says : Says done.bench (read_line buffer done.answer) text x text'

pub record PlaysSize (b : Bench) (s r a text : List ℕ) (x : Played) (text' : List ℕ) : Type 0 where
  pub count : Count
  pub promise : BenchTells b s r a count
  pub says : Says (still b) (count_line count) text x text'

pub record PlaysShow (b : Bench) (s r a text : List ℕ) (x : Played) (text' : List ℕ) : Type 0 where
  pub part : List ℕ
  pub promise : BenchShows b s r a part
  pub says : Says (still b) (bytes_line (ascii "part ") part) text x text'

-- ---- the commands that look at the bench, or change it by hand

pub record Jumps (snd rcv : ℕ) (b : Bench) (text : List ℕ) (x : Played) (text' : List ℕ) : Type 0 where
  pub link : Link
  pub jumped : Jumped b.link snd rcv link
  pub says : SaysOk (after b link b.table) text x text'

-- only right after an accepted opening
pub record PlaysJump (snd rcv : ℕ) (b : Bench) (text : List ℕ) (x : Played) (text' : List ℕ) : Type 0 where
  pub fresh : b.fresh ≡ true → Jumps snd rcv b text x text'
  pub stale : b.fresh ≡ false → NoCommand b text x text'

pub record PlaysLend (part count : ℕ) (b : Bench) (text : List ℕ) (x : Played) (text' : List ℕ) : Type 0 where
  pub lent : Lent
  pub counts : part ≤ 5 → counts_of lent ≡ set (counts_of b.lent) part count
  pub says : SaysOk (record { link = b.link; table = b.table; lent = lent; opened = b.opened; fresh = false }) text x text'

pub record PlaysPoke (field value : ℕ) (b : Bench) (text : List ℕ) (x : Played) (text' : List ℕ) : Type 0 where
  pub link : Link
  pub poked : IsField field → Poked b.link field value link
  pub says : SaysOk (after b link b.table) text x text'

pub record Changes (list index field value : ℕ) (b : Bench) (text : List ℕ) (x : Played) (text' : List ℕ) : Type 0 where
  pub link : Link
  pub changed : HasField list field → HeldChanged b.link list index field value link
  pub says : SaysOk (after b link b.table) text x text'

-- only on a segment that is held
pub record PlaysHold (list index field value : ℕ) (b : Bench) (text : List ℕ) (x : Played) (text' : List ℕ) : Type 0 where
  pub held : list ≤ 3 → index < get_or (holds b.link) list 0 → Changes list index field value b text x text'
  pub none : list ≤ 3 → get_or (holds b.link) list 0 ≤ index → NoCommand b text x text'

abbrev pub PlaysTool : Command → Bench → List ℕ → Played → List ℕ → Type 0
PlaysTool command.State b = Says (still b) (state_line b.link)
PlaysTool command.Held b = Says (still b) (held_line b.link b.table)
PlaysTool (command.Jump snd rcv) b = PlaysJump snd rcv b
PlaysTool (command.Lend part count) b = PlaysLend part count b
PlaysTool (command.Poke field value) b = PlaysPoke field value b
PlaysTool (command.Hold list index field value) b = PlaysHold list index field value b
PlaysTool (command.Rec slot number due timeout skips) b =
    SaysOk (after b b.link (set b.table slot (record { number = number; due = due; timeout = timeout; skips = skips })))
PlaysTool (command.Open conv mtu mode interval threshold stream congestion) b = NoCommand b
PlaysTool (command.Send n) b = NoCommand b
PlaysTool (command.Input n) b = NoCommand b
PlaysTool (command.Flush t) b = NoCommand b
PlaysTool (command.Update t) b = NoCommand b
PlaysTool (command.Check t) b = NoCommand b
PlaysTool (command.Read room) b = NoCommand b
PlaysTool command.Size b = NoCommand b
PlaysTool command.Show b = NoCommand b

-- ---- commands

-- before any accepted opening
pub record PlaysUnopened (c : Command) (b : Bench) (text : List ℕ) (x : Played) (text' : List ℕ) : Type 0 where
  pub show : c ≡ command.Show → Says b (ascii "part -\n") text x text'
  pub other : (c ≡ command.Show → ⊥) → Says b (refusal_line InvalidBlock) text x text'

-- the lent parts as they were
pub record Untouched (s r a s' r' a' : List ℕ) : Type 0 where
  pub send_pool : s' ≡ s
  pub receive_pool : r' ≡ r
  pub acks : a' ≡ a

-- on a link that has been opened; the first bytes of `bytes` are the message or the datagram
abbrev pub PlaysOnLink : Command → Bench → (s r a bytes text : List ℕ) → Played → (s' r' a' text' : List ℕ) → Type 0
PlaysOnLink (command.Send n) b s r a bytes text x s' r' a' text' =
    Untouched s' r a s' r' a' × PlaysSend (take n bytes) b s r a text x s' text'
PlaysOnLink (command.Input n) b s r a bytes text x s' r' a' text' =
    Untouched s r' a' s' r' a' × PlaysInput (take n bytes) b s r a text x r' a' text'
PlaysOnLink (command.Flush t) b s r a bytes text x s' r' a' text' = Untouched s r a s' r' a' × PlaysFlush t b s r a text x text'
PlaysOnLink (command.Update t) b s r a bytes text x s' r' a' text' = Untouched s r a s' r' a' × PlaysUpdate t b s r a text x text'
PlaysOnLink (command.Check t) b s r a bytes text x s' r' a' text' = Untouched s r a s' r' a' × PlaysCheck t b s r a text x text'
PlaysOnLink (command.Read room) b s r a bytes text x s' r' a' text' = Untouched s r a s' r' a' × PlaysRead room b s r a text x text'
PlaysOnLink command.Size b s r a bytes text x s' r' a' text' = Untouched s r a s' r' a' × PlaysSize b s r a text x text'
PlaysOnLink command.Show b s r a bytes text x s' r' a' text' = Untouched s r a s' r' a' × PlaysShow b s r a text x text'
PlaysOnLink command.State b s r a bytes text x s' r' a' text' = Untouched s r a s' r' a' × PlaysTool command.State b text x text'
PlaysOnLink command.Held b s r a bytes text x s' r' a' text' = Untouched s r a s' r' a' × PlaysTool command.Held b text x text'
PlaysOnLink (command.Jump snd rcv) b s r a bytes text x s' r' a' text' =
    Untouched s r a s' r' a' × PlaysTool (command.Jump snd rcv) b text x text'
PlaysOnLink (command.Lend part count) b s r a bytes text x s' r' a' text' =
    Untouched s r a s' r' a' × PlaysTool (command.Lend part count) b text x text'
PlaysOnLink (command.Poke field value) b s r a bytes text x s' r' a' text' =
    Untouched s r a s' r' a' × PlaysTool (command.Poke field value) b text x text'
PlaysOnLink (command.Hold list index field value) b s r a bytes text x s' r' a' text' =
    Untouched s r a s' r' a' × PlaysTool (command.Hold list index field value) b text x text'
PlaysOnLink (command.Rec slot number due timeout skips) b s r a bytes text x s' r' a' text' =
    Untouched s r a s' r' a' × PlaysTool (command.Rec slot number due timeout skips) b text x text'
PlaysOnLink (command.Open conv mtu mode interval threshold stream congestion) b s r a bytes text x s' r' a' text' =
    Untouched s r a s' r' a' × NoCommand b text x text'

-- not `open`
pub record IsLater (c : Command) : Type 0 where
  pub not_open : (conv mtu mode interval threshold stream congestion : ℕ)
      → c ≡ command.Open conv mtu mode interval threshold stream congestion → ⊥

-- the settings of `open`: one that is too large for its width becomes the largest of that width, which is out of range too
abbrev pub settings_of : ℕ → ℕ → ℕ → ℕ → ℕ → ℕ → ℕ → Settings
settings_of conv mtu mode interval threshold stream congestion =
    record {
      conv = conv;
      mtu = min mtu 65535;
      interval = min interval 65535;
      mode = min mode 255;
      threshold = min threshold 255;
      stream = min stream 255;
      congestion = min congestion 255;
    }

-- `open` opens the link; every other command is refused before that. No command is a malformed line
pub record Plays (o : Option Command) (b : Bench) (s r a bytes text : List ℕ) (x : Played) (s' r' a' text' : List ℕ) : Type 0 where
  pub malformed : o ≡ None → Untouched s r a s' r' a' × NoCommand b text x text'
  pub opens : (conv mtu mode interval threshold stream congestion : ℕ)
      → o ≡ Some (command.Open conv mtu mode interval threshold stream congestion) →
      Untouched s r a s' r' a' × PlaysOpen (settings_of conv mtu mode interval threshold stream congestion) b s r a text x text'
  pub on_link : (c : Command) → o ≡ Some c → IsLater c → b.opened ≡ true → PlaysOnLink c b s r a bytes text x s' r' a' text'
  pub unopened : (c : Command) → o ≡ Some c → IsLater c → b.opened ≡ false → Untouched s r a s' r' a' × PlaysUnopened c b text x text'

-- ---- lines

-- the line between two places of a script is parsed; where no newline ends it, it is malformed
pub record PlaysLine (script : List ℕ) (from end : ℕ) (was : List ℕ) (c : Option Command) (is : List ℕ) : Type 0 where
  pub line : from ≤ end → end < length script → Parsed (take (end - from) (drop from script)) was c is
  pub unended : length script ≤ end → (c ≡ None) × (is ≡ was)
