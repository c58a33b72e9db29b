-- Calls of a link and lists of them, as a caller has them. A step is exactly what the public call promises (crate `promises`, Promises),
-- and its answer is what the caller sees: the answer given, the output cut by the lengths, the first bytes of the buffer.
-- Assumes nothing.
use Rattle.std.specs.Prelude.{◌≡◌, List, [], ◌∷◌, ℕ, ◌^◌, ◌≤◌, ◌<◌, length, take, drop, Err, None, Ok, Some}
use Rattle.protocol.specs.Protocol.{output_least, lengths_least}
use Rattle.protocol.specs.declared.Settings.{Settings}
use Rattle.session.specs.Calls.{Call, Reply, Event}
use Rattle.session.specs.Decides.{All}
use Rattle.control.specs.declared.Link.{Link}
use Rattle.answers.specs.Answers as given
use Rattle.promises.specs.Parts.{Parts, FlushParts}
use Rattle.promises.specs.Promises.{OpenPromise, SendPromise, InputPromise, FlushPromise, ReadPromise, UpdatePromise, CheckPromise}
use Rattle.delivery.specs.Hearing.{CallFits}
use Rattle.answers.specs.Answers.{Count, Update, Time}

-- a link as its caller holds it: the control block, and the parts lent to every call
pub record Endpoint : Type 0 where
  pub link : Link
  pub parts : Parts

-- ---- what the caller sees

-- of a message sent or a datagram taken in: accepted, or the refusal
abbrev pub acceptance : given.Answer → Reply
acceptance (Ok tt) = Reply.accepted
acceptance (Err r) = Reply.refused r

-- bytes cut into datagrams of these lengths, one behind the other
unfoldable pub cut_by : List ℕ → List ℕ → List (List ℕ)
cut_by [] bytes = []
cut_by (n ∷ lengths) bytes = take n bytes ∷ cut_by lengths (drop n bytes)

-- of a flush that answers n: the output cut by the first n lengths
abbrev pub datagrams_seen : Count → FlushParts → Reply
datagrams_seen (Ok n) f = Reply.wrote (cut_by (take n f.lengths) f.output)
datagrams_seen (Err r) f = Reply.refused r

-- of an update: that it waited, or the same of its flush
abbrev pub update_seen : Update → FlushParts → Reply
update_seen (Ok None) f = Reply.waited
update_seen (Ok (Some n)) f = datagrams_seen (Ok n) f
update_seen (Err r) f = Reply.refused r

-- of a check: the time
abbrev pub time_seen : Time → Reply
time_seen (Ok t) = Reply.named t
time_seen (Err r) = Reply.refused r

-- of a read that answers n: the first n bytes of the buffer
abbrev pub message_seen : Count → List ℕ → Reply
message_seen (Ok n) buffer = Reply.message (take n buffer)
message_seen (Err r) buffer = Reply.refused r

-- ---- one call

pub record SendCall (message : List ℕ) (e : Endpoint) (a : Reply) (e' : Endpoint) : Type 0 where
  pub gives : given.Answer
  pub promise : SendPromise message e.link e.parts gives e'.link e'.parts
  pub sees : a ≡ acceptance gives

pub record InputCall (datagram : List ℕ) (e : Endpoint) (a : Reply) (e' : Endpoint) : Type 0 where
  pub gives : given.Answer
  pub promise : InputPromise datagram e.link e.parts gives e'.link e'.parts
  pub sees : a ≡ acceptance gives

-- output and lengths are as long as document 01 states
pub record Room (f : FlushParts) : Type 0 where
  pub long : output_least ≤ length f.output
  pub many : lengths_least ≤ length f.lengths

-- into any such output and lengths
pub record FlushCall (t : ℕ) (e : Endpoint) (a : Reply) (e' : Endpoint) : Type 0 where
  pub lent : FlushParts
  pub room : Room lent
  pub gives : Count
  pub after : FlushParts
  pub promise : FlushPromise t e.link e.parts lent gives e'.link e'.parts after
  pub sees : a ≡ datagrams_seen gives after

-- into any buffer that long
pub record ReadCall (room : ℕ) (e : Endpoint) (a : Reply) (e' : Endpoint) : Type 0 where
  pub buffer : List ℕ
  pub long : length buffer ≡ room
  pub gives : Count
  pub buffer' : List ℕ
  pub promise : ReadPromise e.link e.parts buffer gives e'.link e'.parts buffer'
  pub sees : a ≡ message_seen gives buffer'

-- the same, whether or not it flushes
pub record UpdateCall (t : ℕ) (e : Endpoint) (a : Reply) (e' : Endpoint) : Type 0 where
  pub lent : FlushParts
  pub room : Room lent
  pub gives : Update
  pub after : FlushParts
  pub promise : UpdatePromise t e.link e.parts lent gives e'.link e'.parts after
  pub sees : a ≡ update_seen gives after

-- block and parts are those before
pub record CheckCall (t : ℕ) (e : Endpoint) (a : Reply) (e' : Endpoint) : Type 0 where
  pub gives : Time
  pub promise : CheckPromise t e.link e.parts gives
  pub sees : a ≡ time_seen gives
  pub same : e' ≡ e

-- the call x of the endpoint e was answered with a, and left e'
abbrev pub Called : Endpoint → Call → Reply → Endpoint → Type 0
Called e (Call.send m) a e' = SendCall m e a e'
Called e (Call.take_in d) a e' = InputCall d e a e'
Called e (Call.flush t) a e' = FlushCall t e a e'
Called e (Call.read room) a e' = ReadCall room e a e'
Called e (Call.update t) a e' = UpdateCall t e a e'
Called e (Call.check t) a e' = CheckCall t e a e'

-- ---- lists of calls

-- each call gets block and parts as the last one left them. Telling the size and showing may stand anywhere between them, and are not
-- listed: they give neither block nor parts back, so the next call gets those of the call before
pub data Runs : Endpoint → List Call → List Event → Endpoint → Type 0 where
  start : {e : Endpoint} → Runs e [] [] e
  next : (e : Endpoint) (x : Call) (a : Reply) (e' : Endpoint) {xs : List Call} {events : List Event} {e'' : Endpoint}
      → Called e x a e' → Runs e' xs events e'' → Runs e (x ∷ xs) (record { call = x; answer = a } ∷ events) e''

-- an accepted opening with the settings c, whatever block and bytes were there
pub record Opens (c : Settings) (e : Endpoint) : Type 0 where
  pub block : Link
  pub lent : Parts
  pub promise : OpenPromise c block lent (Ok tt) e.link e.parts

-- an accepted opening with the settings c, then these calls with these answers, after which the endpoint is e. A conversation has 32 bits,
-- a call's bytes are bytes and its time has 32 bits
pub record SinceOpening (c : Settings) (calls : List Call) (events : List Event) (e : Endpoint) : Type 0 where
  pub first : Endpoint
  pub opens : Opens c first
  pub runs : Runs first calls events e
  pub conv : c.conv < 2 ^ 32
  pub fits : All CallFits calls
