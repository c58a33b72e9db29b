-- What a flush of a state writes. Definitions.
-- Assumes nothing.
use Rattle.std.specs.Prelude.{◌≡◌, Bool, ◌||◌, List, ℕ}
use Rattle.timing.specs.declared.Record.{Record}
use Rattle.timing.specs.Probes.{next_clock}
use Rattle.lists.specs.declared.Sent.{Sent}
use Rattle.packing.specs.Packers.{carried_of, Output, bytes_of_datagrams}
use Rattle.retransmission.specs.Transmissions.{is_sent}
use Rattle.session.specs.State.{State}
use Rattle.session.specs.Flushing.{Ruled, ruled, some, carried, window_of, numbered_count, with_numbered, flushing}
use Rattle.session.specs.RuleLaws.{losses_at}
use Rattle.numbering.specs.Sents.{SentFront}
use Rattle.transmit.specs.declared.Flush.{Flush}
use Rattle.transmit.specs.declared.Written.{Written}

-- f has the parts of the state s by which its flush at t goes
pub record FlushOf (s : State) (t : ℕ) (f : Flush) : Type 0 where
  pub settings : f.settings ≡ s.settings
  pub carries : carried_of f.carried ≡ carried s
  pub timeout : f.timeout ≡ s.sending.round_trip.timeout
  pub time : f.t ≡ t

-- its outstanding segments, with those that are numbered now
abbrev pub outstanding_now : State → List Sent
outstanding_now s = with_numbered s.sending (numbered_count (window_of s) s.sending)

-- its wish for an ask
abbrev pub asks : State → ℕ → Bool
asks s t = s.ask || (next_clock s.probe t s.sending.window).ask

-- one of them is sent at t
abbrev pub sends_at : State → ℕ → Bool
sends_at s t =
    some (λ (r : Ruled). is_sent r.rule) (ruled s.settings s.sending.round_trip.timeout t (outstanding_now s))

-- what a flush of the state s at t writes: the output has its datagrams, the arrays its outstanding segments, n of them, dead is as after
-- it, late and fast are what it tells of losses, and sent is whether it sends one of them
pub record FlushWrites (s : State) (t : ℕ) (words : List ℕ) (n : ℕ) (pool out lengths : List ℕ) (r : Written)
    (transmissions' : List ℕ) (records' : List Record) (out' lengths' : List ℕ) : Type 0 where
  pub output : Output (bytes_of_datagrams (flushing s t pool).datagrams) out lengths r.count out' lengths'
  pub sent : SentFront words transmissions' records' n (flushing s t pool).state.sending.outstanding
  pub dead : (s.dead || r.told.dead) ≡ (flushing s t pool).state.dead
  pub late : r.told.late ≡ (losses_at s t).late
  pub fast : r.told.fast ≡ (losses_at s t).fast
  pub sends : r.told.sent ≡ sends_at s t
