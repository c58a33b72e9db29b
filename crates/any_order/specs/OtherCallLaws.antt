-- A call other than input and opening that leaves snd_nxt leaves snd_una too, and the number, slot, length and fragment number of every
-- outstanding segment: it numbers nothing. From the promises of the public calls alone.
-- Assumes nothing.
use Rattle.std.specs.Prelude.{◌≡◌, refl, Bool, true, false, List, map, ℕ, ◌≤◌}
use Rattle.std.proofs.Common.{sym, ◌∙◌, append-nil, arith}
use Rattle.std.proofs.Math.Path.{ap}
use Rattle.std.proofs.Math.ListN.{length}
use Rattle.protocol.specs.Ranges.{mss}
use Rattle.protocol.specs.Protocol.{send_window}
use Rattle.protocol.specs.Serial.{plus}
use Rattle.protocol.specs.declared.Settings.{Settings}
use Rattle.sizes.specs.Sizes.{enough, enough_to_flush}
use Rattle.retransmission.specs.TransmissionLaws.{transmission_number}
use Rattle.lists.specs.declared.Sent.{Sent}
use Rattle.session.specs.State.{State, Sending, Outcome, refused, done, with_schedule}
use Rattle.session.specs.Sending.{Sends, sending}
use Rattle.session.specs.Flushing.{Flushed, window_of, numbered, numbered_count, with_numbered, ruled, afterwards, flushing}
use Rattle.session.specs.RuleLaws.{sent_after, after_unchanged}
use Rattle.session.specs.Reading.{Reads, reading}
use Rattle.session.specs.Updating as outcome
use Rattle.session.specs.Updating.{Updates, updating}
use Rattle.control.specs.Views.{state_of}
use Rattle.control.specs.declared.Link.{Link}
use Rattle.promises.specs.Parts.{Parts, FlushParts, lengths_of, state_in, is_made, Unchanged}
use Rattle.promises.specs.Outcomes as outcomes
use Rattle.promises.specs.Outcomes.{checked, sends_with, reads_with, flushes_with, updates_with}
use Rattle.promises.specs.Promises.{SendLeaves, ReadLeaves, FlushLeaves, UpdateLeaves}
use Rattle.delivery.specs.SendingFlushes.{window_most}
use Rattle.delivery.specs.CallCases.{sending_cases, reading_cases, updating_cases, scheduled_at}
use Rattle.any_order.specs.Numbers.{seen_by, untimed}
use Rattle.any_order.specs.Hearing.{OtherCall, sends, reads, flushes, updates, NextFixed}

-- the settings stay, and so does what is seen of what is in flight
pub record Leaves (see : Sent → Sent) (l : Link) (p : Parts) (l' : Link) (p' : Parts) : Type 0 where
  pub settings : l'.settings ≡ l.settings
  pub in_flight_lem : seen_by see (state_in l' p').sending ≡ seen_by see (state_in l p).sending

-- ---- what each call gives

-- the same of the state after a call, where snd_nxt is as it was
record Quiet (s s' : State) : Type 0 where
  settings : s'.settings ≡ s.settings
  in_flight_lem : s'.sending.next ≡ s.sending.next → seen_by untimed s'.sending ≡ seen_by untimed s.sending

abbrev SendQuiet : State → Sends → Type 0
SendQuiet s x = Quiet s x.state

abbrev ReadQuiet : State → Reads → Type 0
ReadQuiet s x = Quiet s x.state

abbrev FlushQuiet : State → Flushed → Type 0
FlushQuiet s x = Quiet s x.state

abbrev UpdateQuiet : State → Updates → Type 0
UpdateQuiet s (outcome.waits s') = Quiet s s'
UpdateQuiet s (outcome.flushes x) = FlushQuiet s x

-- of an outcome that is not refused
abbrev Done : {A : Type 0} → (A → Type 0) → Outcome A → Type 0
Done P (refused r) = Unit {0}
Done P (done x) = P x

checked_done : {A : Type 0} (P : A → Type 0) (long made : Bool) (o : Outcome A) → Done P o → Done P (checked long made o)
checked_done P true true o d = d
checked_done P true false o d = tt
checked_done P false made o d = tt

send_quiet : (s : State) (pool message : List ℕ) → Done (SendQuiet s) (sending s pool message)
send_quiet s pool message =
    sending_cases (Done (SendQuiet s)) s pool message (λ r. tt) (λ ok. record { settings = refl; in_flight_lem = λ e. refl })

read_quiet : (s : State) (pool : List ℕ) (room : ℕ) → Done (ReadQuiet s) (reading s pool room)
read_quiet s pool room = reading_cases (Done (ReadQuiet s)) s pool room (λ r. tt) (record { settings = refl; in_flight_lem = λ e. refl })

-- a flush that leaves snd_nxt numbers nothing
none_numbered : (w : ℕ) (s : Sending) → w ≤ send_window → plus s.next (numbered_count w s) ≡ s.next → numbered_count w s ≡ 0
unfolding numbered_count
none_numbered w s h e = omega arith

untimed_after : (c : Settings) (timeout t : ℕ) (x : Sent) → untimed (sent_after c timeout t x) ≡ untimed x
untimed_after c timeout t x = rw (transmission_number c timeout t x.transmissions x.record)

flush_quiet : (s : State) (t : ℕ) (pool : List ℕ) → Quiet s (flushing s t pool).state
unfolding flushing with_numbered numbered
flush_quiet s t pool = record {
  settings = refl;
  in_flight_lem = λ e.
      let d = s.sending in
      let timeout = d.round_trip.timeout in
      let all = with_numbered d (numbered_count (window_of s) d) in
      let same : map untimed (afterwards (ruled s.settings timeout t all)) ≡ map untimed d.outstanding =
      after_unchanged s.settings timeout t untimed (untimed_after s.settings timeout t) all
      ∙ rw (none_numbered (window_of s) d (window_most s) e, append-nil d.outstanding) in
      λ i. record { una = d.una; next = e i; outstanding = same i };
}

update_quiet : (s : State) (t : ℕ) (pool : List ℕ) → UpdateQuiet s (updating s t pool)
update_quiet s t pool =
    let q = flush_quiet (with_schedule s (scheduled_at s t)) t pool in
    updating_cases (UpdateQuiet s) s t pool
    (record { settings = q.settings; in_flight_lem = q.in_flight_lem })
    (record { settings = refl; in_flight_lem = λ e. refl })

-- ---- from the promises

module _ (l : Link) (p : Parts) (l' : Link) (p' : Parts) (fixed : l'.flight.next ≡ l.flight.next) where
  abbrev before : State
  before = state_in l p

  abbrev long : Bool
  long = enough (mss l.settings) (lengths_of p)

  abbrev long_to_flush : FlushParts → Bool
  long_to_flush f = enough_to_flush (mss l.settings) (lengths_of p) (length f.output) (length f.lengths)

  unchanged : Unchanged l l' p p' → Leaves untimed l p l' p'
  unchanged u = record { settings = ap (λ (x : Link). x.settings) u.link; in_flight_lem = rw (u.link, u.parts) }

  -- the block stands for a state after a call
  stands : (s' : State) → state_in l' p' ≡ s' → Quiet before s' → Leaves untimed l p l' p'
  unfolding state_of
  stands s' e q =
      let same = q.in_flight_lem (ap (λ (s : State). s.sending.next) (sym e) ∙ fixed) in
      record {
        settings = ap (λ (s : State). s.settings) e ∙ q.settings;
        in_flight_lem = ap (λ (s : State). seen_by untimed s.sending) e ∙ same;
      }

  sent : (o : Outcome Sends) → Done (SendQuiet before) o → SendLeaves o l l' p p' → Leaves untimed l p l' p'
  sent (refused r) d u = unchanged u
  sent (done x) d h = stands x.state h.stands.state d

  read : (o : Outcome Reads) (buffer buffer' : List ℕ) → Done (ReadQuiet before) o
      → ReadLeaves o l l' p p' buffer buffer' → Leaves untimed l p l' p'
  read (refused r) buffer buffer' d h = unchanged h.unchanged
  read (done x) buffer buffer' d h = stands x.state h.stands.state d

  module _ (f f' : FlushParts) where
    flushed : (o : Outcome Flushed) → Done (FlushQuiet before) o
        → FlushLeaves o l l' p p' f f' → Leaves untimed l p l' p'
    flushed (refused r) d h = unchanged h.unchanged
    flushed (done x) d h = stands x.state h.stands.state d

    updated : (o : Outcome Updates) → Done (UpdateQuiet before) o
        → UpdateLeaves o l l' p p' f f' → Leaves untimed l p l' p'
    updated (refused r) d h = unchanged h.unchanged
    updated (done (outcome.waits s)) d h = stands s h.stands.state d
    updated (done (outcome.flushes x)) d h = stands x.state h.stands.state d

  other_leaves : OtherCall l p l' p' → Leaves untimed l p l' p'
  unfolding sends_with reads_with flushes_with updates_with
  other_leaves (sends message a h) =
      sent (outcomes.sends l p message)
      (checked_done (SendQuiet before) long (is_made l p) (sending before p.send_pool message) (send_quiet before p.send_pool message))
      h.leaves
  other_leaves (reads buffer a buffer' h) =
      let room = length buffer in
      read (outcomes.reads l p room) buffer buffer'
      (checked_done (ReadQuiet before) long (is_made l p) (reading before p.receive_pool room) (read_quiet before p.receive_pool room))
      h.leaves
  other_leaves (flushes t f a f' h) =
      flushed f f' (outcomes.flushes l p f t)
      (checked_done (FlushQuiet before) (long_to_flush f) (is_made l p) (done (flushing before t p.send_pool))
      (flush_quiet before t p.send_pool))
      h.leaves
  other_leaves (updates t f a f' h) =
      updated f f' (outcomes.updates l p f t)
      (checked_done (UpdateQuiet before) (long_to_flush f) (is_made l p) (done (updating before t p.send_pool))
      (update_quiet before t p.send_pool))
      h.leaves

pub next_fixed_leaves : (l : Link) (p : Parts) (l' : Link) (p' : Parts) → NextFixed l p l' p' → Leaves untimed l p l' p'
next_fixed_leaves l p l' p' h = other_leaves l p l' p' h.fixed h.call
