-- The congestion window by computing (request 2026-08): flushes with the setting on and off, growth after a datagram, loss after a flush.
-- Assumes nothing.
use Rattle.std.specs.Prelude.{◌≡◌, refl, List, [], ◌∷◌, map, ℕ, zero, suc, length}
use Rattle.protocol.specs.Protocol.{ack}
use Rattle.protocol.specs.Serial.{signed, is_before, is_after, is_due}
use Rattle.protocol.specs.declared.Settings.{Settings}
use Rattle.datagram.specs.Datagrams.{Segment}
use Rattle.timing.specs.Probes.{next_clock}
use Rattle.timing.specs.RoundTrips.{sampled, next_smoothed, next_variation, least_timeout, timeout_of}
use Rattle.congestion.specs.Congestions.{
  used_window,
  slow_start,
  limited,
  grown,
  after_datagram,
  halved,
  by_skips,
  by_timeout,
  at_least_one,
  after_flush,
}
use Rattle.retransmission.specs.Transmissions.{first_due, growth, longer_timeout, is_skipped, transmission}
use Rattle.lists.specs.declared.Held.{Held}
use Rattle.lists.specs.Acknowledging.{select, first_number_or, skip_before}
use Rattle.session.specs.State.{State, with_queued}
use Rattle.session.specs.Opening.{opened}
use Rattle.session.specs.Flushing.{flushing, numbered_count, with_numbered, numbered, transmitted, written, packed, pack_one}
use Rattle.session.specs.Input as input

-- mss 26, mode 1, one skip makes a fast retransmission
abbrev settings : ℕ → Settings
settings congestion = record { conv = 1; mtu = 50; interval = 100; mode = 1; threshold = 1; stream = 0; congestion = congestion }

-- so many queued segments of no bytes
abbrev queue : ℕ → List Held
queue zero = []
queue (suc n) = record { slot = n; len = 0; fragment = 0 } ∷ queue n

abbrev fresh : ℕ → State
fresh congestion = with_queued (opened (settings congestion)) (queue 3)

unfoldable flushed : State → ℕ → State
flushed s t = (flushing s t []).state

-- an ack of this number, without una
abbrev ack_of : ℕ → Segment
ack_of sn = record { header = record { conv = 1; cmd = ack; frg = 0; wnd = 128; ts = 0; sn = sn; una = 0; len = 0 }; payload = [] }

unfoldable heard : State → List ℕ → State
heard s sns = (input.applied s [] (map ack_of sns)).state

-- numbers outstanding, then window, threshold and allowance
abbrev figures : State → List ℕ
figures s = length s.sending.outstanding ∷ s.congestion.window ∷ s.congestion.threshold ∷ s.congestion.allowance ∷ []

-- with the setting on the first flush sends nothing, the second one segment; with it off the first sends all. The values move either way
first_on : figures (flushed (fresh 1) 0) ≡ 0 ∷ 1 ∷ 2 ∷ 26 ∷ []
unfolding flushed opened flushing used_window numbered_count with_numbered numbered transmission is_due signed first_due at_least_one after_flush
first_on = refl

first_writes : (flushing (fresh 1) 0 []).datagrams ≡ []
unfolding opened flushing used_window numbered_count with_numbered numbered transmitted written packed pack_one next_clock
first_writes = refl

second_on : figures (flushed (flushed (fresh 1) 0) 1) ≡ 1 ∷ 1 ∷ 2 ∷ 26 ∷ []
unfolding flushed opened flushing used_window numbered_count with_numbered numbered transmission is_due signed first_due at_least_one after_flush
second_on = refl

first_off : figures (flushed (fresh 0) 0) ≡ 3 ∷ 1 ∷ 2 ∷ 26 ∷ []
unfolding flushed opened flushing used_window numbered_count with_numbered numbered transmission is_due signed first_due at_least_one after_flush
first_off = refl

-- growth is once a datagram: two acks in one that moved snd_una, and a datagram that did not move it
once : figures (heard (flushed (fresh 0) 0) (0 ∷ 1 ∷ [])) ≡ 1 ∷ 2 ∷ 2 ∷ 52 ∷ []
unfolding flushed heard opened flushing used_window numbered_count with_numbered numbered transmission is_due signed first_due at_least_one
    after_flush input.applied input.all_by_sending input.heard_by_sending input.acknowledged input.sampled_by select skip_before first_number_or
    is_after is_before input.ack_numbers input.furthest input.skipped sampled next_smoothed next_variation least_timeout timeout_of after_datagram
    grown slow_start limited
once = refl

unmoved : figures (heard (flushed (fresh 0) 0) (1 ∷ 2 ∷ [])) ≡ 1 ∷ 1 ∷ 2 ∷ 26 ∷ []
unfolding flushed heard opened flushing used_window numbered_count with_numbered numbered transmission is_due signed first_due at_least_one
    after_flush input.applied input.all_by_sending input.heard_by_sending input.acknowledged input.sampled_by select skip_before first_number_or
    is_after is_before input.ack_numbers input.furthest input.skipped sampled next_smoothed next_variation least_timeout timeout_of after_datagram
    grown slow_start limited
unmoved = refl

-- loss by skips counts what is in flight when the flush has numbered: 0 is skipped, and with 5 more numbers 8 are in flight
skips : figures (flushed (with_queued (heard (flushed (fresh 0) 0) (2 ∷ [])) (queue 5)) 1) ≡ 7 ∷ 5 ∷ 4 ∷ 130 ∷ []
unfolding flushed heard opened flushing used_window numbered_count with_numbered numbered transmission is_due is_skipped signed first_due
    at_least_one after_flush by_skips halved input.applied input.all_by_sending input.heard_by_sending input.acknowledged input.sampled_by select
    skip_before first_number_or is_after is_before input.ack_numbers input.furthest input.skipped sampled next_smoothed next_variation least_timeout
    timeout_of after_datagram
skips = refl

-- loss by timeout halves the window used, here 32
late : figures (flushed (flushed (fresh 0) 0) 200) ≡ 3 ∷ 1 ∷ 16 ∷ 26 ∷ []
unfolding flushed opened flushing used_window numbered_count with_numbered numbered transmission is_due signed first_due growth longer_timeout
    at_least_one after_flush by_timeout halved
late = refl
