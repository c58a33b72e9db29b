-- Three datagrams on a link with the segments 0 to 3 outstanding, heard in two orders, with one of them twice, and as one datagram. The
-- same is left in flight, and what is not claimed differs. Proved by computing.
-- Assumes nothing.
use Rattle.std.specs.Prelude.{◌≡◌, refl, ℕ}
use mathlib.Core.List.{List, [], ◌∷◌, ◌++◌, map, Memᴰ}
use Rattle.protocol.specs.Protocol.{ack, window_tell}
use Rattle.protocol.specs.Serial.{signed, is_before, is_after, is_due}
use Rattle.protocol.specs.declared.Settings.{Settings}
use Rattle.datagram.specs.Datagrams.{Segment}
use Rattle.timing.specs.RoundTrips.{next_smoothed, next_variation, least_timeout, timeout_of, sampled}
use Rattle.retransmission.specs.Transmissions.{first_due, growth, longer_timeout, is_skipped, transmission}
use Rattle.lists.specs.declared.Held.{Held}
use Rattle.lists.specs.declared.Sent.{Sent}
use Rattle.lists.specs.Acknowledging.{select, first_number_or, skip_before}
use Rattle.session.specs.State.{State, Sending, with_queued}
use Rattle.session.specs.Opening.{opened}
use Rattle.congestion.specs.Congestions.{used_window}
use Rattle.session.specs.Flushing.{numbered, numbered_count, with_numbered, flushing}
use Rattle.session.specs.Input.{acknowledged, sampled_by, heard_by_sending, all_by_sending, ack_numbers, furthest, skipped, applied}
use Rattle.any_order.specs.Numbers.{numbers_in, applied_all, seen_by, unskipped}
use Rattle.any_order.specs.NumberLaws.{same_of_all}
use Rattle.any_order.proofs.NumberLaws.{same_in_any_order}

-- ---- the link

abbrev c : Settings
c = record { conv = 1; mtu = 50; interval = 100; mode = 0; threshold = 2; stream = 0; congestion = 0 }

abbrev held : ℕ → Held
held slot = record { slot = slot; len = 1; fragment = 0 }

-- four messages of one byte, sent by a flush at 100; a flush at 160 sends nothing
unfoldable pub sent : State
sent = (flushing (flushing (with_queued (opened c) (held 0 ∷ held 1 ∷ held 2 ∷ held 3 ∷ [])) 100 []).state 160 []).state

-- ---- the datagrams

abbrev segment : ℕ → ℕ → ℕ → ℕ → ℕ → Segment
segment cmd wnd ts sn una =
    record { header = record { conv = 1; cmd = cmd; frg = 0; wnd = wnd; ts = ts; sn = sn; una = una; len = 0 }; payload = [] }

-- an ack of 3, an ack of 2, and a window tell with una 1
abbrev pub ack3 : List Segment
ack3 = segment ack 40 100 3 0 ∷ []

abbrev pub ack2 : List Segment
ack2 = segment ack 50 60 2 0 ∷ []

abbrev pub una1 : List Segment
una1 = segment window_tell 60 0 0 1 ∷ []

-- the sending half after these datagrams
unfoldable pub after : List (List Segment) → Sending
after l = (applied_all (record { state = sent; pool = [] }) l).state.sending

abbrev pub in_order : List (List Segment)
in_order = ack3 ∷ ack2 ∷ una1 ∷ []

abbrev pub reversed : List (List Segment)
reversed = una1 ∷ ack2 ∷ ack3 ∷ []

abbrev pub one_twice : List (List Segment)
one_twice = ack3 ∷ ack2 ∷ una1 ∷ ack3 ∷ []

abbrev pub as_one : List (List Segment)
as_one = (ack3 ++ (ack2 ++ una1)) ∷ []

-- ---- by the theorem

turned : {A : Type 0} (x y z a : A) → Memᴰ a (x ∷ y ∷ z ∷ []) → Memᴰ a (z ∷ y ∷ x ∷ [])
turned x y z a (Memᴰ.head e) = Memᴰ.tail (Memᴰ.tail (Memᴰ.head e))
turned x y z a (Memᴰ.tail (Memᴰ.head e)) = Memᴰ.tail (Memᴰ.head e)
turned x y z a (Memᴰ.tail (Memᴰ.tail (Memᴰ.head e))) = Memᴰ.head e
turned x y z a (Memᴰ.tail (Memᴰ.tail (Memᴰ.tail m))) = elim m [ ]

pub same_left : seen_by unskipped (after in_order) ≡ seen_by unskipped (after reversed)
unfolding after
same_left =
    same_in_any_order (record { state = sent; pool = [] }) in_order reversed
    (same_of_all numbers_in in_order reversed (λ a. (turned ack3 ack2 una1 a, turned una1 ack2 ack3 a)))

-- ---- by computing

pub record Seen : Type 0 where
  pub numbers : List ℕ
  pub una : ℕ
  pub skips : List ℕ
  pub window : ℕ
  pub smoothed : ℕ

abbrev seen : Sending → Seen
seen s =
    record {
      numbers = map (λ (x : Sent). x.record.number) s.outstanding;
      una = s.una;
      skips = map (λ (x : Sent). x.record.skips) s.outstanding;
      window = s.window;
      smoothed = s.round_trip.smoothed;
    }

-- four are outstanding at first; then always 1 alone, and snd_una is 1. The peer's window and the smoothed time go by the order; the skip
-- count of segment 1 by how many datagrams with a later ack come
pub seen_after_lem :
    (seen sent.sending ≡ record { numbers = 0 ∷ 1 ∷ 2 ∷ 3 ∷ []; una = 0; skips = 0 ∷ 0 ∷ 0 ∷ 0 ∷ []; window = 128; smoothed = 0 })
    × (seen (after in_order) ≡ record { numbers = 1 ∷ []; una = 1; skips = 2 ∷ []; window = 60; smoothed = 65 })
    × (seen (after reversed) ≡ record { numbers = 1 ∷ []; una = 1; skips = 2 ∷ []; window = 40; smoothed = 95 })
    × (seen (after one_twice) ≡ record { numbers = 1 ∷ []; una = 1; skips = 3 ∷ []; window = 40; smoothed = 64 })
    × (seen (after as_one) ≡ record { numbers = 1 ∷ []; una = 1; skips = 1 ∷ []; window = 60; smoothed = 65 })
unfolding sent after applied_all opened flushing used_window numbered numbered_count with_numbered first_due growth longer_timeout is_skipped
    transmission
    applied acknowledged heard_by_sending all_by_sending ack_numbers furthest skipped sampled_by sampled next_smoothed next_variation
    least_timeout timeout_of select first_number_or skip_before signed is_before is_after is_due
seen_after_lem = (refl, refl, refl, refl, refl)
