-- What a flush numbers is what its datagrams show: pushes of older segments never carry the next number, and the new ones carry it in turn,
-- for numbers that wrap.
-- Assumes nothing.
use Rattle.std.specs.Prelude.{◌≡◌, refl, Bool, true, false, ◌||◌, length, take}
use Rattle.std.proofs.Math.Path.{sym, ap}
use Rattle.std.proofs.Common.{◌∙◌, arith}
use mathlib.Core.List.{List, [], ◌∷◌, ◌++◌, map, flatten, append_assoc, append-nil}
use Prim.Native.Nat.{ℕ, ◌+◌, ◌%◌, ◌^◌, ◌<◌}
use borrow.Author.Tests.{eq-eqb, ne_eqb}
use Rattle.std.proofs.Math.ListN.{length-append}
use Rattle.protocol.specs.Protocol.{window_ask, window_tell}
use Rattle.protocol.specs.Ranges.{mss}
use Rattle.protocol.specs.Serial.{plus, minus}
use Rattle.protocol.specs.declared.Settings.{Settings}
use Rattle.datagram.specs.Datagrams.{Segment, Parsed, parse}
use Rattle.retransmission.specs.TransmissionLaws.{transmission_number}
use Rattle.timing.specs.Probes.{next_clock}
use Rattle.timing.specs.declared.Record.{Record}
use Rattle.lists.specs.declared.Held.{Held}
use Rattle.lists.specs.declared.Sent.{Sent}
use Rattle.lists.specs.Orders.{sent_offset}
use Rattle.session.specs.State.{Sending, Ack}
use Rattle.session.specs.Valid.{valid}
use Rattle.session.specs.Flushing.{numbered, window_of, numbered_count, with_numbered, ruled, afterwards, transmitted, Carried, carried, ack_segment, control, data_segment, wished, written, bytes_of_segments, packed, flushing}
use Rattle.session.specs.Calls.{Station}
use Rattle.session.specs.Decides.{All}
use Rattle.session.specs.AllLaws.{all_any, all_append, all_mapped}
use Rattle.session.specs.Ascending.{Ascends}
use Rattle.delivery.specs.Accepted.{is_next, with_push, numbered_in, numbered_in_parsed, numbered_in_all}
use Rattle.delivery.specs.StateRange.{CarryFits}
use Rattle.session.specs.MapLaws.{map-append}
use Rattle.session.specs.RuleLaws.{sent_after, all_transmitted, sent_append}
use Rattle.delivery.specs.SendPool.{piece_in}
use Rattle.delivery.specs.SendingHalf.{Half}
use Rattle.delivery.specs.SendingFlushes.{window_most, count_few, count_room}
use Rattle.delivery.specs.SendingStays.{SendingInOrder, half_in}
use Rattle.delivery.specs.PackingLaws.{packed_flat}
use Rattle.delivery.specs.WireLaws.{written_parts}
use Rattle.delivery.specs.FlushLaws.{FlushWrites, sent_with, valid_parts, flush_writes_any}
use Rattle.delivery.specs.Numbering.{payloads}
use Rattle.delivery.specs.SentGenuine.{transmitted_new}

-- ---- what segments number

pub numbered_append : (l : List (List ℕ)) (a b : List Segment) → numbered_in l (a ++ b) ≡ numbered_in (numbered_in l a) b
unfolding numbered_in
numbered_append l [] b = refl
numbered_append l (g ∷ a) b = numbered_append (with_push l g) a b

-- segments that number nothing
abbrev Other : List (List ℕ) → Segment → Type 0
Other l g = is_next l g ≡ false

numbers_none : (l : List (List ℕ)) (gs : List Segment) → All (Other l) gs → numbered_in l gs ≡ l
unfolding numbered_in
numbers_none l [] a = refl
numbers_none l (g ∷ gs) a = rw a.0 (numbers_none l gs a.1)

-- datagrams that parse to their segments
in_all : (c : Settings) (l : List (List ℕ)) (ds : List (List Segment)) →
    All (λ (d : List Segment). parse c.conv (mss c) (bytes_of_segments d) ≡ Parsed.segments d) ds →
    numbered_in_all c l (map bytes_of_segments ds) ≡ numbered_in l (flatten ds)
unfolding numbered_in_all numbered_in flatten
in_all c l [] a = refl
in_all c l (d ∷ ds) a =
    ap (λ (r : Parsed). numbered_in_all c (numbered_in_parsed l r) (map bytes_of_segments ds)) a.0
    ∙ in_all c (numbered_in l d) ds a.1
    ∙ sym (numbered_append l d (flatten ds))

pub all_append_numbered : (c : Settings) (l : List (List ℕ)) (a b : List (List ℕ)) →
    numbered_in_all c l (a ++ b) ≡ numbered_in_all c (numbered_in_all c l a) b
unfolding numbered_in_all
all_append_numbered c l [] b = refl
all_append_numbered c l (d ∷ a) b = all_append_numbered c (numbered_in_parsed l (parse c.conv (mss c) d)) a b

-- ---- what a flush's segments number

module _ (c : Settings) (link t : ℕ) (by : Carried) (m : ℕ) (pool : List ℕ) where
  -- the newly numbered ones, from the next number on
  numbers_new : (n : ℕ) (q : List Held) (l : List (List ℕ)) → n ≡ length l % 2 ^ 32 →
      numbered_in l (map (data_segment by m t pool) (map (sent_after c link t) (numbered n q))) ≡ l ++ payloads (map (piece_in m pool) q)
  unfolding numbered_in numbered
  numbers_new n [] l e = sym (append-nil l)
  numbers_new n (h ∷ q) l e =
      let r : Record = record { number = n; due = 0; timeout = 0; skips = 0 } in
      let p : List ℕ = (piece_in m pool h).payload in
      rw (transmission_number c link t 0 r, eq-eqb n (length l % 2 ^ 32) e)
      (numbers_new (plus n 1) q (l ++ (p ∷ [])) (simp length-append (omega (arith, e)))
      ∙ append_assoc l (p ∷ []) (payloads (map (piece_in m pool) q)))

-- outstanding numbers are not the next one
not_next : (una next least : ℕ) (l : List Sent) → Ascends (sent_offset una) least (minus next una) l →
    All (λ (x : Sent). x.record.number ≡ next → ⊥) l
not_next una next least [] a = tt
not_next una next least (x ∷ l) a =
    ((λ e. absurd (omega (arith, a.1, ap (λ (n : ℕ). minus n una) e))), not_next una next (sent_offset una x + 1) l a.2)

wished_all : (P : Segment → Type 0) (b : Bool) (g : Segment) → P g → All P (wished b g)
wished_all P true g h = (h, tt)
wished_all P false g h = tt

module _ (s : Station) (made : valid s.state ≡ true) (conv32 : s.state.settings.conv < 2 ^ 32)
    (o : SendingInOrder s.state.settings s) (carry : CarryFits s.state.receiving)
    (t : ℕ) (time : t < 2 ^ 32) (l : List (List ℕ)) (e : s.state.sending.next ≡ length l % 2 ^ 32) where
  abbrev c : Settings
  c = s.state.settings

  abbrev d : Sending
  d = s.state.sending

  abbrev k : ℕ
  k = numbered_count (window_of s.state) s.state.sending

  abbrev link : ℕ
  link = s.state.sending.round_trip.timeout

  abbrev ask : Bool
  ask = s.state.ask || (next_clock s.state.probe t s.state.sending.window).ask

  abbrev new : List Held
  new = take (numbered_count (window_of s.state) s.state.sending) s.state.sending.queued

  abbrev segs : List Segment
  segs = written s.state t s.send_pool ask (sent_with c t k d)

  abbrev data_of : Sent → Segment
  data_of x = data_segment (carried s.state) (mss s.state.settings) t s.send_pool x

  half : Half c d
  half = half_in c s o

  parts : FlushWrites c (packed c.mtu segs)
  parts =
      let p = valid_parts s.state made in
      flush_writes_any s.state t k s.send_pool ask p.range p.few_acks (count_few (window_of s.state) d)
      (count_room (window_of s.state) d (window_most s.state) half.numbers.apart) half conv32 carry time o.long

  abbrev old : List Sent
  old = transmitted (ruled c link t d.outstanding)

  split : sent_with c t k d ≡ old ++ map (sent_after c link t) (numbered d.next new)
  unfolding with_numbered
  split = sent_append c link t d.outstanding (numbered d.next new)
      ∙ ap (λ (r : List Sent). old ++ r) (transmitted_new c link t d.next new)

  old_others : All (Other l) (map data_of old)
  old_others =
      all_mapped (Other l) data_of old
      (all_transmitted (λ (x : Sent). Other l (data_of x)) (ruled c link t d.outstanding)
      (go d.outstanding (not_next d.una d.next 0 d.outstanding half.numbers.ascends)))
    where
      go : (r : List Sent) → All (λ (x : Sent). x.record.number ≡ d.next → ⊥) r →
          All (λ (x : Sent). Other l (data_of x)) (afterwards (ruled c link t r))
      go [] a = tt
      go (x ∷ r) a = (
        rw (transmission_number c link t x.transmissions x.record)
            (ne_eqb x.record.number (length l % 2 ^ 32) (λ q. a.0 (q ∙ sym e))),
        go r a.1,
      )

  abbrev acks : List Segment
  acks = map (ack_segment (carried s.state)) s.state.receiving.acks

  abbrev asks : List Segment
  asks = wished ask (control (carried s.state) window_ask 0 0)

  abbrev tells : List Segment
  tells = wished s.state.receiving.tell (control (carried s.state) window_tell 0 0)

  controls : All (Other l) (acks ++ (asks ++ tells))
  controls =
      all_append (Other l) acks (asks ++ tells)
      (all_mapped (Other l) (ack_segment (carried s.state)) s.state.receiving.acks
      (all_any (λ (a : Ack). Other l (ack_segment (carried s.state) a)) (λ a. refl) s.state.receiving.acks))
      (all_append (Other l) asks tells (wished_all (Other l) ask (control (carried s.state) window_ask 0 0) refl)
      (wished_all (Other l) s.state.receiving.tell (control (carried s.state) window_tell 0 0) refl))

  -- all that is written: what numbers nothing, then the new ones
  apart : segs ≡ ((acks ++ (asks ++ tells)) ++ map data_of old) ++ map data_of (map (sent_after c link t) (numbered d.next new))
  apart =
      written_parts s.state t s.send_pool ask (sent_with c t k d)
      ∙ ap (λ (r : List Sent). acks ++ (asks ++ (tells ++ map data_of r))) split
      ∙ ap (λ (r : List Segment). acks ++ (asks ++ (tells ++ r)))
      (map-append data_of old (map (sent_after c link t) (numbered d.next new)))
      ∙ sym
      (ap (λ (r : List Segment). r ++ fresh)
      (append_assoc acks (asks ++ tells) (map data_of old) ∙ ap (λ (r : List Segment). acks ++ r) (append_assoc asks tells (map data_of old)))
      ∙ append_assoc acks (asks ++ (tells ++ map data_of old)) fresh
      ∙ ap (λ (r : List Segment). acks ++ r)
      (append_assoc asks (tells ++ map data_of old) fresh
      ∙ ap (λ (r : List Segment). asks ++ r) (append_assoc tells (map data_of old) fresh)))
    where
      fresh : List Segment
      fresh = map data_of (map (sent_after c link t) (numbered d.next new))

  pub flush_numbers : numbered_in_all c l (map bytes_of_segments (flushing s.state t s.send_pool).datagrams) ≡ l ++ payloads
      (map (piece_in (mss c) s.send_pool) new)
  unfolding flushing
  flush_numbers =
      in_all c l (packed c.mtu segs) parts.parsed
      ∙ ap (numbered_in l) (packed_flat c.mtu segs ∙ apart)
      ∙ numbered_append l ((acks ++ (asks ++ tells)) ++ map data_of old) fresh
      ∙ ap (λ (r : List (List ℕ)). numbered_in r fresh)
      (numbers_none l ((acks ++ (asks ++ tells)) ++ map data_of old)
      (all_append (Other l) (acks ++ (asks ++ tells)) (map data_of old) controls old_others))
      ∙ numbers_new c link t (carried s.state) (mss c) s.send_pool d.next new l e
    where
      fresh : List Segment
      fresh = map data_of (map (sent_after c link t) (numbered d.next new))
