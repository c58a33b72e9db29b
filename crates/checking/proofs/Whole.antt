-- The whole block: its numbers, then its halves.
-- Assumes nothing.
use mathlib.Core.Path.{◌≡◌, refl, sym, ◌∙◌}
use mathlib.Core.Bool.{Bool, true, false, not, ◌&&◌, and-false, false≢true}
use mathlib.Core.List.{List}
use Prim.Native.Nat.{ℕ, ◌≤◌, ◌<◌, ◌^◌}
use native.Mathlib.Omega.{arith}
use lib.ListN.{length, take}
use Rattle.protocol.specs.Ranges.{in_range, mss}
use Rattle.protocol.specs.declared.Settings.{Settings}
use Rattle.congestion.specs.Congestions.{fits}
use Rattle.timing.specs.declared.Record.{Record}
use Rattle.slots.specs.Slots.{all_below}
use Rattle.session.specs.Decides.{and_parts}
use Rattle.session.specs.State.{send_held, receive_held, slots}
use Rattle.session.specs.Valid.{round_trip_fits, probe_fits, valid}
use Rattle.marks.specs.Marks.{none, none_to_send, marked_all, Free}
use Rattle.marks.specs.MarkLaws.{free_start}
use Rattle.control.specs.declared.Link.{Link}
use Rattle.control.specs.declared.Flight.{Flight}
use Rattle.control.specs.declared.Arrival.{Arrival}
use Rattle.control.specs.declared.Clock.{Clock}
use Rattle.control.specs.Views.{pairs, Arrays, link_of, Whole, state_of, counted, counts_fit, block_valid}
use Rattle.control.specs.ViewLaws.{pairs_most, Counts, counts}
use Rattle.checking.specs.Tests.{
  numbers_fit,
  flight_fits,
  send_slots_in,
  receive_slots_in,
  sending_fits,
  receiving_fits,
  SendingFits,
  ReceivingFits,
}
use Rattle.checking.specs.Verdicts.{Checked}
use Rattle.checking.proofs.Turns.{not-true, not-false}
use Rattle.checking.proofs.Joins.{both_low, send_low}
use Rattle.checking.proofs.Halves.{send_slots_lem, sending_checked, receive_slots_lem, receiving_checked}

abbrev trip : Settings → Flight → Bool
trip s f = round_trip_fits s.mode f.rtt

abbrev congested : Settings → Flight → Bool
congested s f = fits f.congestion (mss s)

module _ (s : Settings) (f : Flight) (a : Arrival) (k : Clock) where
  -- where the numbers fit: what they say of each
  record Numbers : Type 0 where
    pub counting : counted f a ≡ true
    pub ranges : in_range s ≡ true
    pub round : trip s f ≡ true
    pub probing : probe_fits k.probe ≡ true
    pub congesting : congested s f ≡ true

  numbers_of : true ≡ numbers_fit s f a k → Numbers
  numbers_of e =
      let g₀ = and_parts (counted f a && in_range s && trip s f && probe_fits k.probe) (congested s f) (sym e) in
      let g₁ = and_parts (counted f a && in_range s && trip s f) (probe_fits k.probe) g₀.0 in
      let g₂ = and_parts (counted f a && in_range s) (trip s f) g₁.0 in
      let g₃ = and_parts (counted f a) (in_range s) g₂.0 in
      record { counting = g₃.0; ranges = g₃.1; round = g₂.1; probing = g₁.1; congesting = g₀.1 }

module _ (s : Settings) (f : Flight) (a : Arrival) (k : Clock) (x : Arrays) (rs : List Record) (whole : Whole x) (many : length rs ≡ 32)
    (below : a.expected < 2 ^ 32) where
  abbrev link : Link
  link = link_of s f a k x

  abbrev sends : Bool
  sends = sending_fits (mss s) (take f.queued x.queued) (take f.outstanding x.outstanding) (take f.outstanding x.transmissions)

  abbrev flies : Bool
  flies = flight_fits s.mode f.una f.next (take f.outstanding rs)

  abbrev receives : Bool
  receives = receiving_fits (mss s) a.expected (take a.ready x.ready) (take a.waiting x.waiting) (take a.waiting x.numbers)

  -- the slots held
  abbrev send_holds : List ℕ
  send_holds = send_slots_in (take f.queued x.queued) (take f.outstanding x.outstanding)

  abbrev receive_holds : List ℕ
  receive_holds = receive_slots_in (take a.ready x.ready) (take a.waiting x.waiting)

  module _ (acks : List ℕ) (e : counted f a ≡ true) where
    n : Counts f a
    n = counts f a e

    long : f.outstanding ≤ length x.outstanding
    long = omega (arith, n.outstanding, whole.whole_outstanding)

    sent : f.outstanding ≤ length x.transmissions
    sent = omega (arith, n.outstanding, whole.whole_transmissions)

    has : f.outstanding ≤ length rs
    has = omega (arith, n.outstanding)

    ready : a.ready ≤ length x.ready
    ready = omega (arith, n.ready, whole.whole_ready)

    waiting : a.waiting ≤ length x.waiting
    waiting = omega (arith, n.waiting, whole.whole_waiting)

    side : a.waiting ≤ length x.numbers
    side = omega (arith, n.waiting, whole.whole_numbers)

    block_parts : block_valid link rs acks ≡ (in_range s && (sends && flies && trip s f) && receives && probe_fits k.probe && congested s f)
    unfolding block_valid counts_fit valid state_of
    block_parts =
        let noted : length (pairs a.acks acks) ≤ 256 = omega (arith, pairs_most a.acks acks, n.acks) in
        rw (
          e,
          ← sending_checked f x.queued x.outstanding x.transmissions rs long sent has s,
          ← receiving_checked a x.ready x.waiting x.numbers ready waiting side (pairs a.acks acks) s n.ready n.waiting noted
              below,
        ) refl

    sent_free : all_below 128 send_holds ≡ true
        → Free (marked_all none_to_send send_holds) (slots (send_held (state_of link rs acks).sending)) 0
    unfolding state_of
    sent_free low = rw (send_slots_lem f x.queued x.outstanding x.transmissions rs long sent has) (free_start 128 send_holds low)

    got_free : Free (marked_all none receive_holds) (slots (receive_held (state_of link rs acks).receiving)) 0
    unfolding state_of
    got_free = rw (receive_slots_lem a x.ready x.waiting x.numbers ready waiting side (pairs a.acks acks))
        (free_start 256 receive_holds (both_low (take a.ready x.ready) (take a.waiting x.waiting)))

  -- the numbers do not fit
  pub unfit : (send receive : List ℕ) → false ≡ numbers_fit s f a k → length send ≡ 128 → length receive ≡ 256
      → Checked link rs send receive false
  unfolding block_valid counts_fit
  unfit send receive e es er =
      record {
        send_whole = es;
        receive_whole = er;
        fits = λ acks. go acks (counted f a) refl;
        send_free = λ acks z. absurd (false≢true z);
        receive_free = λ acks z. absurd (false≢true z);
      }
    where
      never : (g t p c x y : Bool) → (g && t && p && c) ≡ false → false ≡ (g && (x && t) && y && p && c)
      never false t p c x y e = refl
      never true false p c x y e = rw (and-false x) refl
      never true true false c x y e = rw (and-false (x && true && y)) refl
      never true true true false x y e = sym (and-false (x && true && y && true))
      never true true true true x y e = absurd (false≢true (sym e))

      go : (acks : List ℕ) (z : Bool) → counted f a ≡ z → false ≡ block_valid link rs acks
      go acks false z = rw z refl
      go acks true z =
          never (in_range s) (trip s f) (probe_fits k.probe) (congested s f) (sends && flies) receives (sym (rw z at e))
          ∙ sym (block_parts acks z)

  -- the sending half does not fit
  pub unsent : (p : ℕ) (send receive : List ℕ) (z : Bool) → true ≡ numbers_fit s f a k → p ≡ mss s → not z ≡ true
      → SendingFits p (take f.queued x.queued) (take f.outstanding x.outstanding) (take f.outstanding x.transmissions) send z
      → length receive ≡ 256
      → Checked link rs send receive false
  unsent p send receive z e ep ez h er =
      let g = numbers_of s f a k e in
      record {
        send_whole = h.whole;
        receive_whole = er;
        fits = λ acks. rw (block_parts acks g.counting, g.ranges, ← ep, ← h.fits, not-true z ez) refl;
        send_free = λ acks z. absurd (false≢true z);
        receive_free = λ acks z. absurd (false≢true z);
      }

  -- its slots are below 128 where it does
  sends_low : (p : ℕ) (send : List ℕ) (z : Bool) → not z ≡ false
      → SendingFits p (take f.queued x.queued) (take f.outstanding x.outstanding) (take f.outstanding x.transmissions) send z
      → all_below 128 send_holds ≡ true
  sends_low p send z ez h =
      let fit = (and_parts _ _ (sym h.fits ∙ not-false z ez)).0 in
      let both = and_parts _ _ (and_parts _ _ fit).0 in
      send_low (take f.outstanding x.outstanding) (take f.queued x.queued) p both.1 both.0

  -- it does, and the receiving half and the records decide
  pub sent_fits_lem : (p : ℕ) (send receive : List ℕ) (z y flown : Bool) → true ≡ numbers_fit s f a k → p ≡ mss s → not z ≡ false
      → SendingFits p (take f.queued x.queued) (take f.outstanding x.outstanding) (take f.outstanding x.transmissions) send z
      → flown ≡ flies
      → ReceivingFits p a.expected (take a.ready x.ready) (take a.waiting x.waiting) (take a.waiting x.numbers) receive y
      → Checked link rs send receive (y && flown)
  sent_fits_lem p send receive z y flown e ep ez h₁ h₂ h₃ =
      let g = numbers_of s f a k e in
      record {
        send_whole = h₁.whole;
        receive_whole = h₃.whole;
        fits = λ acks. rw (
          block_parts acks g.counting,
          g.ranges,
          g.round,
          g.probing,
          g.congesting,
          ← ep,
          ← h₁.fits,
          not-false z ez,
          ← h₂,
          ← h₃.fits,
        ) (turn y flown);
        send_free = λ acks g₁. rw (h₁.marked (not-false z ez)) (sent_free acks g.counting (sends_low p send z ez h₁));
        receive_free = λ acks g₁. rw (h₃.marked (and_parts y flown g₁).0) (got_free acks g.counting);
      }
    where
      turn : (b c : Bool) → (b && c) ≡ (true && (true && c && true) && b && true && true)
      turn true true = refl
      turn true false = refl
      turn false true = refl
      turn false false = refl
