-- What the checks of 7 and 13 say to taking in, and what they have established.
-- Assumes nothing.
use Rattle.std.specs.Prelude.{Ok}
use mathlib.Core.Path.{◌≡◌, refl, sym, ◌∙◌}
use mathlib.Core.Bool.{Bool, true}
use mathlib.Core.List.{List}
use Prim.Native.Nat.{ℕ, ◌*◌, ◌≤◌}
use native.Mathlib.Omega.{arith}
use lib.ListN.{length}
use Rattle.protocol.specs.Protocol.{send_slots, receive_slots, acks_most}
use Rattle.protocol.specs.Ranges.{mss}
use Rattle.protocol.specs.Serial.{minus}
use Rattle.congestion.specs.Congestions.{Growable}
use Rattle.congestion.specs.CongestionLaws.{growable}
use Rattle.timing.specs.declared.Record.{Record}
use Rattle.lists.specs.Orders.{sent_offset}
use Rattle.sizes.specs.Sizes.{enough}
use Rattle.sizes.specs.declared.Lengths.{Lengths}
use Rattle.session.specs.Input.{input}
use Rattle.session.specs.Decides.{and_parts, leb_decides, and_decides}
use Rattle.session.specs.Ascending.{ascending_ascends}
use Rattle.session.proofs.ValidDecides.{valid_decides}
use Rattle.control.specs.Views.{arrays_of, Whole, state_of, counts_fit, block_valid, pairs}
use Rattle.control.specs.ViewLaws.{counts}
use Rattle.control.specs.declared.Link.{Link}
use Rattle.checking.specs.Verdicts.{Admitted}
use Rattle.checking.specs.VerdictLaws.{passed_by}
use Rattle.promises.specs.Outcomes.{takes_in_with}
use Rattle.acknowledge.specs.Flights.{View, view, sent_in, InOrder}
use Rattle.receive.specs.Halves.{Half, half_of, Sound}
use Rattle.receive.specs.Pushes.{Marked}
use Rattle.receive.proofs.Starts.{marked_start, sound_start}
use Rattle.input_core.specs.Taking.{Hearable}
use Rattle.answers.specs.Answers.{Answer}

-- the segments in flight of a block, and its receiving half
abbrev pub flight_of : Link → List Record → View
flight_of l records = view l.flight l.outstanding l.transmissions records

abbrev pub receiver_in : Link → Half
receiver_in l = half_of l.arrival l.ready l.waiting l.waiting_numbers

-- ---- the verdict v of both checks on the block l with parts of these lengths

-- the receive pool and the ack list are long enough
record LongEnough (m : ℕ) (n : Lengths) : Type 0 where
  pub receive : receive_slots * m ≤ n.receive
  pub acks : 2 * acks_most ≤ n.acks

long_enough_lem : (m : ℕ) (n : Lengths) → enough m n ≡ true → LongEnough m n
unfolding enough
long_enough_lem m n e =
    let d =
    and_decides
    (and_decides (and_decides (leb_decides (send_slots * m) n.send) (leb_decides (receive_slots * m) n.receive))
    (leb_decides send_slots n.table))
    (leb_decides (2 * acks_most) n.acks) in
    let h = d.holds e in
    record { receive = h.0.0.1; acks = h.1 }

module _ (l : Link) (records : List Record) (n : Lengths) (pool acks send marks : List ℕ) (long : Bool) (v : Answer)
    (e : long ≡ enough (mss l.settings) n) (a : Admitted long l records send marks v) (passes : v ≡ Ok tt) where
  pub admits : (s : List ℕ) → takes_in_with l records acks n pool s ≡ input (state_of l records acks) pool s
  unfolding takes_in_with
  admits s = let p = passed_by long (block_valid l records acks) v (a.verdict acks) passes in rw (← e, p.long_enough_lem, p.valid_block)

  pub hearable : length records ≡ 32 → n.receive ≡ length pool → n.acks ≡ length acks → Hearable l records marks acks pool
  hearable whole many wide =
      let p = passed_by long (block_valid l records acks) v (a.verdict acks) passes in
      let lent = long_enough_lem (mss l.settings) n (sym e ∙ p.long_enough_lem) in
      record {
        checked = (send, a.checked passes);
        whole = whole;
        slots = rw (← many) lent.receive;
        ack_list = rw (← wide) lent.acks;
      }

-- ---- what they have established: both halves may hear a datagram

pub record Established (l : Link) (records : List Record) (marks acks pool : List ℕ) : Type 0 where
  pub counts_fit_lem : counts_fit l ≡ true
  pub order : InOrder (flight_of l records)
  pub marked : Marked (receiver_in l) marks 0
  pub sound : Sound (receiver_in l) (mss l.settings) acks pool
  pub growable_lem : Growable (mss l.settings) l.flight.congestion

pub established : (l : Link) (records : List Record) (marks acks pool : List ℕ) → Hearable l records marks acks pool → Whole (arrays_of l)
    → Established l records marks acks pool
unfolding block_valid counts_fit state_of
established l records marks acks pool ready whole =
    let k = ready.checked.1 in
    let both = and_parts (counts_fit l) _ (sym (k.fits acks)) in
    let few = counts l.flight l.arrival both.0 in
    let made = (valid_decides (state_of l records acks)).holds both.1 in
    record {
      counts_fit_lem = both.0;
      order = record {
        whole = whole.whole_outstanding;
        wholes = whole.whole_transmissions;
        fits = few.outstanding;
        numbers = record {
          ascends = ascending_ascends (sent_offset l.flight.una) (minus l.flight.next l.flight.una)
              (sent_in (flight_of l records)) made.sending.ascending;
          apart = made.sending.apart;
          first = made.sending.first;
        };
      };
      marked = marked_start l.arrival l.ready l.waiting l.waiting_numbers marks (pairs l.arrival.acks acks)
          k.receive_whole (k.receive_free acks refl);
      sound = sound_start l.arrival l.ready l.waiting l.waiting_numbers l.settings l.flight
          (pairs l.arrival.acks acks) acks pool few made.settings made.receiving ready.ack_list ready.slots;
      growable_lem = growable (mss l.settings) l.flight.congestion (omega (arith, made.settings.mtu_least_lem))
          (omega (arith, made.settings.mtu_most_lem))
          made.congestion;
    }
