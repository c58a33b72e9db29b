-- What both halves have heard, together, is the definition's input.
-- Assumes nothing.
use Rattle.std.specs.Prelude.{Ok, Err}
use mathlib.Core.Path.{◌≡◌, refl, sym, ap, ◌∙◌}
use mathlib.Core.Bool.{true}
use mathlib.Core.List.{List}
use Prim.Native.Nat.{ℕ}
use borrow.Author.Tests.{le-leb}
use lib.ListN.{length}
use Rattle.protocol.specs.Ranges.{mss}
use Rattle.protocol.specs.declared.Refusal.{Refusal}
use Rattle.timing.specs.declared.Record.{Record}
use Rattle.datagram.specs.Datagrams.{parse, counted}
use Rattle.datagram.specs.StepLaws.{Begun, accepted, was_refused}
use Rattle.session.specs.State.{Sending, Outcome, refused, done}
use Rattle.session.specs.Input.{Receiver, Took, all_by_receiving, applied, input}
use Rattle.control.specs.Views.{arrays, link_of, state_of, counts_fit, pairs, receiving_of}
use Rattle.control.specs.ViewLaws.{counts}
use Rattle.control.specs.declared.Link.{Link}
use Rattle.control.specs.declared.Flight.{Flight}
use Rattle.control.specs.declared.Arrival.{Arrival}
use Rattle.acknowledge.specs.Flights as sending
use Rattle.receive.specs.Halves as receiving
use Rattle.receive.proofs.Starts.{receiver_view}
use Rattle.input_core.specs.Taking.{grown_from, Takes}
use Rattle.input_core.proofs.Checks.{flight_of, receiver_in}

-- ---- refused, by a check before the call or by one of the datagram

pub takes_nothing : (o : Outcome Took) (l : Link) (pool acks : List ℕ) (records : List Record) (q : Refusal) → o ≡ refused q
    → Takes o l pool acks (Err q) l records pool acks
takes_nothing o l pool acks records q e = rw e (record { answer = refl; link = refl; puts = refl; pool_same = refl; acks_same = refl })

-- m is the mss of the settings: what the check of the datagram s answers
pub not_taken : (l : Link) (records records' : List Record) (acks pool s : List ℕ) (m : ℕ) → m ≡ mss l.settings → (q : Refusal)
    → Err q ≡ counted 0 (parse l.settings.conv m s)
    → Takes (input (state_of l records acks) pool s) l pool acks (Err q) l records' pool acks
unfolding input state_of
not_taken l records records' acks pool s m e q c =
    takes_nothing (input (state_of l records acks) pool s) l pool acks records' q
    (rw (was_refused 0 (parse l.settings.conv (mss l.settings) s) q (rw e at (sym c))))

-- ---- accepted

pub begun : (l : Link) (s : List ℕ) (m : ℕ) → m ≡ mss l.settings → (n : ℕ) → Ok n ≡ counted 0 (parse l.settings.conv m s)
    → Begun l.settings.conv (mss l.settings) s n
begun l s m e n c = accepted l.settings.conv (mss l.settings) s n (rw e at (sym c))

-- the block l, with these halves after the datagram s
module _ (l : Link) (records : List Record) (pool acks s : List ℕ) (f : Flight) (a : Arrival)
    (words transmissions ready waiting numbers : List ℕ) (records' : List Record) (pool' acks' : List ℕ) (n : ℕ)
    (b : Begun l.settings.conv (mss l.settings) s n) where
  abbrev after : Link
  after = link_of l.settings (grown_from l.settings l.flight f) a l.clock
      (arrays l.queued words transmissions ready waiting numbers)

  module _ (x : sending.HearsAll l.settings l.clock.current s (flight_of l records) (sending.view f words transmissions records'))
      (y : receiving.HearsAll l.settings s (receiver_in l) acks pool (receiver_in after) acks' pool') where
    -- the receiving half and the pool
    received : record { half = receiving_of a ready waiting numbers (pairs a.acks acks'); pool = pool' }
        ≡ all_by_receiving (mss l.settings) (record
        { half = receiving_of l.arrival l.ready l.waiting l.waiting_numbers (pairs l.arrival.acks acks); pool = pool })
        b.all
    received =
        sym (receiver_view a ready waiting numbers acks' pool')
        ∙ (y b.all b.parsed).is
        ∙ ap (λ (z : Receiver). all_by_receiving (mss l.settings) z b.all)
        (receiver_view l.arrival l.ready l.waiting l.waiting_numbers acks pool)

    outcome : input (state_of l records acks) pool s ≡ done (record { state = state_of after records' acks'; pool = pool' })
    unfolding input applied state_of
    outcome =
        let half = (x b.all b.parsed).half l.queued in
        rw (
          b.parsed,
          half,
          ap (λ (z : Sending). z.una) half,
          ap (λ (z : Sending). z.window) half,
          ap (λ (z : Receiver). z.half) received,
          ap (λ (z : Receiver). z.pool) received,
        )

    counts_after : counts_fit l ≡ true → counts_fit after ≡ true
    unfolding counts_fit
    counts_after e =
        let k = counts l.flight l.arrival e in
        let h = x b.all b.parsed in
        let u = (y b.all b.parsed).sound in
        rw (h.queue, le-leb _ _ k.queued, le-leb _ _ h.fits, le-leb _ _ u.ready, le-leb _ _ u.waiting, le-leb _ _ u.noted)

    pub takes_all : counts_fit l ≡ true → length acks' ≡ length acks → (g : Flight) → g ≡ grown_from l.settings l.flight f
        → Takes (input (state_of l records acks) pool s) l pool acks (Ok g.outstanding)
        (link_of l.settings g a l.clock (arrays l.queued words transmissions ready waiting numbers)) records' pool' acks'
    takes_all e long g q =
        rw (q, outcome)
        (record {
          answer = refl;
          counts = counts_after e;
          state = refl;
          puts = record { words = refl; changed = refl };
          pool = refl;
          ack_length_lem = long;
          ack_rest_lem = (y b.all b.parsed).beyond;
        })
