-- The loop over a datagram's segments: what has been heard, and what remains, together are the whole.
-- Assumes nothing.
use Rattle.std.specs.Prelude.{Option, Some, None}
use mathlib.Core.Path.{◌≡◌, refl, sym, ◌∙◌}
use mathlib.Core.List.{List, []}
use Prim.Native.Nat.{ℕ, ◌-◌, ◌<◌}
use native.Mathlib.Omega.{arith}
use lib.ListN.{length}
use Rattle.protocol.specs.Ranges.{mss}
use Rattle.protocol.specs.declared.Settings.{Settings}
use Rattle.datagram.specs.Datagrams.{Segment, parse, segments, step_at}
use Rattle.datagram.specs.StepLaws.{Begun, Remaining, Took}
use Rattle.datagram.proofs.StepLaws.{took, ended}
use Rattle.datagram.specs.declared.Segment.{Segment as Place}
use Rattle.session.specs.Input.{heard_by_sending, all_by_sending, ack_numbers, skipped_by_all}
use Rattle.acknowledge.specs.Flights.{View, half_with, FlightIs, HearsAll}
use Rattle.acknowledge.specs.Furthest.{none_yet, further_by, further_by_all, skipped_by}
use Rattle.acknowledge.specs.FurthestLaws.{skipped_all}
use Rattle.acknowledge.proofs.Hearing.{Ordered, heard_order}

-- v₀ is what the loop began with; the segments from index at on remain
module _ (c : Settings) (current : ℕ) (s : List ℕ) (v₀ : View) where
  pub record Walking (v : View) (furthest : Option ℕ) (at : ℕ) : Type 0 where
    pub all : List Segment
    pub rest : List Segment
    pub parsed : parse c.conv (mss c) s ≡ segments all
    pub remaining : Remaining c.conv (mss c) s at rest
    pub ordered : Ordered v
    pub queue : v.flight.queued ≡ v₀.flight.queued
    pub sending : (q : List ℕ) → all_by_sending c current (half_with q v) rest ≡ all_by_sending c current (half_with q v₀) all
    pub acked : further_by_all furthest rest ≡ further_by_all none_yet all

  pub walking_start : Ordered v₀ → (n : ℕ) → Begun c.conv (mss c) s n → Walking v₀ none_yet 0
  walking_start o n g = record {
    all = g.all;
    rest = g.all;
    parsed = g.parsed;
    remaining = g.remaining;
    ordered = o;
    queue = refl;
    sending = λ q. refl;
    acked = refl;
  }

  module _ (v : View) (furthest : Option ℕ) (at : ℕ) (w : Walking v furthest at) where
    -- the next segment
    module _ (p : Place) (e : step_at s at ≡ Some p) where
      first : Took c.conv (mss c) s at w.rest p.header p.start p.next
      first = took c.conv (mss c) s at w.rest w.remaining p e

      pub walking_less : length s - p.next < length s - at
      walking_less = omega (arith, first.follows, first.inside)

      pub walking_more : (v' : View) (furthest' : Option ℕ) → furthest' ≡ further_by furthest p.header
          → FlightIs v' v (λ x. heard_by_sending c current x p.header) → Walking v' furthest' p.next
      unfolding all_by_sending further_by_all
      walking_more v' furthest' b a = record {
        all = w.all;
        rest = first.others;
        parsed = w.parsed;
        remaining = first.remaining;
        ordered = heard_order c current v' v p.header a w.ordered;
        queue = a.queue ∙ w.queue;
        sending = λ q. rw (a.half q) (rw first.whole at (w.sending q));
        acked = rw b (rw first.whole at w.acked);
      }

    -- none is left
    module _ (e : step_at s at ≡ None) where
      none : w.rest ≡ []
      none = ended c.conv (mss c) s at w.rest w.remaining e

      all_sent : (q : List ℕ) → half_with q v ≡ all_by_sending c current (half_with q v₀) w.all
      unfolding all_by_sending
      all_sent q = rw none at (w.sending q)

      all_acked : furthest ≡ further_by_all none_yet w.all
      unfolding further_by_all
      all_acked = rw none at w.acked

      heard_all : (r : View) → FlightIs r v (skipped_by furthest)
          → FlightIs r v₀ (λ x. skipped_by_all (all_by_sending c current x w.all) (ack_numbers w.all))
      heard_all r k = record {
        whole = k.whole;
        wholes = k.wholes;
        fits = k.fits;
        queue = k.queue ∙ w.queue;
        half = λ q. k.half q ∙ rw (all_sent q, all_acked) (skipped_all _ w.all);
      }

      pub walking_end : (r : View) → FlightIs r v (skipped_by furthest) → HearsAll c current s v₀ r
      walking_end r k gs p = let q = sym w.parsed ∙ p in let same : w.all ≡ gs = cc in rw same at (heard_all r k)
