-- The loop over a datagram's segments: what has been heard, and what remains, together are the whole.
-- Assumes nothing.
use Rattle.std.specs.Prelude.{Some, None}
use mathlib.Core.Path.{◌≡◌, refl, sym, ap, ◌∙◌}
use mathlib.Core.List.{List, []}
use Prim.Native.Nat.{ℕ, ◌+◌, ◌-◌, ◌*◌, ◌≤◌, ◌<◌, ◌^◌}
use native.Mathlib.Omega.{arith}
use lib.ListN.{length, drop}
use lib.Seq.{drop-drop}
use Rattle.protocol.specs.Ranges.{mss}
use Rattle.protocol.specs.declared.Settings.{Settings}
use Rattle.datagram.specs.Datagrams.{Segment, parse, segments, step_at}
use Rattle.datagram.specs.StepLaws.{Begun, Remaining, Took}
use Rattle.datagram.proofs.StepLaws.{took, ended}
use Rattle.datagram.specs.declared.Segment.{Segment as Place}
use Rattle.session.specs.Input.{heard_by_receiving, all_by_receiving}
use Rattle.receive.specs.Halves.{Half, receiver_of, segment_at, Sound, HalfIs, HearsAll}

-- what agrees from an index on agrees from a later one on
drop_further : {A : Type 0} (l m : List A) (i j : ℕ) → i ≤ j → drop i l ≡ drop i m → drop j l ≡ drop j m
drop_further l m i j h e =
    let q : j ≡ i + (j - i) = omega arith in
    rw q (sym (drop-drop (j - i) i l) ∙ ap (drop (j - i)) e ∙ drop-drop (j - i) i m)

-- h₀, acks₀ and pool₀ are what the loop began with; the segments from index at on remain
module _ (c : Settings) (s : List ℕ) (h₀ : Half) (acks₀ pool₀ : List ℕ) where
  pub record Walking (h : Half) (acks pool : List ℕ) (at : ℕ) : Type 0 where
    pub all : List Segment
    pub rest : List Segment
    pub parsed : parse c.conv (mss c) s ≡ segments all
    pub remaining : Remaining c.conv (mss c) s at rest
    pub receiving : all_by_receiving (mss c) (receiver_of h acks pool) rest ≡ all_by_receiving (mss c) (receiver_of h₀ acks₀ pool₀) all
    pub more : h₀.acks ≤ h.acks
    pub beyond : drop (2 * h.acks) acks ≡ drop (2 * h.acks) acks₀
    pub sound : Sound h (mss c) acks pool
    pub low : h.lists.next < 2 ^ 32

  pub walking_start : Sound h₀ (mss c) acks₀ pool₀ → h₀.lists.next < 2 ^ 32 → (n : ℕ) → Begun c.conv (mss c) s n
      → Walking h₀ acks₀ pool₀ 0
  walking_start sound low n g = record {
    all = g.all;
    rest = g.all;
    parsed = g.parsed;
    remaining = g.remaining;
    receiving = refl;
    more = omega arith;
    beyond = refl;
    sound = sound;
    low = low;
  }

  module _ (h : Half) (acks pool : List ℕ) (at : ℕ) (w : Walking h acks pool at) where
    -- the next segment
    module _ (p : Place) (e : step_at s at ≡ Some p) where
      first : Took c.conv (mss c) s at w.rest p.header p.start p.next
      first = took c.conv (mss c) s at w.rest w.remaining p e

      pub walking_inside : p.start + p.header.len ≤ length s
      walking_inside = omega (arith, first.starts, first.follows, first.inside)

      pub walking_fits : p.header.cmd ≡ 81 → p.header.len ≤ mss c
      walking_fits = first.passed.payload

      pub walking_less : length s - p.next < length s - at
      walking_less = omega (arith, first.follows, first.inside)

      pub walking_more : (h' : Half) (acks' pool' : List ℕ)
          → HalfIs (mss c) h h' acks acks' pool' (heard_by_receiving (mss c) (receiver_of h acks pool) (segment_at s p.start p.header))
          → Walking h' acks' pool' p.next
      unfolding all_by_receiving
      walking_more h' acks' pool' d = record {
        all = w.all;
        rest = first.others;
        parsed = w.parsed;
        remaining = first.remaining;
        receiving = rw d.is (rw first.whole at w.receiving);
        more = omega (arith, w.more, d.more);
        beyond = d.beyond ∙ drop_further acks acks₀ (2 * h.acks) (2 * h'.acks) (omega (arith, d.more)) w.beyond;
        sound = d.sound;
        low = d.low;
      }

    -- none is left
    module _ (e : step_at s at ≡ None) where
      none : w.rest ≡ []
      none = ended c.conv (mss c) s at w.rest w.remaining e

      heard_all : HalfIs (mss c) h₀ h acks₀ acks pool (all_by_receiving (mss c) (receiver_of h₀ acks₀ pool₀) w.all)
      unfolding all_by_receiving
      heard_all = record { is = rw none at w.receiving; more = w.more; beyond = w.beyond; sound = w.sound; low = w.low }

      pub walking_end : (pool' : List ℕ) → pool' ≡ pool → HearsAll c s h₀ acks₀ pool₀ h acks pool'
      walking_end pool' back gs p = let q = sym w.parsed ∙ p in let same : w.all ≡ gs = cc in rw back (rw same at heard_all)
