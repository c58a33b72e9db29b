-- A half that the checks of 7 and 13 have passed: what it stands for, that it is sound, and that the marks tell its free slots.
-- Assumes nothing.
use mathlib.Core.Path.{◌≡◌, refl}
use mathlib.Core.Bool.{Bool, true, false, ◌&&◌}
use mathlib.Core.List.{List, [], ◌∷◌}
use Prim.Native.Nat.{ℕ, ◌*◌, ◌≤◌, ◌<◌}
use native.Mathlib.Omega.{arith}
use borrow.Author.Tests.{ltb-true, eqb-true}
use lib.Dec.{ltb, eqb}
use lib.ListN.{length}
use Rattle.protocol.specs.Protocol.{receive_window, receive_slots, acks_most}
use Rattle.protocol.specs.Ranges.{mss}
use Rattle.protocol.specs.declared.Settings.{Settings}
use Rattle.lists.specs.Orders.{waiting_offset}
use Rattle.lists.specs.Receiving.{starts_at}
use Rattle.lists.specs.declared.Held.{Held}
use Rattle.lists.specs.declared.Waiting.{Waiting}
use Rattle.session.specs.State.{Ack, receive_held, slots}
use Rattle.session.specs.Ascending.{ascending_decides}
use Rattle.session.specs.IsValid.{SettingsInRange}
use Rattle.session.specs.ReceivingValid.{StartsAt, ReceivingIsValid}
use Rattle.words.specs.Words.{held_in, waiting_in}
use Rattle.marks.specs.Marks.{Free}
use Rattle.control.specs.Views.{pairs, receiving_of}
use Rattle.control.specs.ViewLaws.{Counts}
use Rattle.control.specs.declared.Arrival.{Arrival}
use Rattle.control.specs.declared.Flight.{Flight}
use Rattle.arriving.proofs.Views.{ready_view, waiting_view}
use Rattle.receive.specs.Halves.{half_of, receiver_of, Sound}
use Rattle.receive.specs.Pushes.{Marked}

-- none waits that could be ready
settles : (next : ℕ) (ready : List Held) (waiting : List Waiting) → (length ready < receive_window → StartsAt next waiting → ⊥)
    → (starts_at next waiting && ltb (length ready) receive_window) ≡ false
unfolding starts_at
settles next ready [] f = refl
settles next ready (w ∷ l) f = go (eqb (waiting_offset next w) 0) (ltb (length ready) receive_window) refl refl
  where
    go : (a b : Bool) → eqb (waiting_offset next w) 0 ≡ a → ltb (length ready) receive_window ≡ b → (a && b) ≡ false
    go true true e g = absurd (f (ltb-true _ _ g) (eqb-true _ _ e))
    go true false e g = refl
    go false b e g = refl

module _ (a : Arrival) (r w ns : List ℕ) where
  -- the half is the block's
  pub receiver_view : (acks pool : List ℕ)
      → receiver_of (half_of a r w ns) acks pool ≡ record { half = receiving_of a r w ns (pairs a.acks acks); pool = pool }
  receiver_view acks pool = rw (ready_view r a.ready, waiting_view w ns a.waiting) refl

  pub marked_start : (marks : List ℕ) (acks : List Ack) → length marks ≡ 256
      → Free marks (slots (receive_held (receiving_of a r w ns acks))) 0 → Marked (half_of a r w ns) marks 0
  marked_start marks acks e f = record { whole = e; free = rw (ready_view r a.ready, waiting_view w ns a.waiting) f }

  pub sound_start : (c : Settings) (f : Flight) (noted : List Ack) (acks pool : List ℕ) → Counts f a → SettingsInRange c
      → ReceivingIsValid c (receiving_of a r w ns noted)
      → 2 * acks_most ≤ length acks → receive_slots * mss c ≤ length pool → Sound (half_of a r w ns) (mss c) acks pool
  sound_start c f noted acks pool k range v long-acks long-pool =
      record {
        ready = k.ready;
        waiting = k.waiting;
        ascends = rw (waiting_view w ns a.waiting)
            ((ascending_decides (waiting_offset a.expected) receive_window (waiting_in w ns a.waiting)).passes v.ascending);
        settled = rw (ready_view r a.ready, waiting_view w ns a.waiting)
            (settles a.expected (held_in r a.ready) (waiting_in w ns a.waiting) v.settles);
        noted = k.acks;
        ack_list_lem = long-acks;
        slots = long-pool;
        mss_low = omega (arith, range.mtu_most_lem);
      }
