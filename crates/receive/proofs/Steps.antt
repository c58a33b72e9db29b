-- The steps of a segment together are the definition's segment, and what the next step asks still holds.
-- Assumes nothing.
use mathlib.Core.Path.{◌≡◌, refl}
use mathlib.Core.Bool.{Bool, true, false, cond, ◌&&◌, ◌||◌, or-false, or-true}
use mathlib.Core.List.{List, [], ◌∷◌, ◌++◌}
use Prim.Native.Nat.{ℕ, ◌*◌, ◌<◌, ◌^◌}
use native.Mathlib.Omega.{arith}
use borrow.Author.Tests.{eq-eqb, ne_eqb}
use lib.Dec.{ltb, eqb}
use lib.ListN.{length}
use lib.Seq.{sets, length-sets}
use Rattle.wire.specs.declared.Header.{Header}
use Rattle.lists.specs.Views.{held_of, waiting_of}
use Rattle.lists.specs.Orders.{waiting_offset, insert, ascending}
use Rattle.lists.specs.OrderLaws.{insert_ascending}
use Rattle.lists.specs.Receiving.{advance, ReceivingIs}
use Rattle.lists.specs.ReceivingLaws.{advance_ordered, advance_settled}
use Rattle.lists.specs.declared.Receiving.{Receiving}
use Rattle.pools.specs.Parts.{part}
use Rattle.session.specs.State.{Ack}
use Rattle.session.specs.Input.{Receiver, asked, with_acks, kept, moved_up_in, pushed, heard_by_receiving}
use Rattle.control.specs.Views.{pairs}
use Rattle.keeping.specs.Pushing.{is_in_window, is_new_in, is_kept, slot_for, held_for, entry_of}
use Rattle.keeping.specs.Keeping.{waits_then, pool_then}
use Rattle.keeping.proofs.Places.{new_offset}
use Rattle.receive.specs.Halves.{Half, receiver_of, segment_at, Sound, HalfIs}
use Rattle.receive.specs.Pushes.{Noted}
use Rattle.receive.proofs.Noting.{noted_pairs, noted_more, noted_beyond, noted_few, noted_length}

abbrev half_with : Receiving → ℕ → Bool → Half
half_with l n tell = record { lists = l; acks = n; tell = tell }

-- ---- a push

-- the definition's push, its parts apart
pushed_parts : (m : ℕ) (l : Receiving) (k : ℕ) (tell : Bool) (acks pool s : List ℕ) (start : ℕ) (h : Header) →
    let p = pairs k acks in
    pushed m (receiver_of (half_with l k tell) acks pool) (segment_at s start h)
    ≡ moved_up_in
    (record {
      half = record {
        next = l.next;
        ready = held_of l.ready;
        waiting = waits_then l h;
        acks = cond (is_in_window l.next h.sn && ltb (length p) 256) (p ++ (record { sn = h.sn; ts = h.ts } ∷ [])) p;
        tell = tell;
      };
      pool = pool_then l m s start h pool;
    })
unfolding pushed
pushed_parts m l k tell acks pool s start h =
    go (is_in_window l.next h.sn) (is_new_in l.next (waiting_of l.waiting) h.sn) (ltb (length (pairs k acks)) 256)
  where
    p : List Ack
    p = pairs k acks

    x : Receiver
    x = receiver_of (half_with l k tell) acks pool

    go : (t n d : Bool)
        → moved_up_in (cond t (let y = with_acks (cond d (p ++ (record { sn = h.sn; ts = h.ts } ∷ [])) p) x in
        cond n (kept m y (segment_at s start h)) y) x)
        ≡ moved_up_in
        (record {
          half = record {
            next = l.next;
            ready = held_of l.ready;
            waiting = cond (t && n) (insert (waiting_offset l.next) (entry_of h (held_for l.ready l.waiting h))
                (waiting_of l.waiting)) (waiting_of l.waiting);
            acks = cond (t && d) (p ++ (record { sn = h.sn; ts = h.ts } ∷ [])) p;
            tell = tell;
          };
          pool = cond (t && n) (sets pool (slot_for l.ready l.waiting * m) (part s start h.len)) pool;
        })
    go true true true = refl
    go true true false = refl
    go true false true = refl
    go true false false = refl
    go false n d = refl

module _ (m : ℕ) (l : Receiving) (k : ℕ) (tell : Bool) (acks pool : List ℕ) (h : Header) (sound : Sound (half_with l k tell) m acks pool)
    (next_low : l.next < 2 ^ 32) (sn_low : h.sn < 2 ^ 32) (s : List ℕ) (start k' : ℕ) (acks' : List ℕ)
    (noted : Noted l.next h acks k acks' k') where
  -- those that wait are in order with it
  ascends : ascending (waiting_offset l.next) 0 128 (waits_then l h) ≡ true
  ascends = go (is_kept l h) refl
    where
      go : (b : Bool) → is_kept l h ≡ b
          → ascending (waiting_offset l.next) 0 128
          (cond b (insert (waiting_offset l.next) (entry_of h (held_for l.ready l.waiting h)) (waiting_of l.waiting))
          (waiting_of l.waiting)) ≡ true
      go true e =
          insert_ascending (waiting_offset l.next) (entry_of h (held_for l.ready l.waiting h)) 0 128 (waiting_of l.waiting)
          (omega arith)
          (new_offset l.next h.sn l.ready l.waiting next_low sn_low sound.ready sound.ascends e) sound.ascends
      go false e = sound.ascends

  long : length (pool_then l m s start h pool) ≡ length pool
  long = go (is_kept l h)
    where
      go : (b : Bool) → length (cond b (sets pool (slot_for l.ready l.waiting * m) (part s start h.len)) pool) ≡ length pool
      go true = length-sets pool (slot_for l.ready l.waiting * m) (part s start h.len)
      go false = refl

  -- the half with the lists that advancing makes is the definition's
  pub pushed_is : (moved : Receiving) → ReceivingIs moved (advance l.next (held_of l.ready) (waits_then l h)) → (pool' : List ℕ)
      → pool' ≡ pool_then l m s start h pool
      → HalfIs m (half_with l k tell) (half_with moved k' tell) acks acks' pool'
      (pushed m (receiver_of (half_with l k tell) acks pool) (segment_at s start h))
  pushed_is moved up pool' stores =
      record {
        is = rw (
          pushed_parts m l k tell acks pool s start h,
          up.next,
          up.ready.list,
          up.waiting.list,
          stores,
          noted_pairs l.next h acks k acks' k' sound.noted sound.ack_list_lem noted,
        );
        more = noted_more l.next h acks k acks' k' sound.noted sound.ack_list_lem noted;
        beyond = noted_beyond l.next h acks k acks' k' sound.noted sound.ack_list_lem noted;
        sound = record {
          ready = up.ready.fits;
          waiting = up.waiting.fits;
          ascends = rw (up.next, up.waiting.list)
              (advance_ordered 128 l.next (held_of l.ready) (waits_then l h) (next_low, ascends)).1;
          settled = rw (up.next, up.waiting.list, up.ready.list) (advance_settled l.next (held_of l.ready) (waits_then l h));
          noted = noted_few l.next h acks k acks' k' sound.noted sound.ack_list_lem noted;
          ack_list_lem = rw (noted_length l.next h acks k acks' k' sound.noted sound.ack_list_lem noted) sound.ack_list_lem;
          slots = rw (stores, long) sound.slots;
          mss_low = sound.mss_low;
        };
        low = rw up.next (advance_ordered 128 l.next (held_of l.ready) (waits_then l h) (next_low, ascends)).0;
      }

-- ---- a segment

module _ (m : ℕ) (half : Half) (acks pool s : List ℕ) (start : ℕ) (h : Header) where
  pub heard_push : (r : Half) (acks' pool' : List ℕ) → h.cmd ≡ 81
      → HalfIs m half r acks acks' pool' (pushed m (receiver_of half acks pool) (segment_at s start h))
      → HalfIs m half r acks acks' pool' (heard_by_receiving m (receiver_of half acks pool) (segment_at s start h))
  unfolding heard_by_receiving
  heard_push r acks' pool' e p = rw (eq-eqb h.cmd 81 e) p

  pub heard_other : (h.cmd ≡ 81 → ⊥) → Sound half m acks pool → half.lists.next < 2 ^ 32
      → HalfIs m half (record { lists = half.lists; acks = half.acks; tell = half.tell || eqb h.cmd 83 }) acks acks pool
      (heard_by_receiving m (receiver_of half acks pool) (segment_at s start h))
  unfolding heard_by_receiving
  heard_other e u low = rw (ne_eqb h.cmd 81 e) (go (eqb h.cmd 83))
    where
      still : (t : Bool) → Sound (record { lists = half.lists; acks = half.acks; tell = t }) m acks pool
      still t = record {
        ready = u.ready;
        waiting = u.waiting;
        ascends = u.ascends;
        settled = u.settled;
        noted = u.noted;
        ack_list_lem = u.ack_list_lem;
        slots = u.slots;
        mss_low = u.mss_low;
      }

      go : (t : Bool) → HalfIs m half (record { lists = half.lists; acks = half.acks; tell = half.tell || t }) acks acks pool
          (cond t (asked (receiver_of half acks pool)) (receiver_of half acks pool))
      go true = record { is = rw or-true; more = omega arith; beyond = refl; sound = still (half.tell || true); low = low }
      go false = record { is = rw or-false; more = omega arith; beyond = refl; sound = still (half.tell || false); low = low }
