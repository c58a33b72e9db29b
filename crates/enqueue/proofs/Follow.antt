-- What enqueueing leaves follows the link's definition of sending.
-- Assumes nothing.
use mathlib.Core.Path.{◌≡◌, refl, sym, ap, ◌∙◌}
use mathlib.Core.Bool.{Bool, false}
use mathlib.Core.List.{List, ◌++◌}
use Prim.Native.Nat.{ℕ, ◌+◌, ◌-◌, ◌*◌, ◌≤◌, ◌<◌, min}
use native.Mathlib.Omega.{arith}
use borrow.Author.Tests.{lt-ltb, le-ltb}
use lib.ListN.{length, drop, length-drop}
use lib.Dec.{ltb}
use Rattle.protocol.specs.declared.Refusal.TheVariants.{LongMessage, NoFreeSlots}
use Rattle.lists.specs.declared.Held.{Held}
use Rattle.session.specs.State.{State, refused, done, send_held, slots, with_queued}
use Rattle.session.specs.Cutting.{segment_count, pieces, cut_as}
use Rattle.session.specs.Sending.{Placed, place, Filled, filled, sending}
use Rattle.session.specs.FillLaws.{room_of, filled_rest}
use Rattle.words.specs.Words.{held_in}
use Rattle.enqueue.specs.Enqueueing.{Marked, Fills, Places, PartsOf, Follows}
use Rattle.std.specs.Prelude.{Err, Ok}

module _ {s : State} {stream : Bool} {m : ℕ} {queued : List ℕ} {n k : ℕ} {marks : List ℕ} (p : PartsOf s stream m queued n k marks)
    (pool message : List ℕ) {room first : ℕ} (has : room ≡ room_of stream m (held_in queued n)) (takes : first ≡ min (length message) room)
  where
    abbrev used : List ℕ
    used = slots (send_held s.sending)

    abbrev f : Filled
    f = filled stream m s.sending.queued pool message

    -- what is left to cut
    left : f.rest ≡ drop first message
    left =
        filled_rest m s.sending.queued pool message stream
        ∙ ap (λ (q : List Held). drop (min (length message) (room_of stream m q)) message) p.queue
        ∙ ap (λ (r : ℕ). drop (min (length message) r) message) (sym has)
        ∙ ap (λ (r : ℕ). drop r message) (sym takes)

    left_length : length f.rest ≡ length message - first
    left_length = ap length left ∙ length-drop first message

    long : 127 * m < length message - first → sending s pool message ≡ refused LongMessage
    unfolding sending
    long h = let g : 127 * m < length f.rest = omega (arith, left_length) in rw (p.mode, p.size, lt-ltb (127 * m) (length f.rest) g)

    -- 10
    pub follows_long : 127 * m < length message - first
        → Follows (sending s pool message) queued n pool (Err LongMessage) n queued pool
    follows_long h = rw (long h) (record { answered = refl; count = refl; list = refl; pool_same = refl })

    module _ {count : ℕ} (e : count ≡ segment_count stream m (length message - first)) (h : length message - first ≤ 127 * m) where
      short : ltb (127 * m) (length f.rest) ≡ false
      short = le-ltb (127 * m) (length f.rest) (omega (arith, left_length))

      full : k + n ≤ 128 → 128 < k + n + count → sending s pool message ≡ refused NoFreeSlots
      unfolding sending
      full most g =
          let few : 128 - length used < segment_count stream m (length f.rest) = rw left_length (omega (arith, p.held)) in
          rw (p.mode, p.size, short, lt-ltb (128 - length used) (segment_count stream m (length f.rest)) few)

      -- 11
      pub follows_full : k + n ≤ 128 → 128 < k + n + count
          → Follows (sending s pool message) queued n pool (Err NoFreeSlots) n queued pool
      follows_full most g = rw (full most g) (record { answered = refl; count = refl; list = refl; pool_same = refl })

      abbrev new : Placed
      new = place stream m used f.pool (cut_as stream m f.rest)

      placed : k + n + count ≤ 128 → sending s pool message ≡ done
          (record { state = with_queued s (f.queued ++ new.segments); pool = new.pool })
      unfolding sending
      placed g =
          let enough : segment_count stream m (length f.rest) ≤ 128 - length used = rw left_length (omega (arith, p.held)) in
          rw (p.mode, p.size, short, le-ltb (128 - length used) (segment_count stream m (length f.rest)) enough)

      cuts : cut_as stream m f.rest ≡ pieces m count (drop first message)
      unfolding cut_as
      cuts = rw (left_length, ← e, left)

      -- accepted: the slots held are those of the state
      pub follows_placed : k + n + count ≤ 128 → (between pool₁ after : List ℕ) (r : ℕ) (pool' : List ℕ)
          → ((stream : Bool) → room ≡ room_of stream m (held_in queued n)
          → Fills (filled stream m (held_in queued n) pool message) n between pool₁)
          → ((h : Marked marks (128 - count))
          → Places (place stream m h.now pool₁ (pieces m count (drop first message))) between n after r pool')
          → Follows (sending s pool message) queued n pool (Ok tt) r after pool'
      follows_placed g between pool₁ after r pool' x y =
          let a = (rw (← p.queue) at (x stream has)) in
          let b = (rw (← cuts, a.pool_is) at (y (record { now = used; free = p.free; most = omega (arith, p.held) }))) in
          rw (placed g)
          (record {
            answered = refl;
            whole = b.whole;
            fits = b.fits;
            list = b.list ∙ ap (λ (l : List Held). l ++ new.segments) a.list;
            pool = b.pool;
          })
