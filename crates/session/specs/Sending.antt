-- Sending a message, or in stream mode the bytes of a send.
-- Assumes nothing.
use Rattle.std.specs.Prelude.{Bool, cond, List, [], ◌∷◌, ◌++◌, ℕ, ◌+◌, ◌-◌, ◌*◌, min, ltb, length, take, drop}
use Rattle.std.proofs.lemmas.List.Edits.{sets}
use Rattle.protocol.specs.Protocol.{send_slots, fragments_most}
use Rattle.protocol.specs.Ranges.{mss, is_stream}
use Rattle.protocol.specs.declared.Refusal.TheVariants.{LongMessage, NoFreeSlots}
use Rattle.lists.specs.declared.Held.{Held}
use Rattle.session.specs.Slots.{lowest_free}
use Rattle.session.specs.State.{State, Outcome, refused, done, send_held, slots, with_queued}
use Rattle.session.specs.Cutting.{segment_count, cut_as}

-- segments placed in slots of the send pool
pub record Placed : Type 0 where
  pub segments : List Held
  pub pool : List ℕ

-- each payload takes the lowest free slot, which starts at slot x mss; fragment numbers fall to 0, and in stream mode all are 0
unfoldable pub place : Bool → ℕ → List ℕ → List ℕ → List (List ℕ) → Placed
place stream m used pool [] = record { segments = []; pool = pool }
place stream m used pool (p ∷ ps) =
    let slot = lowest_free used send_slots in
    let rest = place stream m (slot ∷ used) (sets pool (slot * m) p) ps in
    let first : Held = record { slot = slot; len = length p; fragment = cond stream 0 (length ps) } in
    record { segments = first ∷ rest.segments; pool = rest.pool }

-- the queued segments and the pool after the last queued segment is filled, and the bytes left to cut
pub record Filled : Type 0 where
  pub queued : List Held
  pub pool : List ℕ
  pub rest : List ℕ

-- the last queued segment x takes the first n bytes behind its payload, and fragment number 0
abbrev pub lengthened : ℕ → List Held → Held → List Held → ℕ → List ℕ → List ℕ → Filled
lengthened m q x l n pool b =
    record {
      queued = take (length q - 1) q ++ (record { slot = x.slot; len = x.len + n; fragment = 0 } ∷ l);
      pool = sets pool (x.slot * m + x.len) (take n b);
      rest = drop n b;
    }

-- a last queued segment shorter than mss takes as many as it is shorter, at most all; a full one, or none, leaves all as it was
abbrev pub fill_last : ℕ → List Held → List Held → List ℕ → List ℕ → Filled
fill_last m q [] pool b = record { queued = q; pool = pool; rest = b }
fill_last m q (x ∷ l) pool b =
    cond (ltb x.len m) (lengthened m q x l (min (length b) (m - x.len)) pool b)
    (record { queued = q; pool = pool; rest = b })

-- only stream mode fills
unfoldable pub filled : Bool → ℕ → List Held → List ℕ → List ℕ → Filled
filled stream m q pool b =
    cond stream (fill_last m q (drop (length q - 1) q) pool b) (record { queued = q; pool = pool; rest = b })

-- a state and its send pool
pub record Sends : Type 0 where
  pub state : State
  pub pool : List ℕ

-- sending checks 10, then 11, which count only new segments; a refused send fills nothing. An accepted one's segments are queued
-- behind those that are
unfoldable pub sending : State → List ℕ → List ℕ → Outcome Sends
sending s pool message =
    let stream = is_stream s.settings in
    let m = mss s.settings in
    let used = slots (send_held s.sending) in
    let f = filled stream m s.sending.queued pool message in
    let placed = place stream m used f.pool (cut_as stream m f.rest) in
    cond (ltb (fragments_most * m) (length f.rest)) (refused LongMessage)
    (cond (ltb (send_slots - length used) (segment_count stream m (length f.rest))) (refused NoFreeSlots)
    (done (record { state = with_queued s (f.queued ++ placed.segments); pool = placed.pool })))
