-- The segments numbered with those queued are the bytes accepted: in message mode the messages cut, in stream mode each may stand for a
-- message.
-- Assumes nothing.
use Rattle.std.specs.Prelude.{◌≡◌, refl, Bool, true, false, cond, ℕ, ◌+◌, ◌-◌, ◌*◌, ◌≤◌, ◌<◌, length}
use Rattle.std.proofs.Common.{sym, ap, ap₂, ◌∙◌, true≢false, div-add-mod', mod-lt, arith}
use mathlib.Core.List.{List, [], ◌∷◌, ◌++◌, map, flatten, append_assoc, append-nil}
use Rattle.protocol.specs.Protocol.{send_slots}
use Rattle.protocol.specs.Ranges.{mss, is_stream}
use Rattle.protocol.specs.declared.Settings.{Settings}
use Rattle.session.specs.State.{Sending}
use Rattle.session.specs.Cutting.{segment_count, cut, cut_as}
use Rattle.session.specs.Sending.{Placed, Filled, filled}
use Rattle.session.specs.FillLaws.{fill_off}
use Rattle.session.specs.Decides.{All}
use Rattle.session.specs.AllLaws.{all_append, all_left, all_right}
use Rattle.delivery.specs.Pieces.{Piece, falling, fragmented, pieces_of}
use Rattle.delivery.specs.PieceLaws.{enough_fragments, joined_pieces, pieces_of_append}
use Rattle.delivery.specs.CallCases.{filling, placing, Room}
use Rattle.delivery.specs.SendPool.{piece_in, cut_as_short}
use Rattle.delivery.specs.SendingHalf.{Half}
use Rattle.delivery.specs.Filling.{Single, FilledWell, joined_append}
use Rattle.delivery.specs.SendingSends.{send_filled}
use Rattle.delivery.specs.PackingLaws.{flatten_append}
use Rattle.delivery.specs.ReceiverModel.{joined}
use Rattle.delivery.specs.SenderModel.{new_queue}

-- ---- the bytes accepted

-- the segments numbered and queued, and what was accepted
pub record CutFrom (stream : Bool) (m : ℕ) (whole : List Piece) (accepted : List (List ℕ)) : Type 0 where
  -- joined, they are the bytes accepted
  pub bytes : joined whole ≡ flatten accepted
  -- in message mode they are the messages cut
  pub messages : stream ≡ false → whole ≡ pieces_of m accepted
  -- in stream mode each may stand for a message
  pub singles : stream ≡ true → All (Single m) whole

enough_segments : (stream : Bool) (m n : ℕ) → 0 < m → n ≤ segment_count stream m n * m
unfolding segment_count
enough_segments false m n h = enough_fragments m n h
enough_segments true m n h = omega (arith, div-add-mod' (n + (m - 1)) m, mod-lt (n + (m - 1)) h)

joined_cut_as : (stream : Bool) (m : ℕ) (b : List ℕ) → 0 < m → joined (fragmented stream (cut_as stream m b)) ≡ b
unfolding cut_as
joined_cut_as stream m b h = joined_pieces stream m (segment_count stream m (length b)) b (enough_segments stream m (length b) h)

single_fragments : (stream : Bool) → stream ≡ true → (m : ℕ) (ps : List (List ℕ)) → All (λ (p : List ℕ). length p ≤ m) ps →
    All (Single m) (fragmented stream ps)
unfolding fragmented
single_fragments stream e m [] a = tt
single_fragments stream e m (p ∷ ps) a =
    (record { fragment = ap (λ (b : Bool). cond b 0 (length ps)) e; short = a.0 }, single_fragments stream e m ps a.1)

-- message mode
cut_off : (stream : Bool) → stream ≡ false → (m : ℕ) (b : List ℕ) → fragmented stream (cut_as stream m b) ≡ falling (cut m b)
unfolding cut_as cut segment_count
cut_off false e m b = refl
cut_off true e m b = absurd (true≢false e)

flatten_one : (l : List (List ℕ)) (b : List ℕ) → flatten (l ++ (b ∷ [])) ≡ flatten l ++ b
unfolding flatten
flatten_one l b = flatten_append l (b ∷ []) ∙ ap (λ (r : List ℕ). flatten l ++ r) (append-nil b)

pieces_one : (m : ℕ) (l : List (List ℕ)) (b : List ℕ) → pieces_of m (l ++ (b ∷ [])) ≡ pieces_of m l ++ falling (cut m b)
unfolding pieces_of
pieces_one m l b = pieces_of_append m l (b ∷ []) ∙ ap (λ (r : List Piece). pieces_of m l ++ r) (append-nil (falling (cut m b)))

-- an accepted send, behind the pieces numbered before
module _ (c : Settings) (s : Sending) (pool message : List ℕ) (h : Half c s) (some : 0 < mss c)
    (enough : send_slots * mss c ≤ length pool) (room : Room c s pool message)
    (before : List Piece) (accepted : List (List ℕ))
    (w : CutFrom (is_stream c) (mss c) (before ++ map (piece_in (mss c) pool) s.queued) accepted) where
  abbrev stream : Bool
  stream = is_stream c

  abbrev m : ℕ
  m = mss c

  abbrev f : Filled
  f = filling c s pool message

  abbrev placed : Placed
  placed = placing c s pool message

  abbrev Q : List Piece
  Q = map (piece_in m pool) s.queued

  abbrev Qf : List Piece
  Qf = map (piece_in m f.pool) f.queued

  abbrev ps : List Piece
  ps = fragmented stream (cut_as stream m f.rest)

  fills : FilledWell m pool s.queued message f
  fills = send_filled c s pool message h enough room

  queue : map (piece_in m placed.pool) (f.queued ++ placed.segments) ≡ Qf ++ ps
  queue = new_queue c s pool message h enough room

  joins : joined (before ++ (Qf ++ ps)) ≡ flatten (accepted ++ (message ∷ []))
  joins =
      joined_append before (Qf ++ ps)
      ∙ ap (λ (r : List ℕ). joined before ++ r)
      (joined_append Qf ps ∙ ap (λ (r : List ℕ). joined Qf ++ r) (joined_cut_as stream m f.rest some) ∙ fills.bytes)
      ∙ sym (append_assoc (joined before) (joined Q) message)
      ∙ ap (λ (r : List ℕ). r ++ message) (sym (joined_append before Q) ∙ w.bytes)
      ∙ sym (flatten_one accepted message)

  cuts : stream ≡ false → before ++ (Qf ++ ps) ≡ pieces_of m (accepted ++ (message ∷ []))
  cuts e =
      ap (λ (r : List Piece). before ++ r)
      (ap₂ {C = List Piece} (λ (a b : List Piece). a ++ b) (ap (λ (x : Filled). map (piece_in m x.pool) x.queued) off)
      (cut_off stream e m f.rest ∙ ap (λ (x : Filled). falling (cut m x.rest)) off))
      ∙ sym (append_assoc before Q (falling (cut m message)))
      ∙ ap (λ (r : List Piece). r ++ falling (cut m message)) (w.messages e)
      ∙ sym (pieces_one m accepted message)
    where
      off : filled stream m s.queued pool message ≡ record { queued = s.queued; pool = pool; rest = message }
      off = fill_off stream e m s.queued pool message

  alone : stream ≡ true → All (Single m) (before ++ (Qf ++ ps))
  alone e =
      all_append (Single m) before (Qf ++ ps) (all_left (Single m) before Q (w.singles e))
      (all_append (Single m) Qf ps (fills.singles (all_right (Single m) before Q (w.singles e)))
      (single_fragments stream e m (cut_as stream m f.rest) (cut_as_short stream m f.rest)))

  pub cut_more : CutFrom stream m (before ++ map (piece_in m placed.pool) (f.queued ++ placed.segments)) (accepted ++ (message ∷ []))
  cut_more = rw queue (record { bytes = joins; messages = cuts; singles = alone })
