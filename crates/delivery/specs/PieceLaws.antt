-- Laws of the accepted segments: how many a message has, where its segments stand in the whole list, and that they joined are the message.
-- Assumes nothing.
use Rattle.std.specs.Prelude.{◌≡◌, Bool, false, length, take, drop}
use Rattle.std.proofs.Math.Path.{refl}
use Rattle.std.proofs.Common.{sym, ap, ◌∙◌, add-zero, div-add-mod', mod-lt, arith, length-drop, take-append-drop}
use mathlib.Core.List.{List, [], ◌∷◌, ◌++◌, append_assoc}
use Rattle.std.proofs.Math.Option.{none, some}
use Prim.Native.Nat.{ℕ, zero, suc, ◌+◌, ◌-◌, ◌*◌, ◌/◌, ◌≤◌, ◌<◌, max}
use Rattle.std.proofs.Math.Nat.{zero-add}
use Rattle.std.proofs.Math.ListN.{get_elem?}
use Rattle.std.proofs.Math.Seq.{drop-append-add}
use Rattle.session.specs.Cutting.{fragment_count, pieces, cut}
use Rattle.delivery.specs.PlainReceiver.{segments_of}
use Rattle.delivery.specs.Pieces.{fragmented, falling, pieces_of}
use Rattle.delivery.specs.ListLaws.{none≢some, drop_entry, drop_no_entry}
use Rattle.delivery.specs.SendPool.{length_cut}
use Rattle.delivery.specs.ReceiverModel.{joined}

-- ---- a message cut

pub enough_fragments : (m n : ℕ) → 0 < m → n ≤ fragment_count m n * m
unfolding fragment_count
enough_fragments m n h = go ((n + (m - 1)) / m) (omega (arith, div-add-mod' (n + (m - 1)) m, mod-lt (n + (m - 1)) h))
  where
    go : (q : ℕ) → n ≤ q * m → n ≤ max 1 q * m
    go zero i = omega arith
    go (suc q) i = let e : max 1 (suc q) ≡ suc q = omega arith in rw e i

pub length_falling : (ps : List (List ℕ)) → length (falling ps) ≡ length ps
unfolding fragmented
length_falling [] = refl
length_falling (p ∷ ps) = ap suc (length_falling ps)

-- ---- joined again

pub joined_pieces : (stream : Bool) (m k : ℕ) (b : List ℕ) → length b ≤ k * m → joined (fragmented stream (pieces m k b)) ≡ b
unfolding joined fragmented pieces
joined_pieces stream m zero [] h = refl
joined_pieces stream m zero (x ∷ b) h = absurd (omega arith)
joined_pieces stream m (suc k) b h = rw (joined_pieces stream m k (drop m b) (simp (length-drop) (omega arith))) (take-append-drop m b)

pub joined_cut : (m : ℕ) (b : List ℕ) → 0 < m → joined (falling (cut m b)) ≡ b
unfolding cut
joined_cut m b h = joined_pieces false m (fragment_count m (length b)) b (enough_fragments m (length b) h)

-- ---- where they stand

pub pieces_of_append : (m : ℕ) (a b : List (List ℕ)) → pieces_of m (a ++ b) ≡ pieces_of m a ++ pieces_of m b
unfolding pieces_of
pieces_of_append m [] b = refl
pieces_of_append m (x ∷ a) b = rw (pieces_of_append m a b) (sym (append_assoc (falling (cut m x)) (pieces_of m a) (pieces_of m b)))

module _ (m : ℕ) where
  -- behind the segments of the first o messages are those of the others
  pub pieces_behind : (l : List (List ℕ)) (o : ℕ) → drop (segments_of m (take o l)) (pieces_of m l) ≡ pieces_of m (drop o l)
  unfolding segments_of pieces_of
  pieces_behind [] zero = refl
  pieces_behind [] (suc o) = refl
  pieces_behind (x ∷ l) zero = refl
  pieces_behind (x ∷ l) (suc o) =
      rw (← length_cut m x, ← length_falling (cut m x))
      (drop-append-add (falling (cut m x)) (pieces_of m l) (segments_of m (take o l)) ∙ pieces_behind l o)

  pub none_behind : (l : List (List ℕ)) (o : ℕ) → get_elem? l o ≡ none → drop (segments_of m (take o l)) (pieces_of m l) ≡ []
  unfolding pieces_of
  none_behind l o e = rw (pieces_behind l o, drop_no_entry l o e)

  pub message_behind : (l : List (List ℕ)) (o : ℕ) (x : List ℕ) → get_elem? l o ≡ some x
      → drop (segments_of m (take o l)) (pieces_of m l) ≡ falling (cut m x) ++ pieces_of m (drop (suc o) l)
  unfolding pieces_of
  message_behind l o x e = rw (pieces_behind l o, drop_entry l o x e)

  pub segments_one_more : (l : List (List ℕ)) (o : ℕ) (x : List ℕ) → get_elem? l o ≡ some x
      → segments_of m (take (suc o) l) ≡ segments_of m (take o l) + fragment_count m (length x)
  unfolding segments_of
  segments_one_more [] o x e = absurd (none≢some e)
  segments_one_more (y ∷ l) zero x e = cc (add-zero (fragment_count m (length y)), zero-add (fragment_count m (length x)))
  segments_one_more (y ∷ l) (suc o) x e = omega (arith, segments_one_more l o x e)
