-- What a flush or a read has put at the start of a lent part is what its caller takes from there.
-- Assumes nothing.
use Rattle.std.specs.Prelude.{◌≡◌, refl, ℕ, ◌+◌, ◌*◌, ◌≤◌, length, take, drop}
use mathlib.Core.List.{List, [], ◌∷◌, ◌++◌, flatten, append_assoc}
use Rattle.std.proofs.Common.{zero-le, arith, length-append, length-take}
use Rattle.std.proofs.lemmas.List.Edits.{sets, sets-eq}
use Rattle.std.proofs.Math.Seq.{take-append_seam, drop-append_seam}
use Rattle.lists.specs.declared.Held.{Held}
use Rattle.packing.specs.Packers.{joined, lengths_of, Output}
use Rattle.session.specs.State.{State}
use Rattle.session.specs.Reading.{joined_in, message, length_of, message_size, payload_in, front_count}
use Rattle.demands.specs.Steps.{cut_by}

-- bytes put at the start of a part that has room for them, and taken again
pub front_again : (l bytes : List ℕ) → length bytes ≤ length l → take (length bytes) (sets l 0 bytes) ≡ bytes
front_again l bytes h = rw (sets-eq bytes l 0 (omega arith)) (take-append_seam bytes (drop (0 + length bytes) l))

-- ---- datagrams

pub joined_flatten : (ds : List (List ℕ)) → joined ds ≡ flatten ds
unfolding joined flatten
joined_flatten [] = refl
joined_flatten (d ∷ ds) = rw (joined_flatten ds)

lengths_of_length : (ds : List (List ℕ)) → length (lengths_of ds) ≡ length ds
unfolding lengths_of
lengths_of_length [] = refl
lengths_of_length (d ∷ ds) = rw (lengths_of_length ds)

-- datagrams one behind the other, cut by their lengths
cut_joined : (ds : List (List ℕ)) (rest : List ℕ) → cut_by (lengths_of ds) (joined ds ++ rest) ≡ ds
unfolding cut_by lengths_of joined
cut_joined [] rest = refl
cut_joined (d ∷ ds) rest =
    rw (append_assoc d (joined ds) rest, take-append_seam d (joined ds ++ rest), drop-append_seam d (joined ds ++ rest), cut_joined ds rest)

-- the output cut by the lengths is the datagrams, where both have room
pub output_cut : (ds : List (List ℕ)) (out lengths : List ℕ) (n : ℕ) (out' lengths' : List ℕ) → Output ds out lengths n out' lengths'
    → length (joined ds) ≤ length out → length ds ≤ length lengths → cut_by (take n lengths') out' ≡ ds
output_cut ds out lengths n out' lengths' o bytes number =
    let sizes : take n lengths' ≡ lengths_of ds =
    rw (o.sizes, o.number, ← lengths_of_length ds) (front_again lengths (lengths_of ds) (omega (arith, lengths_of_length ds))) in
    rw (sizes, o.bytes, sets-eq (joined ds) out 0 (omega arith)) (cut_joined ds (drop (0 + length (joined ds)) out))

-- ---- messages

joined_short : (m : ℕ) (pool : List ℕ) (l : List Held) → length (joined_in m pool l) ≤ length_of l
unfolding joined_in length_of
joined_short m pool [] = zero-le
joined_short m pool (h ∷ l) =
    omega (
      arith,
      joined_short m pool l,
      length-append (payload_in m pool h) (joined_in m pool l),
      length-take h.len (drop (h.slot * m) pool),
    )

-- a message is no longer than its segments say
pub message_short : (s : State) (pool : List ℕ) → length (message s pool) ≤ message_size s.receiving
unfolding message message_size
message_short s pool = joined_short _ pool (take (front_count s.receiving.ready) s.receiving.ready)
