-- What the reader answers. Definitions.
-- Assumes nothing.
use Rattle.std.specs.Prelude.{Bool, true, false, cond, ◌&&◌, ◌||◌, not, List, [], ◌∷◌, map, ℕ, ◌+◌, ◌-◌, ◌*◌, ◌/◌, ◌%◌, ltb, leb, eqb, length, get_or, drop}
use Rattle.wire.specs.LittleEndian.{number_at}
use Rattle.galois.specs.Field.{plus, mul, power, inverse}
use Rattle.frames.specs.declared.Refusal.TheVariants.{ShortPart, SettingOutOfRange, NotAGroup, TooFewFrames}
use Rattle.frames.specs.Lists.{listed, parts, lengths_of, total, other, every, different}
use Rattle.frames.specs.Frames.{weight, type_at, frame_at}
use Rattle.frames.specs.Outcomes.{Outcome, refused, wrote, settings_ok, lent_ok, lengths_ok}

-- ---- a frame by itself

abbrev pub sequence_of : List ℕ → ℕ
sequence_of f = number_at 4 f 0

-- a group of k datagrams has k + 2 sequences
unfoldable pub group_of : ℕ → List ℕ → ℕ
group_of k f = sequence_of f / (k + 2)

unfoldable pub place_of : ℕ → List ℕ → ℕ
place_of k f = sequence_of f % (k + 2)

-- 32 to mtu + 8 bytes, of group n, of the type for its place, and of the right len where it is a data frame
unfoldable pub frame_ok : ℕ → ℕ → ℕ → List ℕ → Bool
frame_ok k mtu n f =
    leb 32 (length f)
    && leb (length f) (mtu + 8)
    && eqb (group_of k f) n
    && eqb (number_at 2 f 4) (type_at k (place_of k f))
    && (leb k (place_of k f) || eqb (number_at 2 f 6) (length f - 6))

-- ---- what is held, and what is found

-- the group of the first frame
unfoldable pub first_group : ℕ → List (List ℕ) → ℕ
first_group k [] = 0
first_group k (f ∷ fs) = group_of k f

-- the shard of the first frame at place p; empty where there is none
unfoldable pub held_shard : ℕ → List (List ℕ) → ℕ → List ℕ
held_shard k [] p = []
held_shard k (f ∷ fs) p = cond (eqb (place_of k f) p) (drop 6 f) (held_shard k fs p)

-- of the shards b one is held at place p
abbrev pub has : (ℕ → List ℕ) → ℕ → Bool
has b p = ltb 0 (length (b p))

-- byte x of parity w less the data shards held: the weighed sum of what is lost
unfoldable pub rest : ℕ → ℕ → (ℕ → List ℕ) → ℕ → ℕ
rest w k b x = plus (get_or (b (k + w)) x 0) (total (λ p. mul (weight w p) (get_or (b p) x 0)) k)

-- byte x of the shard at place i where that is lost, and j, if it is not 12, is the other one lost
unfoldable pub solved : ℕ → (ℕ → List ℕ) → ℕ → ℕ → ℕ → ℕ
solved k b i j x =
    cond (eqb j 12)
    (cond (has b k) (rest 0 k b x) (mul (inverse (power i)) (rest 1 k b x)))
    (mul (inverse (plus (power i) (power j))) (plus (rest 1 k b x) (mul (power j) (rest 0 k b x))))

-- byte x of the data shard at place i, held or found
unfoldable pub byte_at : ℕ → (ℕ → List ℕ) → ℕ → ℕ → ℕ
byte_at k b i x = cond (has b i) (get_or (b i) x 0) (solved k b i (other (has b) i k) x)

-- its len, and its datagram
unfoldable pub len_at : ℕ → (ℕ → List ℕ) → ℕ → ℕ
len_at k b i = byte_at k b i 0 + 256 * byte_at k b i 1

unfoldable pub datagram_at : ℕ → (ℕ → List ℕ) → ℕ → List ℕ
datagram_at k b i = listed (λ x. byte_at k b i (x + 2)) (len_at k b i - 2)

unfoldable pub found : ℕ → (ℕ → List ℕ) → List (List ℕ)
found k b = listed (datagram_at k b) k

-- ---- the group of what is found

-- two lists are the same
unfoldable pub same : List ℕ → List ℕ → Bool
same [] [] = true
same [] (y ∷ ys) = false
same (x ∷ xs) [] = false
same (x ∷ xs) (y ∷ ys) = cond (eqb x y) (same xs ys) false

-- the group of the datagrams ds that starts at s holds the frame f
unfoldable pub holds : ℕ → ℕ → List (List ℕ) → List ℕ → Bool
holds k s ds f = same f (frame_at s ds (place_of k f))

-- ---- the reader

-- frames of group n that each pass by themselves: 22 for fewer than k different sequences, then 21 unless the datagrams found have
-- 24 to mtu bytes and their group holds every frame, or these datagrams
unfoldable pub read_group : ℕ → ℕ → ℕ → List (List ℕ) → Outcome
read_group k mtu n fs =
    cond (ltb (different (map sequence_of fs)) k) (refused TooFewFrames)
    (cond (not (lengths_ok mtu (lengths_of (found k (held_shard k fs))) && every (holds k (n * (k + 2)) (found k (held_shard k fs))) fs))
    (refused NotAGroup)
    (wrote (found k (held_shard k fs))))

-- 21 for a frame that does not pass by itself, or is of another group than the first
unfoldable pub read_frames : ℕ → ℕ → List (List ℕ) → Outcome
read_frames k mtu fs = cond (not (every (frame_ok k mtu (first_group k fs)) fs)) (refused NotAGroup) (read_group k mtu (first_group k fs) fs)

-- the frames that the bytes s with these lengths are: 7, 12, then as above
unfoldable pub read_of : ℕ → ℕ → List ℕ → List ℕ → ℕ → ℕ → Outcome
read_of k mtu s lengths room slots =
    cond (not (lent_ok (length s) lengths 10 mtu room slots)) (refused ShortPart)
    (cond (not (settings_ok k mtu)) (refused SettingOutOfRange)
    (read_frames k mtu (parts s lengths)))
