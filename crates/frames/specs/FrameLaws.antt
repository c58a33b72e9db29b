-- Laws of shards and frames: their bytes, their lengths, and the fields of a frame.
-- Assumes nothing.
use Rattle.std.specs.Prelude.{◌≡◌, refl, Bool, true, false, cond, List, [], ℕ, zero, suc, ◌+◌, ◌-◌, ◌*◌, ◌/◌, ◌%◌, ◌≤◌, ◌<◌, ltb, length, get_or, drop}
use Rattle.std.proofs.Common.{sym, ap, ◌∙◌, arith, ltb-true, ltb-false, lt-ltb, le-ltb, length-append}
use Rattle.std.proofs.Math.ListN.{get_or-eq_default}
use Rattle.wire.specs.LittleEndian.{bytes_of, number_at}
use Rattle.wire.specs.LittleEndianLaws.{length_bytes_of}
use Rattle.galois.specs.Field.{mul}
use Rattle.galois.specs.FieldLaws.{mul_zero}
use Rattle.frames.specs.Lists.{listed, lengths_of, largest}
use Rattle.frames.specs.Frames.{shard, longest, weight, parity_byte, parity_shard, type_at, shard_at, frame, frame_at}
use Rattle.frames.specs.PlaceLaws.{length_listed, get_d_listed, total_none}
use Rattle.frames.specs.PartLaws.{size_le}

-- ---- shards

pub length_shard : (d : List ℕ) → length (shard d) ≡ length d + 2
unfolding shard
length_shard d = simp (length-append, length_bytes_of) (omega arith)

pub shard_low : (d : List ℕ) (n : ℕ) → length d ≡ n → get_or (shard d) 0 0 ≡ (n + 2) % 256
unfolding shard bytes_of
shard_low d n e = rw e

pub shard_high : (d : List ℕ) (n : ℕ) → length d ≡ n → get_or (shard d) 1 0 ≡ (n + 2) / 256 % 256
unfolding shard bytes_of
shard_high d n e = rw e

pub shard_byte_lem : (d : List ℕ) (x : ℕ) → 2 ≤ x → get_or (shard d) x 0 ≡ get_or d (x - 2) 0
unfolding shard bytes_of
shard_byte_lem d zero h = absurd (omega arith)
shard_byte_lem d (suc zero) h = absurd (omega arith)
shard_byte_lem d (suc (suc x)) h = let e : suc (suc x) - 2 ≡ x = omega arith in rw e

pub len_shard : (d : List ℕ) → length d + 2 < 65536 → get_or (shard d) 0 0 + 256 * get_or (shard d) 1 0 ≡ length d + 2
unfolding shard bytes_of
len_shard d h = omega arith

pub behind : (d : List ℕ) (x : ℕ) → get_or (shard d) (x + 2) 0 ≡ get_or d x 0
unfolding shard bytes_of
behind d x = let e : x + 2 ≡ suc (suc x) = omega arith in ap (λ (i : ℕ). get_or (shard d) i 0) e

pub shard_bytes : (d : List ℕ) → ((x : ℕ) → get_or d x 0 < 256) → (x : ℕ) → get_or (shard d) x 0 < 256
unfolding shard bytes_of
shard_bytes d h zero = omega arith
shard_bytes d h (suc zero) = omega arith
shard_bytes d h (suc (suc x)) = h x

-- past the group's longest there are zeros
parity_past : (w : ℕ) (ds : List (List ℕ)) (x : ℕ) → longest ds ≤ x → parity_byte w ds x ≡ 0
unfolding parity_byte longest
parity_past w ds x h =
    total_none (λ p. mul (weight w p) (get_or (shard (get_or ds p [])) x 0)) (length ds)
    (λ p l. ap (mul (weight w p)) (get_or-eq_default (shard (get_or ds p [])) 0 (past p)) ∙ mul_zero (weight w p))
  where
    past : (p : ℕ) → length (shard (get_or ds p [])) ≤ x
    past p = let m : length (get_or ds p []) ≤ largest (lengths_of ds) = size_le ds p in rw (length_shard (get_or ds p [])) (omega arith)

-- so a parity frame holds the sum at each byte
pub parity_at : (w : ℕ) (ds : List (List ℕ)) (x : ℕ) → get_or (parity_shard w ds) x 0 ≡ parity_byte w ds x
unfolding parity_shard
parity_at w ds x = go (ltb x (longest ds)) refl
  where
    go : (b : Bool) → ltb x (longest ds) ≡ b → get_or (listed (parity_byte w ds) (longest ds)) x 0 ≡ parity_byte w ds x
    go true e = get_d_listed (parity_byte w ds) (longest ds) x 0 (ltb-true x (longest ds) e)
    go false e =
        let l : longest ds ≤ x = ltb-false x (longest ds) e in
        get_or-eq_default (listed (parity_byte w ds) (longest ds)) 0 (rw (length_listed (parity_byte w ds) (longest ds)) l) ∙ sym
        (parity_past w ds x l)

pub shard_at_data : (ds : List (List ℕ)) (p : ℕ) → p < length ds → shard_at ds p ≡ shard (get_or ds p [])
unfolding shard_at
shard_at_data ds p h = rw (lt-ltb p (length ds) h)

pub shard_at_parity : (ds : List (List ℕ)) (w : ℕ) → shard_at ds (length ds + w) ≡ parity_shard w ds
unfolding shard_at
shard_at_parity ds w =
    let e : length ds + w - length ds ≡ w = omega arith in
    rw (le-ltb (length ds + w) (length ds) (omega arith), e)

pub length_parity_shard : (v : ℕ) (ds : List (List ℕ)) → length (parity_shard v ds) ≡ largest (lengths_of ds) + 2
unfolding parity_shard longest
length_parity_shard v ds = length_listed (parity_byte v ds) (largest (lengths_of ds) + 2)

-- ---- a frame and its fields

pub seq_of : (s t : ℕ) (c : List ℕ) → s < 4294967296 → number_at 4 (frame s t c) 0 ≡ s
unfolding frame bytes_of number_at
seq_of s t c h = omega arith

pub type_of : (s t : ℕ) (c : List ℕ) → t < 65536 → number_at 2 (frame s t c) 4 ≡ t
unfolding frame bytes_of number_at
type_of s t c h = omega arith

pub len_of : (s t : ℕ) (c : List ℕ) → number_at 2 (frame s t c) 6 ≡ number_at 2 c 0
unfolding frame bytes_of number_at
len_of s t c = refl

pub shard_of : (s t : ℕ) (c : List ℕ) → drop 6 (frame s t c) ≡ c
unfolding frame bytes_of
shard_of s t c = refl

pub length_frame : (s t : ℕ) (c : List ℕ) → length (frame s t c) ≡ 6 + length c
unfolding frame
length_frame s t c = simp (length-append, length_bytes_of) (omega arith)

pub two_bytes : (c : List ℕ) → number_at 2 c 0 ≡ get_or c 0 0 + 256 * get_or c 1 0
unfolding number_at
two_bytes c = omega arith

pub type_lt : (k p : ℕ) → type_at k p < 65536
unfolding type_at
type_lt k p = go (ltb p k)
  where
    go : (b : Bool) → cond b 241 242 < 65536
    go true = omega arith
    go false = omega arith

pub length_frame_at : (s : ℕ) (ds : List (List ℕ)) (p : ℕ) → length (frame_at s ds p) ≡ 6 + length (shard_at ds p)
unfolding frame_at
length_frame_at s ds p = length_frame (s + p) (type_at (length ds) p) (shard_at ds p)

pub drop_frame_at : (s : ℕ) (ds : List (List ℕ)) (p : ℕ) → drop 6 (frame_at s ds p) ≡ shard_at ds p
unfolding frame_at
drop_frame_at s ds p = shard_of (s + p) (type_at (length ds) p) (shard_at ds p)

pub type_at_lem : (s : ℕ) (ds : List (List ℕ)) (p : ℕ) → number_at 2 (frame_at s ds p) 4 ≡ type_at (length ds) p
unfolding frame_at
type_at_lem s ds p = type_of (s + p) (type_at (length ds) p) (shard_at ds p) (type_lt (length ds) p)

pub len_at_lem : (s : ℕ) (ds : List (List ℕ)) (p : ℕ) → p < length ds → length (get_or ds p []) + 2 < 65536
    → number_at 2 (frame_at s ds p) 6 ≡ length (get_or ds p []) + 2
unfolding frame_at
len_at_lem s ds p h l =
    len_of (s + p) (type_at (length ds) p) (shard_at ds p) ∙ ap (λ (c : List ℕ). number_at 2 c 0) (shard_at_data ds p h)
    ∙ two_bytes (shard (get_or ds p [])) ∙ len_shard (get_or ds p []) l
