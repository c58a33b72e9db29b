-- Laws of `LittleEndian`: the two round trips, how reading goes by parts, and the bytes that std gives.
-- Assumes nothing.
use Rattle.std.specs.Prelude.{◌≡◌, refl, List, ◌∷◌, ℕ, zero, suc, ◌+◌, ◌*◌, ◌/◌, ◌%◌, ◌^◌, ◌≤◌, ◌<◌, length, get_or, take, drop}
use Rattle.std.proofs.Common.{ap, mul_assoc, add-zero, zero-add, suc-add, add-suc, one-mul, arith, drop-cons, get_or-drop}
use Rattle.std.proofs.Math.Nat.{pow-succ', pow-zero}
use Rattle.std.specs.Int.{w16, w32, to_le_bytes}
use Rattle.wire.specs.LittleEndian.{bytes_of, number_at, AllBytes}

pub length_bytes_of : (k n : ℕ) → length (bytes_of k n) ≡ k
unfolding bytes_of
length_bytes_of zero n = refl
length_bytes_of (suc k) n = ap suc (length_bytes_of k (n / 256))

number_at_cons : (k : ℕ) (b : ℕ) (s : List ℕ) (i : ℕ) → number_at k (b ∷ s) (suc i) ≡ number_at k s i
unfolding number_at
number_at_cons zero b s i = refl
number_at_cons (suc k) b s i = rw (number_at_cons k b s (suc i))

-- what is read behind n elements, read from the whole
pub number_at_drop : (k n : ℕ) (s : List ℕ) (i : ℕ) → number_at k (drop n s) i ≡ number_at k s (n + i)
unfolding number_at
number_at_drop zero n s i = refl
number_at_drop (suc k) n s i = rw (get_or-drop, number_at_drop k n s (suc i), add-suc)

-- the low j bytes, and the k bytes above them
pub number_at_add : (j k : ℕ) (s : List ℕ) (i : ℕ) → number_at (j + k) s i ≡ number_at j s i + 256 ^ j * number_at k s (i + j)
unfolding number_at
number_at_add zero k s i = simp (zero-add, add-zero, pow-zero, one-mul)
number_at_add (suc j) k s i = rw (suc-add, number_at_add j k s (suc i), pow-succ', mul_assoc, add-suc, ← suc-add) (omega arith)

-- a number that fits in k bytes comes back
pub number_of_bytes : (k n : ℕ) → n < 256 ^ k → number_at k (bytes_of k n) 0 ≡ n
unfolding bytes_of number_at
number_of_bytes zero n h = omega arith
number_of_bytes (suc k) n h =
    let h' : n / 256 < 256 ^ k = omega (arith, pow-succ' 256 k) in
    rw (number_at_cons k (n % 256) (bytes_of k (n / 256)) 0, number_of_bytes k (n / 256) h') (omega arith)

-- the k bytes come back
pub bytes_of_number : (k : ℕ) (s : List ℕ) (i : ℕ) → AllBytes s → i + k ≤ length s → bytes_of k (number_at k s i) ≡ take k (drop i s)
unfolding bytes_of number_at
bytes_of_number zero s i b h = refl
bytes_of_number (suc k) s i b h =
    let low : (get_or s i 0 + 256 * number_at k s (suc i)) % 256 ≡ get_or s i 0 = omega (arith, b i) in
    let high : (get_or s i 0 + 256 * number_at k s (suc i)) / 256 ≡ number_at k s (suc i) = omega (arith, b i) in
    let inside : i < length s = omega arith in
    rw (low, high, drop-cons s i 0, bytes_of_number k s (suc i) b (omega arith))

-- std's bytes of a number
pub le_16 : (n : ℕ) → to_le_bytes w16 n ≡ bytes_of 2 n
unfolding bytes_of
le_16 n = refl

pub le_32 : (n : ℕ) → to_le_bytes w32 n ≡ bytes_of 4 n
unfolding bytes_of
le_32 n =
    let third : n / 65536 ≡ n / 256 / 256 = omega arith in
    let fourth : n / 16777216 ≡ n / 256 / 256 / 256 = omega arith in
    rw (third, fourth)
