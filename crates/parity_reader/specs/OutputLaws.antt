-- Steps of writing what is found.
-- Assumes nothing.
use Rattle.std.specs.Prelude.{◌≡◌, refl, List, ℕ, ◌+◌, ◌-◌, ◌*◌, ◌≤◌, ◌<◌, length, take, drop, set}
use Rattle.std.proofs.Common.{ap, ◌∙◌, add-mul, mul-le-mul_right, arith, length-set, take_all}
use Rattle.std.proofs.lemmas.List.Edits.{sets}
use Rattle.std.proofs.Math.Seq.{length-sets}
use Rattle.wire.specs.LittleEndian.{bytes_of}
use Rattle.frames.specs.Lists.{listed, joined, lengths_of}
use Rattle.frames.specs.Frames.{shard}
use Rattle.frames.specs.Reading.{datagram_at, found}
use Rattle.frames.specs.PartLaws.{stored, noted, length_joined_next}
use Rattle.frames.specs.FrameLaws.{length_shard}

-- what stands after i parts of at most mtu bytes each
pub record Packed (f : ℕ → List ℕ) (mtu : ℕ) (out₀ lens₀ out lens : List ℕ) (at i : ℕ) : Type 0 where
  pub room : length out ≡ length out₀
  pub slots : length lens ≡ length lens₀
  pub end : at ≡ length (joined (listed f i))
  pub most : at ≤ i * mtu
  pub bytes : out ≡ sets out₀ 0 (joined (listed f i))
  pub lengths : lens ≡ sets lens₀ 0 (lengths_of (listed f i))

pub packed_none : (f : ℕ → List ℕ) (mtu : ℕ) (out lens : List ℕ) → Packed f mtu out lens out lens 0 0
unfolding listed joined lengths_of
packed_none f mtu out lens = record { room = refl; slots = refl; end = refl; most = omega arith; bytes = refl; lengths = refl }

pub packed_next :
    (f : ℕ → List ℕ) (mtu : ℕ) (out₀ lens₀ out lens next : List ℕ) (at i n v : ℕ) →
    Packed f mtu out₀ lens₀ out lens at i →
    n ≡ length (f i) →
    n ≤ mtu →
    v ≡ n →
    next ≡ sets out at (f i) →
    Packed f mtu out₀ lens₀ next (set lens i v) (at + n) (i + 1)
packed_next f mtu out₀ lens₀ out lens next at i n v p en l ev e =
    let z : at ≡ length (joined (listed f i)) = p.end in
    let m : at ≤ i * mtu = p.most in
    record {
      room = ap length e ∙ length-sets out at (f i) ∙ p.room;
      slots = length-set lens i v ∙ p.slots;
      end = omega (arith, length_joined_next f i);
      most = omega (arith, add-mul i 1 mtu);
      bytes = stored f i at out₀ out next p.bytes p.end e;
      lengths = noted f i v lens₀ lens p.lengths (ev ∙ en);
    }

pub packed_room : (mtu at i n k room : ℕ) → at ≤ i * mtu → n ≤ mtu → i < k → k ≤ 10 → 10 * mtu ≤ room → at + n ≤ room
packed_room mtu at i n k room a m l t r =
    let e : (i + 1) * mtu ≤ 10 * mtu = mul-le-mul_right mtu (omega arith) in
    omega (arith, add-mul i 1 mtu)

pub packed_all :
    (k : ℕ) (b : ℕ → List ℕ) (mtu : ℕ) (out₀ lens₀ out lens : List ℕ) (at i : ℕ) →
    Packed (datagram_at k b) mtu out₀ lens₀ out lens at i →
    i ≡ k →
    (out ≡ sets out₀ 0 (joined (found k b))) × (lens ≡ sets lens₀ 0 (lengths_of (found k b)))
unfolding found
packed_all k b mtu out₀ lens₀ out lens at i p e = (
  p.bytes ∙ ap (λ (n : ℕ). sets out₀ 0 (joined (listed (datagram_at k b) n))) e,
  p.lengths ∙ ap (λ (n : ℕ). sets lens₀ 0 (lengths_of (listed (datagram_at k b) n))) e,
)

-- the datagram behind the len of its shard
pub behind_len : (d t : List ℕ) (n : ℕ) → t ≡ shard d → n ≡ length t - 2 → (n ≡ length d) × (take n (drop 2 t) ≡ d)
unfolding shard bytes_of
behind_len d t n e f =
    let z : length t ≡ length d + 2 = ap length e ∙ length_shard d in
    let m : n ≡ length d = omega arith in
    (m, ap (λ (l : List ℕ). take n (drop 2 l)) e ∙ take_all n d (omega arith))
