-- Laws of `Headers`: the two round trips.
-- Assumes nothing.
use Rattle.std.specs.Prelude.{◌≡◌, refl, List, ◌++◌, ℕ, ◌+◌, ◌≤◌, length, take, drop}
use Rattle.std.proofs.Common.{append_assoc, add-zero, arith, take-add, drop-drop}
use Rattle.std.proofs.Math.ListN.{length-append}
use Rattle.std.proofs.lemmas.List.Edits.{sets}
use Rattle.wire.specs.LittleEndian.{bytes_of, number_at, AllBytes}
use Rattle.wire.specs.LittleEndianLaws.{number_of_bytes, bytes_of_number, number_at_drop, length_bytes_of}
use Rattle.wire.specs.Headers.{front, back, encode, decode, FieldsFit}
use Rattle.wire.specs.Stores.{sets_append}
use Rattle.wire.specs.declared.Header.{Header}

pub length_front : (h : Header) → length (front h) ≡ 8
unfolding front bytes_of
length_front h = refl

pub length_encode : (h : Header) → length (encode h) ≡ 24
unfolding encode front back bytes_of
length_encode h = refl

-- the fields of each part, stored one behind the other from i on
module _ (h : Header) (l : List ℕ) (i : ℕ) {x y z w : List ℕ} where
  pub front_stored :
      x ≡ sets l i (bytes_of 4 h.conv) →
      y ≡ sets x (i + 4) (bytes_of 1 h.cmd) →
      z ≡ sets y (i + 5) (bytes_of 1 h.frg) →
      w ≡ sets z (i + 6) (bytes_of 2 h.wnd) →
      w ≡ sets l i (front h)
  unfolding front
  front_stored p q r s = simp (sets_append, length-append, length_bytes_of) (cc)

  pub back_stored :
      x ≡ sets l i (bytes_of 4 h.ts) →
      y ≡ sets x (i + 4) (bytes_of 4 h.sn) →
      z ≡ sets y (i + 8) (bytes_of 4 h.una) →
      w ≡ sets z (i + 12) (bytes_of 4 h.len) →
      w ≡ sets l i (back h)
  unfolding back
  back_stored p q r s = simp (sets_append, length-append, length_bytes_of) (cc)

-- the two parts, stored one behind the other
pub encode_stored :
    (h : Header) (l : List ℕ) (i : ℕ) {x y : List ℕ} →
    x ≡ sets l i (front h) →
    y ≡ sets x (i + 8) (back h) →
    y ≡ sets l i (encode h)
unfolding encode
encode_stored h l i p q = rw (sets_append, length_front) (cc)

-- a header whose fields fit comes back, whatever follows it
pub decode_encode : (h : Header) (t : List ℕ) → FieldsFit h → decode (encode h ++ t) 0 ≡ h
unfolding decode encode front back bytes_of number_at
decode_encode h t r = λ i. record {
  conv = number_of_bytes 4 h.conv r.conv i;
  cmd = number_of_bytes 1 h.cmd r.cmd i;
  frg = number_of_bytes 1 h.frg r.frg i;
  wnd = number_of_bytes 2 h.wnd r.wnd i;
  ts = number_of_bytes 4 h.ts r.ts i;
  sn = number_of_bytes 4 h.sn r.sn i;
  una = number_of_bytes 4 h.una r.una i;
  len = number_of_bytes 4 h.len r.len i;
}

-- the bytes of s from i on, a of them and then b
join : (a b i : ℕ) (s : List ℕ) → take a (drop i s) ++ take b (drop (i + a) s) ≡ take (a + b) (drop i s)
join a b i s = rw (take-add, drop-drop)

-- 24 bytes come back
pub encode_decode : (s : List ℕ) (i : ℕ) → AllBytes s → i + 24 ≤ length s → encode (decode s i) ≡ take 24 (drop i s)
unfolding encode front back decode
encode_decode s i b h =
    rw (
      bytes_of_number 4 s i b (omega arith),
      bytes_of_number 1 s (i + 4) b (omega arith),
      bytes_of_number 1 s (i + 5) b (omega arith),
      bytes_of_number 2 s (i + 6) b (omega arith),
      bytes_of_number 4 s (i + 8) b (omega arith),
      bytes_of_number 4 s (i + 12) b (omega arith),
      bytes_of_number 4 s (i + 16) b (omega arith),
      bytes_of_number 4 s (i + 20) b (omega arith),
      ← append_assoc,
      ← append_assoc,
      ← append_assoc,
      join 4 1,
      join 5 1,
      join 6 2,
      join 8 4,
      join 12 4,
      join 16 4,
      join 20 4,
    )

-- a header behind n elements, read from the whole
pub decode_drop : (n : ℕ) (s : List ℕ) → decode (drop n s) 0 ≡ decode s n
unfolding decode
decode_drop n s = simp (number_at_drop, add-zero)
