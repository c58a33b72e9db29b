-- What holds of every segment that a link takes in, whatever bytes the datagram has.
-- Assumes nothing.
use Rattle.std.specs.Prelude.{◌≡◌, Ok, Err, Bool, cond, length}
use Rattle.std.proofs.Math.Path.{refl}
use Rattle.std.proofs.Math.Bool.{true, false}
use mathlib.Core.List.{List, [], ◌∷◌}
use Prim.Native.Nat.{ℕ, zero, suc, ◌+◌, ◌-◌, ◌≤◌}
use Rattle.std.proofs.Common.{arith, length-take, length-drop, leb-true}
use Rattle.std.proofs.Math.Dec.{leb}
use Rattle.protocol.specs.Protocol.{push, header_size, fragment_most}
use Rattle.wire.specs.LittleEndian.{AllBytes}
use Rattle.wire.specs.Headers.{decode, FieldsFit}
use Rattle.protocol.specs.declared.Refusal.TheVariants.{ShortDatagram}
use Rattle.datagram.specs.Datagrams.{Segment, Parsed, Verdict, verdict, segment_of, in_front, tail, walk, parse}
use Rattle.datagram.specs.WalkLaws.{passed}
use Rattle.delivery.specs.HeaderRange.{decode_fits, Each}

-- its fields have their widths, its payload has len bytes, and a push passes 5 and 6
pub record SegmentFits (m : ℕ) (g : Segment) : Type 0 where
  pub fields : FieldsFit g.header
  pub payload : length g.payload ≡ g.header.len
  pub push_length : g.header.cmd ≡ push → g.header.len ≤ m
  pub push_fragment : g.header.cmd ≡ push → g.header.frg ≤ fragment_most

module _ (conv m : ℕ) where
  segment_fits : (s : List ℕ) → AllBytes s → header_size ≤ length s → verdict conv m (length s - header_size) (decode s 0) ≡ Ok tt
      → SegmentFits m (segment_of s)
  unfolding segment_of
  segment_fits s b h e =
      let p = passed conv m (length s - header_size) (decode s 0) e in
      record {
        fields = decode_fits s 0 b;
        payload = simp (length-take, length-drop) (omega (arith, p.inside));
        push_length = p.payload;
        push_fragment = p.fragment;
      }

  in_front_fits : (v : Verdict) (g : Segment) (x : Parsed) → (v ≡ Ok tt → SegmentFits m g) → Each (SegmentFits m) x
      → Each (SegmentFits m) (in_front v g x)
  in_front_fits (Ok _) g (Parsed.refused r) f a = tt
  in_front_fits (Ok _) g (Parsed.segments gs) f a = (f refl, a)
  in_front_fits (Err r) g x f a = tt

  walk_fits : (skip : ℕ) (s : List ℕ) → AllBytes s → Each (SegmentFits m) (walk conv m skip s)
  unfolding walk tail
  walk_fits skip [] b = tt
  walk_fits zero (x ∷ s) b = go (leb header_size (length (x ∷ s))) refl (walk_fits (23 + (decode (x ∷ s) 0).len) s (λ i. b (suc i)))
    where
      go : (t : Bool) → leb header_size (length (x ∷ s)) ≡ t → Each (SegmentFits m) (walk conv m (23 + (decode (x ∷ s) 0).len) s)
          → Each (SegmentFits m)
          (cond t
          (in_front (verdict conv m (length (x ∷ s) - header_size) (decode (x ∷ s) 0)) (segment_of (x ∷ s))
          (walk conv m (23 + (decode (x ∷ s) 0).len) s))
          (tail (x ∷ s)))
      go true e a = in_front_fits _ _ _ (segment_fits (x ∷ s) b (leb-true header_size (length (x ∷ s)) e)) a
      go false e a = tt
  walk_fits (suc k) (x ∷ s) b = walk_fits k s (λ i. b (suc i))

  pub parse_fits : (d : List ℕ) → AllBytes d → Each (SegmentFits m) (parse conv m d)
  unfolding parse
  parse_fits d b = go (leb header_size (length d)) (walk_fits 0 d b)
    where
      go : (t : Bool) → Each (SegmentFits m) (walk conv m 0 d)
          → Each (SegmentFits m) (cond t (walk conv m 0 d) (Parsed.refused ShortDatagram))
      go true a = a
      go false a = tt
