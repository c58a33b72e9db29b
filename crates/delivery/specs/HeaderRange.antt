-- The headers of a datagram of bytes: each field fits its bytes.
-- Assumes nothing.
use Rattle.std.specs.Prelude.{Ok, Err, Bool, true, false, cond, List, [], ◌∷◌, ℕ, zero, suc, ◌+◌, ◌-◌, ◌^◌, ◌<◌, leb, length}
use Rattle.std.proofs.Math.Nat.{pow-succ'}
use Rattle.std.proofs.Common.{arith}
use Rattle.protocol.specs.Protocol.{header_size}
use Rattle.wire.specs.LittleEndian.{number_at, AllBytes}
use Rattle.wire.specs.Headers.{decode, FieldsFit}
use Rattle.datagram.specs.Datagrams.{Verdict, Segment, verdict, segment_of, Parsed, in_front, tail, walk, parse}
use Rattle.session.specs.Decides.{All}

pub number_at_below : (k : ℕ) (s : List ℕ) (i : ℕ) → AllBytes s → number_at k s i < 256 ^ k
unfolding number_at
number_at_below zero s i b = omega arith
number_at_below (suc k) s i b = omega (arith, b i, number_at_below k s (suc i) b, pow-succ' 256 k)

pub decode_fits : (s : List ℕ) (i : ℕ) → AllBytes s → FieldsFit (decode s i)
unfolding decode
decode_fits s i b = record {
  conv = number_at_below 4 s i b;
  cmd = number_at_below 1 s (i + 4) b;
  frg = number_at_below 1 s (i + 5) b;
  wnd = number_at_below 2 s (i + 6) b;
  ts = number_at_below 4 s (i + 8) b;
  sn = number_at_below 4 s (i + 12) b;
  una = number_at_below 4 s (i + 16) b;
  len = number_at_below 4 s (i + 20) b;
}

abbrev pub HeaderFits : Segment → Type 0
HeaderFits g = FieldsFit g.header

-- of each segment, where a datagram is not refused
abbrev pub Each : (Segment → Type 0) → Parsed → Type 0
Each P (Parsed.refused r) = Unit {0}
Each P (Parsed.segments gs) = All P gs

module _ (P : Segment → Type 0) where
  in_front_lem : (v : Verdict) (g : Segment) (p : Parsed) → P g → Each P p → Each P (in_front v g p)
  in_front_lem (Ok _) g (Parsed.refused r) h k = tt
  in_front_lem (Ok _) g (Parsed.segments gs) h k = (h, k)
  in_front_lem (Err r) g p h k = tt

  either : (b : Bool) (p q : Parsed) → Each P p → Each P q → Each P (cond b p q)
  either true p q h k = h
  either false p q h k = k

segment_fits : (s : List ℕ) → AllBytes s → HeaderFits (segment_of s)
unfolding segment_of
segment_fits s b = decode_fits s 0 b

walk_fits : (conv mss skip : ℕ) (s : List ℕ) → AllBytes s → Each HeaderFits (walk conv mss skip s)
unfolding walk tail
walk_fits conv mss skip [] b = tt
walk_fits conv mss zero (x ∷ s) b =
    either HeaderFits (leb header_size (length (x ∷ s)))
    (in_front (verdict conv mss (length (x ∷ s) - header_size) (decode (x ∷ s) 0)) (segment_of (x ∷ s))
    (walk conv mss (23 + (decode (x ∷ s) 0).len) s))
    (tail (x ∷ s))
    (in_front_lem HeaderFits (verdict conv mss (length (x ∷ s) - header_size) (decode (x ∷ s) 0)) (segment_of (x ∷ s))
    (walk conv mss (23 + (decode (x ∷ s) 0).len) s)
    (segment_fits (x ∷ s) b)
    (walk_fits conv mss (23 + (decode (x ∷ s) 0).len) s (λ i. b (suc i))))
    tt
walk_fits conv mss (suc skip) (x ∷ s) b = walk_fits conv mss skip s (λ i. b (suc i))

pub parse_fits : (conv mss : ℕ) (s : List ℕ) → AllBytes s → Each HeaderFits (parse conv mss s)
unfolding parse
parse_fits conv mss s b = either HeaderFits (leb header_size (length s)) (walk conv mss 0 s) _ (walk_fits conv mss 0 s b) tt
