-- What a datagram is: why it is refused, or its segments. Definitions.
-- Assumes nothing.
use Rattle.std.specs.Prelude.{
  Bool,
  true,
  Option,
  None,
  Some,
  Result,
  Ok,
  Err,
  cond,
  ◌&&◌,
  List,
  [],
  ◌∷◌,
  ℕ,
  zero,
  suc,
  ◌+◌,
  ◌-◌,
  leb,
  eqb,
  length,
  take,
  drop,
}
use Rattle.wire.specs.Headers.{decode}
use Rattle.protocol.specs.Protocol.{push, window_tell, header_size, fragment_most}
use Rattle.wire.specs.declared.Header.{Header}
use Rattle.protocol.specs.declared.Refusal.{Refusal}
use Rattle.protocol.specs.declared.Refusal.TheVariants.{
  ShortDatagram,
  OtherConversation,
  LengthPastEnd,
  UnknownCommand,
  LongPayload,
  HighFragment,
  TrailingBytes,
}
use Rattle.datagram.specs.declared.Segment.{Segment as Place}

-- ---- one segment

-- a header with its payload
pub record Segment : Type 0 where
  pub header : Header
  pub payload : List ℕ

-- a test, and the refusal that is given where it fails
pub record Test : Type 0 where
  pub holds : Bool
  pub otherwise : Refusal

-- whether a segment passes the tests, or the refusal of the first that fails
abbrev pub Verdict : Type 0
Verdict = Result (Unit {0}) Refusal

-- the tests in turn: the first that fails decides
abbrev pub first_failed : List Test → Verdict
first_failed [] = Ok tt
first_failed (t ∷ ts) = cond t.holds (first_failed ts) (Err t.otherwise)

-- what is asked of a push alone
abbrev pub of_push : Header → Bool → Bool
of_push h b = cond (eqb h.cmd push) b true

-- the tests of a header that has room bytes behind it, by a link of this conversation and mss
unfoldable pub verdict : ℕ → ℕ → ℕ → Header → Verdict
verdict conv mss room h =
    first_failed
    -- 2: another conversation
    (record { holds = eqb h.conv conv; otherwise = OtherConversation }
    -- 3: len runs past the datagram's end
    ∷ record { holds = leb h.len room; otherwise = LengthPastEnd }
    -- 4: command not 81 to 84
    ∷ record { holds = leb push h.cmd && leb h.cmd window_tell; otherwise = UnknownCommand }
    -- 5: push payload above mss
    ∷ record { holds = of_push h (leb h.len mss); otherwise = LongPayload }
    -- 6: push fragment number above 126
    ∷ record { holds = of_push h (leb h.frg fragment_most); otherwise = HighFragment }
    ∷ [])

-- the segment that s begins with
unfoldable pub segment_of : List ℕ → Segment
segment_of s = record { header = decode s 0; payload = take (decode s 0).len (drop header_size s) }

-- ---- a datagram

pub data Parsed : Type 0 where
  refused : Refusal → Parsed
  segments : List Segment → Parsed

-- a segment with its verdict, in front of what the rest is: the first bad segment decides
abbrev pub in_front : Verdict → Segment → Parsed → Parsed
in_front (Ok _) g (refused r) = refused r
in_front (Ok _) g (segments gs) = segments (g ∷ gs)
in_front (Err r) g p = refused r

-- what is left behind the last whole segment, fewer than 24 bytes. 14: there is such a tail. It comes last: a bad segment before it
-- decides (`in_front`)
unfoldable pub tail : List ℕ → Parsed
tail [] = segments []
tail (b ∷ t) = refused TrailingBytes

module _ (conv mss : ℕ) where
  -- the segments of s behind its first skip bytes. A segment that begins with b has 23 + len bytes more. It goes by bytes, so that it ends;
  -- WalkLaws `walk_step` and `walk_short` say it segment by segment
  unfoldable pub walk : ℕ → List ℕ → Parsed
  walk skip [] = tail []
  walk zero (b ∷ s) =
      let h = decode (b ∷ s) 0 in
      let n = length (b ∷ s) in
      cond (leb header_size n)
      (in_front (verdict conv mss (n - header_size) h) (segment_of (b ∷ s)) (walk (23 + h.len) s))
      (tail (b ∷ s))
  walk (suc skip) (b ∷ s) = walk skip s

  -- 1: datagram under 24 bytes
  unfoldable pub parse : List ℕ → Parsed
  parse s = cond (leb header_size (length s)) (walk 0 s) (refused ShortDatagram)

-- whether a datagram is accepted, with the count of its segments, or why it is refused
abbrev pub Checked : Type 0
Checked = Result ℕ Refusal

-- the answer for what a datagram is, with n segments counted before it
abbrev pub counted : ℕ → Parsed → Checked
counted n (refused r) = Err r
counted n (segments gs) = Ok (n + length gs)

-- ---- a position

-- the segment at index i of s, where all of it stands in s
unfoldable pub step_at : List ℕ → ℕ → Option Place
step_at s i =
    let h = decode s i in
    let start = i + header_size in
    let next = start + h.len in
    cond (leb start (length s) && leb next (length s)) (Some (record { header = h; start = start; next = next })) None
