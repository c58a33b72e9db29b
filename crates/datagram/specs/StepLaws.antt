-- For a caller's loop over `segment_at`: what remains of an accepted datagram, segment by segment.
-- `accepted` begins.
-- Assumes nothing.
use Rattle.std.specs.Prelude.{◌≡◌, Ok, Err, refl, List, ◌∷◌, ℕ, ◌+◌, ◌-◌, ◌≤◌, take, drop}
use Rattle.std.proofs.Common.{sym, ◌∙◌, arith}
use Rattle.std.proofs.Math.Decide.{dec_le}
use Rattle.std.proofs.Math.ListN.{length}
use Rattle.wire.specs.declared.Header.{Header}
use Rattle.protocol.specs.declared.Refusal.{Refusal}
use Rattle.datagram.specs.Datagrams.{Segment, Parsed, refused, segments, walk, parse, counted}
use Rattle.datagram.specs.WalkLaws.{Passed, parse_long, parse_short}

-- the segments gs remain at index i of s
pub record Remaining (conv mss : ℕ) (s : List ℕ) (i : ℕ) (gs : List Segment) : Type 0 where
  pub inside : i ≤ length s
  pub walked : walk conv mss 0 (drop i s) ≡ segments gs

-- ---- the begin

-- a datagram of n segments was accepted
pub record Begun (conv mss : ℕ) (s : List ℕ) (n : ℕ) : Type 0 where
  pub all : List Segment
  pub parsed : parse conv mss s ≡ segments all
  pub count : n ≡ length all
  pub remaining : Remaining conv mss s 0 all

pub was_refused : (n : ℕ) (p : Parsed) (r : Refusal) → counted n p ≡ Err r → p ≡ refused r
was_refused n (refused q) r e = cc
was_refused n (segments gs) r e = absurd (let z : ◌≡◌ {A = ℕ} 0 1 = cc in omega arith)

module _ (conv mss : ℕ) (s : List ℕ) where
  pub parsed_remaining : (gs : List Segment) → parse conv mss s ≡ segments gs → Remaining conv mss s 0 gs
  parsed_remaining gs e = go (dec_le 24 (length s))
    where
      go : Dec (24 ≤ length s) → Remaining conv mss s 0 gs
      go (yes h) = record { inside = omega arith; walked = sym (parse_long conv mss s h) ∙ e }
      go (no h) = absurd (let p = sym (parse_short conv mss s (omega arith)) ∙ e in let z : ◌≡◌ {A = ℕ} 0 1 = cc in omega arith)

  pub accepted : (n : ℕ) → counted 0 (parse conv mss s) ≡ Ok n → Begun conv mss s n
  accepted n e = go (parse conv mss s) refl
    where
      go : (p : Parsed) → parse conv mss s ≡ p → Begun conv mss s n
      go (refused r) q = absurd (let f = rw q at e in let z : ◌≡◌ {A = ℕ} 0 1 = cc in omega arith)
      go (segments gs) q =
          let f = rw q at e in
          let k : n ≡ 0 + length gs = cc in
          record { all = gs; parsed = q; count = omega arith; remaining = parsed_remaining gs q }

-- the first of the segments gs that remain at i has the header h, its payload from start on, and next behind it
pub record Took (conv mss : ℕ) (s : List ℕ) (i : ℕ) (gs : List Segment) (h : Header) (start next : ℕ) : Type 0 where
  pub others : List Segment
  pub whole : gs ≡ record { header = h; payload = take h.len (drop start s) } ∷ others
  pub starts : start ≡ i + 24
  pub follows : next ≡ i + 24 + h.len
  pub inside : next ≤ length s
  pub long : length (take h.len (drop start s)) ≡ h.len
  pub passed : Passed conv mss (length s - (i + 24)) h
  pub remaining : Remaining conv mss s next others
