-- The steps of a push: noting an ack, keeping the segment. Definitions.
-- Assumes nothing.
use Rattle.std.specs.Prelude.{◌≡◌, cond, ◌&&◌, List, [], ◌∷◌, ℕ, ◌+◌, ◌*◌, ◌≤◌, ltb, length}
use Rattle.std.proofs.lemmas.List.Edits.{sets}
use Rattle.protocol.specs.Protocol.{acks_most}
use Rattle.wire.specs.declared.Header.{Header}
use Rattle.session.specs.Input.{pushed}
use Rattle.marks.specs.Marks.{Free}
use Rattle.keeping.specs.Pushing.{is_in_window, used_by}
use Rattle.receive.specs.Halves.{Half, receiver_of, segment_at, Sound, HalfIs}

-- a push in the window is noted behind n pairs, none past 256: the ack list and the count afterwards
pub record Noted (next : ℕ) (h : Header) (was : List ℕ) (n : ℕ) (is : List ℕ) (m : ℕ) : Type 0 where
  pub count : m ≡ cond (is_in_window next h.sn && ltb n acks_most) (n + 1) n
  pub list : is ≡ cond (is_in_window next h.sn && ltb n acks_most) (sets was (2 * n) (h.sn ∷ h.ts ∷ [])) was

-- the marks tell the half's free slots from k on
pub record Marked (half : Half) (marks : List ℕ) (k : ℕ) : Type 0 where
  pub whole : length marks ≡ 256
  pub free : Free marks (used_by half.lists.ready half.lists.waiting) k

-- a sound half, marks of its slots, and a push that stands in a datagram and fits a slot
pub record Pushable (half : Half) (marks : List ℕ) (k mss : ℕ) (s : List ℕ) (start : ℕ) (h : Header) (pool acks : List ℕ) : Type 0 where
  pub sound : Sound half mss acks pool
  pub marked : Marked half marks k
  pub inside : start + h.len ≤ length s
  pub fits : h.len ≤ mss

-- the half r is what the definition makes of a push, and the marks tell its free slots from k on
pub record Heard (half : Half) (marks : List ℕ) (mss : ℕ) (s : List ℕ) (start : ℕ) (h : Header) (pool acks : List ℕ)
    (r : Half) (k : ℕ) (pool' acks' : List ℕ) : Type 0 where
  pub marked : Marked r marks k
  pub is : HalfIs mss half r acks acks' pool' (pushed mss (receiver_of half acks pool) (segment_at s start h))
