-- The plain receiver of document 01 (its own term): it gets the accepted list and a receiver's calls.
-- Assumes nothing.
use Rattle.std.specs.Prelude.{◌≡◌, Bool, true, false, cond, ◌&&◌, List, [], ◌∷◌, ℕ, zero, suc, ◌+◌, ◌≤◌, ◌<◌, eqb, ltb, length, take}
use Rattle.std.proofs.Math.Option.{Option, none, some}
use Rattle.std.proofs.Math.ListN.{get_elem?}
use Rattle.protocol.specs.Protocol.{push, receive_window}
use Rattle.protocol.specs.Ranges.{mss}
use Rattle.protocol.specs.declared.Settings.{Settings}
use Rattle.datagram.specs.Datagrams.{Segment, Parsed, parse}
use Rattle.session.specs.Slots.{occurs, lowest_from}
use Rattle.session.specs.Cutting.{fragment_count}
use Rattle.session.specs.Calls.{Call}

-- what is heard, by number, and how many messages are out; at first nothing is
pub record Plain : Type 0 where
  pub heard : List ℕ
  pub out : ℕ

abbrev pub at_first : Plain
at_first = record { heard = []; out = 0 }

-- what a read finds: nothing (9), a buffer that is too short (7), or a message
pub data Found : Type 0 where
  nothing : Found
  short : Found
  message : List ℕ → Found

-- the numbers of a datagram's pushes, in turn
unfoldable pub push_numbers : List Segment → List ℕ
push_numbers [] = []
push_numbers (g ∷ gs) = cond (eqb g.header.cmd push) (g.header.sn ∷ push_numbers gs) (push_numbers gs)

abbrev pub pushes_of : Parsed → List ℕ
pushes_of (Parsed.refused r) = []
pushes_of (Parsed.segments gs) = push_numbers gs

unfoldable pub pushes_in : Settings → List ℕ → List ℕ
pushes_in c d = pushes_of (parse c.conv (mss c) d)

-- how many segments messages have
unfoldable pub segments_of : ℕ → List (List ℕ) → ℕ
segments_of m [] = 0
segments_of m (x ∷ xs) = fragment_count m (length x) + segments_of m xs

-- the numbers from n on, k of them, are all heard
unfoldable pub all_heard : List ℕ → ℕ → ℕ → Bool
all_heard heard n zero = true
all_heard heard n (suc k) = occurs n heard && all_heard heard (suc n) k

module _ (c : Settings) (accepted : List (List ℕ)) where
  -- the number of the first segment that is not out: the accepted segments are numbered from 0 in order
  abbrev pub first_wanted : Plain → ℕ
  first_wanted p = segments_of (mss c) (take p.out accepted)

  -- the next expected number: the smaller of the lowest not heard and 128 plus the segments of the messages out
  -- (`lowest_from l n k` is the lowest of n, n + 1, .. not in l, n + k at most)
  abbrev pub next_expected : Plain → ℕ
  next_expected p = lowest_from p.heard 0 (first_wanted p + receive_window)

  -- a push with sn below the next expected number plus 128 is heard
  abbrev pub hear : Plain → ℕ → Plain
  hear p sn = cond (ltb sn (next_expected p + receive_window)) (record { heard = sn ∷ p.heard; out = p.out }) p

  -- each push in turn
  unfoldable pub feed : Plain → List ℕ → Plain
  feed p [] = p
  feed p (sn ∷ sns) = feed (hear p sn) sns

  -- the first accepted message not yet out, if there is one and all its segments are heard
  abbrev pub answer_for : Plain → ℕ → Option (List ℕ) → Found
  answer_for p room none = nothing
  answer_for p room (some m) =
      cond (all_heard p.heard (first_wanted p) (fragment_count (mss c) (length m)))
      (cond (ltb room (length m)) short (message m))
      nothing

  unfoldable pub plain_answer : Plain → ℕ → Found
  plain_answer p room = answer_for p room (get_elem? accepted p.out)

  -- a message that comes out
  abbrev pub leave : Plain → Found → Plain
  leave p nothing = p
  leave p short = p
  leave p (message m) = record { heard = p.heard; out = suc p.out }

  -- all else changes nothing
  abbrev pub after_call : Plain → Call → Plain
  after_call p (Call.take_in d) = feed p (pushes_in c d)
  after_call p (Call.read room) = leave p (plain_answer p room)
  after_call p (Call.send m) = p
  after_call p (Call.flush t) = p
  after_call p (Call.update t) = p
  after_call p (Call.check t) = p

  unfoldable pub plain_after : Plain → List Call → Plain
  plain_after p [] = p
  plain_after p (x ∷ xs) = plain_after (after_call p x) xs

  -- what its reads find
  unfoldable pub plain_answers : Plain → List Call → List Found
  plain_answers p [] = []
  plain_answers p (Call.read room ∷ xs) = plain_answer p room ∷ plain_answers (after_call p (Call.read room)) xs
  plain_answers p (Call.take_in d ∷ xs) = plain_answers (after_call p (Call.take_in d)) xs
  plain_answers p (Call.send m ∷ xs) = plain_answers p xs
  plain_answers p (Call.flush t ∷ xs) = plain_answers p xs
  plain_answers p (Call.update t ∷ xs) = plain_answers p xs
  plain_answers p (Call.check t ∷ xs) = plain_answers p xs

-- no next message was accepted, or a segment of it is not heard
abbrev pub UnheardFrom : Settings → List (List ℕ) → Plain → Option (List ℕ) → Type 0
UnheardFrom c accepted p none = Unit {0}
UnheardFrom c accepted p (some m) =
    (n : ℕ) × (first_wanted c accepted p ≤ n) × (n < first_wanted c accepted p + fragment_count (mss c) (length m)) ×
    (occurs n p.heard ≡ false)

abbrev pub Unheard : Settings → List (List ℕ) → Plain → Type 0
Unheard c accepted p = UnheardFrom c accepted p (get_elem? accepted p.out)
