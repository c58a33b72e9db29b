-- What demand 3 claims of a receiver, whatever it is made of: its calls, their answers, and what it answers next. Definitions.
-- Assumes nothing.
use Rattle.std.specs.Prelude.{◌≡◌, ◌↔◌, ◌⊎◌, List, [], ◌∷◌, ◌++◌, map, ℕ, ◌+◌, ◌≤◌, ◌<◌, length}
use Rattle.std.proofs.Math.Option.{Option, none, some}
use Rattle.std.proofs.Math.ListN.{get_elem?}
use Rattle.protocol.specs.Protocol.{receive_window}
use Rattle.protocol.specs.Ranges.{mss}
use Rattle.protocol.specs.declared.Settings.{Settings}
use Rattle.protocol.specs.declared.Refusal.{Refusal}
use Rattle.protocol.specs.declared.Refusal.TheVariants.{
  ShortDatagram,
  OtherConversation,
  LengthPastEnd,
  UnknownCommand,
  LongPayload,
  HighFragment,
  ShortPart,
  NoMessage,
  LongMessage,
  NoFreeSlots,
  SettingOutOfRange,
  InvalidBlock,
  TrailingBytes,
}
use Rattle.session.specs.Cutting.{fragment_count}
use Rattle.session.specs.Calls.{Call, Reply, Event, read_answers, messages_read}
use Rattle.delivery.specs.PlainReceiver.{
  Plain,
  at_first,
  Found,
  pushes_in,
  first_wanted,
  next_expected,
  hear,
  after_call,
  plain_after,
  plain_answers,
}

-- the answer of a real read, as the plain receiver's: 9 is nothing found, 7 is a buffer that is too short. Any other
-- answer is not a read's, and equals none of these
pub data Seen : Type 0 where
  found : Found → Seen
  other : Seen

abbrev pub seen_refusal : Refusal → Seen
seen_refusal NoMessage = found Found.nothing
seen_refusal ShortPart = found Found.short
seen_refusal ShortDatagram = other
seen_refusal OtherConversation = other
seen_refusal LengthPastEnd = other
seen_refusal UnknownCommand = other
seen_refusal LongPayload = other
seen_refusal HighFragment = other
seen_refusal LongMessage = other
seen_refusal NoFreeSlots = other
seen_refusal SettingOutOfRange = other
seen_refusal InvalidBlock = other
seen_refusal TrailingBytes = other

abbrev pub seen : Reply → Seen
seen (Reply.refused r) = seen_refusal r
seen (Reply.message m) = found (Found.message m)
seen Reply.accepted = other
seen (Reply.wrote ds) = other
seen Reply.waited = other
seen (Reply.named t) = other

-- a begins b
pub record Begins {A : Type 0} (a b : List A) : Type 0 where
  pub rest : List A
  pub whole : a ++ rest ≡ b

-- ---- segments that have never been fed in time

module _ (c : Settings) (accepted : List (List ℕ)) (n : ℕ) where
  -- n is one of these numbers, fed in turn, and below the next expected number plus 128 when it comes
  unfoldable pub FedIn : Plain → List ℕ → Type 0
  FedIn p [] = ⊥
  FedIn p (sn ∷ sns) = ((sn ≡ n) × (n < next_expected c accepted p + receive_window)) ⊎ FedIn (hear c accepted p sn) sns

  -- one of these calls feeds n while it is below the next expected number plus 128
  unfoldable pub FedBelow : Plain → List Call → Type 0
  FedBelow p [] = ⊥
  FedBelow p (Call.take_in d ∷ xs) = FedIn p (pushes_in c d) ⊎ FedBelow (after_call c accepted p (Call.take_in d)) xs
  FedBelow p (Call.read room ∷ xs) = FedBelow (after_call c accepted p (Call.read room)) xs
  FedBelow p (Call.send m ∷ xs) = FedBelow p xs
  FedBelow p (Call.flush t ∷ xs) = FedBelow p xs
  FedBelow p (Call.update t ∷ xs) = FedBelow p xs
  FedBelow p (Call.check t ∷ xs) = FedBelow p xs

-- after these calls, a segment of this message has never been fed while below the next expected number plus 128; no message is missing too
abbrev pub MissingFrom : Settings → List (List ℕ) → List Call → Option (List ℕ) → Type 0
MissingFrom c accepted calls none = Unit {0}
MissingFrom c accepted calls (some m) =
    let first = first_wanted c accepted (plain_after c accepted at_first calls) in
    (n : ℕ) × (first ≤ n) × (n < first + fragment_count (mss c) (length m)) × (FedBelow c accepted n at_first calls → ⊥)

-- no next message was accepted, or a segment of it has never been fed so
abbrev pub Missing : Settings → List (List ℕ) → List Call → Type 0
Missing c accepted calls = MissingFrom c accepted calls (get_elem? accepted (plain_after c accepted at_first calls).out)

-- ---- the claims

-- what is seen of a receiver: the calls that it made, with their answers; whether a read of so many bytes that comes next is answered so;
-- and rcv_nxt
pub record Observed : Type 1 where
  pub calls : List Call
  pub events : List Event
  pub NextRead : ℕ → Reply → Type 0
  pub expected : ℕ

-- what holds of one receiver: each read answers as the plain receiver's, its messages begin the accepted list, a read that comes next finds
-- nothing exactly when a message or a segment of it is missing, and rcv_nxt is the plain receiver's next expected number
pub record Receives (c : Settings) (accepted : List (List ℕ)) (r : Observed) : Type 0 where
  pub answers : map seen (read_answers r.events) ≡ map found (plain_answers c accepted at_first r.calls)
  pub begins : Begins (messages_read (read_answers r.events)) accepted
  pub nothing : (room : ℕ) (a : Reply) → r.NextRead room a → (seen a ≡ found Found.nothing) ↔ Missing c accepted r.calls
  pub next_expected_lem : r.expected ≡ next_expected c accepted (plain_after c accepted at_first r.calls)

-- what demand 3 claims of two
pub record Delivered (c : Settings) (accepted : List (List ℕ)) (first second : Observed) : Type 0 where
  pub first_receives : Receives c accepted first
  pub second_receives : Receives c accepted second
  -- the first one's messages begin the second one's list
  pub none_lost : Begins (messages_read (read_answers first.events)) (messages_read (read_answers second.events))
