-- One call of a station beside the plain receiver: where the station stands for the lists that the plain receiver gives, it answers
-- as the plain receiver and stands for its lists afterwards. And the messages among answers that are the plain receiver's.
-- A proof layer that no contract cites.
-- Assumes nothing.
use Rattle.std.specs.Prelude.{◌≡◌, refl, Bool, true, false, cond, ℕ, ◌<◌, leb, eqb, take}
use Rattle.std.proofs.Math.Path.{sym, ap}
use Rattle.std.proofs.Common.{ap₂, ◌∙◌, eqb-true}
use mathlib.Core.List.{List, [], ◌∷◌, ◌++◌, map, nil≢cons, head-eq_of_cons-eq, tail-eq_of_cons-eq}
use Rattle.protocol.specs.Protocol.{push}
use Rattle.protocol.specs.Ranges.{mss}
use Rattle.protocol.specs.declared.Settings.{Settings}
use Rattle.protocol.specs.declared.Refusal.{Refusal}
use Rattle.protocol.specs.declared.Refusal.TheVariants.{
  ShortDatagram,
  OtherConversation,
  LengthPastEnd,
  UnknownCommand,
  LongPayload,
  HighFragment,
  ShortPart,
  NoMessage,
  LongMessage,
  NoFreeSlots,
  SettingOutOfRange,
  InvalidBlock,
  TrailingBytes,
}
use Rattle.datagram.specs.Datagrams.{Segment, Parsed}
use Rattle.timing.specs.Choices.{either_way}
use Rattle.schedule.specs.Schedules.{updated}
use Rattle.session.specs.State.{State}
use Rattle.session.specs.Opening.{opened}
use Rattle.session.specs.Reading.{front_count, readable, joined_in, message_size, message, reading}
use Rattle.session.specs.Input.{Receiver}
use Rattle.session.specs.Calls.{Station, Call, Reply, own, messages_read}
use Rattle.session.specs.Decides.{All}
use Rattle.session.specs.AllLaws.{all_left}
use Rattle.delivery.specs.PlainReceiver.{Plain, at_first, Found, push_numbers, pushes_of, pushes_in, feed, plain_answer, leave, after_call}
use Rattle.delivery.specs.Hearing.{CallFits}
use Rattle.delivery.specs.Claims.{Seen, found, other, seen_refusal, seen}
use Rattle.delivery.specs.Stations.{Opened}
use Rattle.delivery.specs.Pieces.{pieces_of, Genuine, pushes, GenuineDatagram}
use Rattle.delivery.proofs.PlainLaws.{messages_found}
use Rattle.delivery.specs.ParsedLaws.{SegmentFits, parse_fits}
use Rattle.delivery.specs.ReceiverModel.{Listed, list_pushes, list_answer, list_leave}
use Rattle.delivery.proofs.Refinement.{listed_as, Fed, AllArrive, feed_as, answer_as, fed_leave, leave_as, fed_first, listed_first}
use Rattle.delivery.specs.ReceivePool.{
  waiting_held,
  received,
  listed_in,
  listed_by,
  HeldFits,
  Good,
  took_all,
  read_listed,
  answer_listed,
}
use Rattle.delivery.specs.ReceivingLaws.{
  ReceivingInOrder,
  receiver_of,
  good_in,
  receiver_takes,
  receiver_reads,
  receiver_after,
  own_receiver,
  receiving_stays,
  opened_receiving,
}

-- ---- a read's answer

-- what the lists give, by the entries
abbrev entries_give : ℕ → Receiver → ℕ → Found
entries_give m x room =
    cond (readable x.half.ready)
    (cond (leb (message_size x.half) room) (Found.message (joined_in m x.pool (take (front_count x.half.ready) x.half.ready)))
    Found.short)
    Found.nothing

entries_give_lem : (m : ℕ) (x : Receiver) (room : ℕ) → Good m x → list_answer (listed_by m x).ready room ≡ entries_give m x room
unfolding message_size
entries_give_lem m x room g =
    let s = g.settles.sound in
    answer_listed m x.pool room x.half.ready s.pool_long
    (all_left (HeldFits m) x.half.ready (map waiting_held x.half.waiting) s.held)

-- what a read of a station finds is what the lists that it stands for give
read_found : (s : Station) (room : ℕ) → Good (mss s.state.settings) (receiver_of s)
    → seen (own s (Call.read room)).answer ≡ found (list_answer (listed_by (mss s.state.settings) (receiver_of s)).ready room)
unfolding reading message
read_found s room g =
    go (readable s.state.receiving.ready) refl (leb (message_size s.state.receiving) room) refl
    ∙ ap found (sym (entries_give_lem (mss s.state.settings) (receiver_of s) room g))
  where
    go : (a : Bool) → readable s.state.receiving.ready ≡ a → (b : Bool) → leb (message_size s.state.receiving) room ≡ b
        → seen (own s (Call.read room)).answer ≡ found (entries_give (mss s.state.settings) (receiver_of s) room)
    go true e true f = rw (e, f)
    go true e false f = rw (e, f)
    go false e b f = rw e

-- and it leaves the lists as those leave them
reads_listed : (m : ℕ) (x : Receiver) (room : ℕ) → Good m x
    → listed_by m (receiver_reads x room) ≡ list_leave (listed_by m x) (list_answer (listed_by m x).ready room)
reads_listed m x room g =
    go (readable x.half.ready) refl (leb (message_size x.half) room) refl ∙ ap (list_leave (listed_by m x))
    (sym (entries_give_lem m x room g))
  where
    go : (a : Bool) → readable x.half.ready ≡ a → (b : Bool) → leb (message_size x.half) room ≡ b
        → listed_by m (receiver_reads x room) ≡ list_leave (listed_by m x) (entries_give m x room)
    go true e true f = rw (e, f) (read_listed m x)
    go true e false f = rw (e, f)
    go false e b f = rw e

-- ---- a datagram's pushes

-- a genuine push that was taken in arrives at the list receiver
all_arrive : (c : Settings) (accepted : List (List ℕ)) (gs : List Segment) → All (SegmentFits (mss c)) gs
    → All (Genuine (pieces_of (mss c) accepted)) (pushes gs)
    → AllArrive c accepted (pushes gs)
unfolding pushes
all_arrive c accepted [] f a = tt
all_arrive c accepted (g ∷ gs) f a = go (eqb g.header.cmd push) refl a (all_arrive c accepted gs f.1)
  where
    go : (b : Bool) → eqb g.header.cmd push ≡ b → All (Genuine (pieces_of (mss c) accepted)) (cond b (g ∷ pushes gs) (pushes gs))
        → (All (Genuine (pieces_of (mss c) accepted)) (pushes gs) → AllArrive c accepted (pushes gs))
        → AllArrive c accepted (cond b (g ∷ pushes gs) (pushes gs))
    go true e a rest = (
      record { its_piece = a.0.its_piece; fragment = f.0.push_fragment (eqb-true g.header.cmd push e); small = a.0.small },
      rest a.1,
    )
    go false e a rest = rest a

-- ---- a station beside the plain receiver

module _ (c : Settings) (accepted : List (List ℕ)) where
  -- the station stands for the lists that the plain receiver gives
  pub record Follows (s : Station) (p : Plain) : Type 0 where
    pub order : ReceivingInOrder c s
    pub listed : listed_by (mss c) (receiver_of s) ≡ listed_as c accepted p
    pub fed : Fed c accepted p

  -- after a call, where the lists and the plain receiver are as said
  follows_own : (s : Station) (p q : Plain) (x : Call) → CallFits x → Follows s p → Fed c accepted q
      → listed_by (mss c) (receiver_after c s.state.schedule (receiver_of s) x) ≡ listed_as c accepted q → Follows (own s x).station q
  follows_own s p q x fits f fed same =
      let k = s.state.schedule in
      let d : receiver_of (own s x).station ≡ receiver_after c k (receiver_of s) x =
      own_receiver s x ∙ ap (λ (y : Settings). receiver_after y k (receiver_of s) x) f.order.settings in
      record { order = receiving_stays c s x fits f.order; listed = ap (listed_by (mss c)) d ∙ same; fed = fed }

  -- the datagram of a call is genuine
  abbrev pub Genuinely : Call → Type 0
  Genuinely (Call.take_in d) = GenuineDatagram c (pieces_of (mss c) accepted) d
  Genuinely (Call.send m) = Unit {0}
  Genuinely (Call.flush t) = Unit {0}
  Genuinely (Call.update t) = Unit {0}
  Genuinely (Call.check t) = Unit {0}
  Genuinely (Call.read room) = Unit {0}

  follows_take : (s : Station) (p : Plain) (d : List ℕ) → CallFits (Call.take_in d) → GenuineDatagram c (pieces_of (mss c) accepted) d
      → Follows s p
      → Follows (own s (Call.take_in d)).station (after_call c accepted p (Call.take_in d))
  unfolding pushes_in
  follows_take s p d fits g f =
      let gs : List Segment = g.its_segments in
      let numbers : pushes_in c d ≡ push_numbers gs = ap pushes_of g.parses in
      let whole : All (SegmentFits (mss c)) gs = rw g.parses at (parse_fits c.conv (mss c) d fits) in
      let took = took_all (mss c) gs (receiver_of s) whole (good_in c s f.order) in
      let fed = feed_as c accepted gs p (all_arrive c accepted gs whole g.genuine) f.fed in
      follows_own s p (feed c accepted p (pushes_in c d)) (Call.take_in d) fits f
      (rw numbers fed.fed)
      (ap (λ (y : Parsed). listed_by (mss c) (receiver_takes (mss c) (receiver_of s) y)) g.parses
      ∙ took.listed
      ∙ ap (λ (y : Listed). list_pushes y (pushes gs)) f.listed
      ∙ fed.same
      ∙ ap (λ (ns : List ℕ). listed_as c accepted (feed c accepted p ns)) (sym numbers))

  module _ (some_bytes : 0 < mss c) where
    pub answer_follows : (s : Station) (p : Plain) (room : ℕ) → Follows s p
        → seen (own s (Call.read room)).answer ≡ found (plain_answer c accepted p room)
    answer_follows s p room f =
        read_found s room (rw f.order.settings (good_in c s f.order))
        ∙ ap (λ (k : Settings). found (list_answer (listed_by (mss k) (receiver_of s)).ready room)) f.order.settings
        ∙ ap (λ (y : Listed). found (list_answer y.ready room)) f.listed
        ∙ ap found (answer_as c accepted some_bytes p room f.fed)

    pub follows_call : (s : Station) (p : Plain) (x : Call) → CallFits x → Genuinely x → Follows s p
        → Follows (own s x).station (after_call c accepted p x)
    follows_call s p (Call.send m) fits g f = follows_own s p p (Call.send m) fits f f.fed f.listed
    follows_call s p (Call.take_in d) fits g f = follows_take s p d fits g f
    follows_call s p (Call.flush t) fits g f = follows_own s p p (Call.flush t) fits f f.fed f.listed
    follows_call s p (Call.update t) fits g f =
        follows_own s p p (Call.update t) fits f f.fed
        (either_way (λ (x : Receiver). listed_by (mss c) x ≡ listed_as c accepted p)
        (updated s.state.schedule t c.interval).flushes f.listed f.listed)
    follows_call s p (Call.check t) fits g f = follows_own s p p (Call.check t) fits f f.fed f.listed
    follows_call s p (Call.read room) fits g f =
        follows_own s p (leave c accepted p (plain_answer c accepted p room)) (Call.read room) fits f (fed_leave c accepted p room f.fed)
        (reads_listed (mss c) (receiver_of s) room (good_in c s f.order)
        ∙ ap (λ (y : Listed). list_leave y (list_answer y.ready room)) f.listed
        ∙ ap (list_leave (listed_as c accepted p)) (answer_as c accepted some_bytes p room f.fed)
        ∙ leave_as c accepted p room f.fed)

  pub follows_opened : (s : Station) → Opened c s → Follows s at_first
  unfolding opened
  follows_opened s o = record {
    order = opened_receiving c s o;
    listed = ap (λ (x : State). listed_in (mss c) s.receive_pool (received x.receiving)) o.state ∙ sym (listed_first c accepted);
    fed = fed_first c accepted;
  }

-- ---- the messages among the answers

-- no refusal is a message
abbrev message_in : Seen → List (List ℕ)
message_in (found Found.nothing) = []
message_in (found Found.short) = []
message_in (found (Found.message m)) = m ∷ []
message_in other = []

none_refused : (r : Refusal) → message_in (seen_refusal r) ≡ []
none_refused ShortDatagram = refl
none_refused OtherConversation = refl
none_refused LengthPastEnd = refl
none_refused UnknownCommand = refl
none_refused LongPayload = refl
none_refused HighFragment = refl
none_refused ShortPart = refl
none_refused NoMessage = refl
none_refused LongMessage = refl
none_refused NoFreeSlots = refl
none_refused SettingOutOfRange = refl
none_refused InvalidBlock = refl
none_refused TrailingBytes = refl

read_one : (a : Reply) (l : List Reply) → messages_read (a ∷ l) ≡ message_in (seen a) ++ messages_read l
unfolding messages_read
read_one (Reply.refused r) l = rw (none_refused r)
read_one Reply.accepted l = refl
read_one (Reply.wrote ds) l = refl
read_one (Reply.message m) l = refl
read_one Reply.waited l = refl
read_one (Reply.named t) l = refl

found_one : (f : Found) (l : List Found) → messages_found (f ∷ l) ≡ message_in (found f) ++ messages_found l
unfolding messages_found
found_one Found.nothing l = refl
found_one Found.short l = refl
found_one (Found.message m) l = refl

-- reads that answer as the plain receiver's bring its messages
pub same_messages : (l : List Reply) (fs : List Found) → map seen l ≡ map found fs → messages_read l ≡ messages_found fs
unfolding messages_read messages_found
same_messages [] [] e = refl
same_messages [] (f ∷ fs) e = absurd (nil≢cons e)
same_messages (a ∷ l) [] e = absurd (nil≢cons (sym e))
same_messages (a ∷ l) (f ∷ fs) e =
    read_one a l
    ∙ ap₂ (λ (x : Seen) (r : List (List ℕ)). message_in x ++ r) (head-eq_of_cons-eq e) (same_messages l fs (tail-eq_of_cons-eq e))
    ∙ sym (found_one f fs)
