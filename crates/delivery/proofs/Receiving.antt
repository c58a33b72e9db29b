-- Demand 3's receiving half: a station that is fed with genuine datagrams answers its reads as the plain receiver, and of two that
-- hear the same, the one that hears more loses none of the other's messages.
-- Assumes nothing.
use Rattle.std.specs.Prelude.{◌≡◌, ◌↔◌, true, ℕ, ◌<◌}
use Rattle.std.proofs.Math.Path.{refl, ap}
use Rattle.std.proofs.Common.{sym, ap₂, ◌∙◌}
use mathlib.Core.List.{List, [], ◌∷◌, map}
use Rattle.protocol.specs.Ranges.{mss}
use Rattle.protocol.specs.declared.Settings.{Settings}
use Rattle.sizes.specs.Sizes.{enough}
use Rattle.sizes.specs.declared.Lengths.{Lengths}
use Rattle.session.specs.Valid.{valid}
use Rattle.session.specs.Calls.{Station, Call, Reply, Event, Stepped, lengths_of, long_enough, own, step, history, after, read_answers, messages_read}
use Rattle.session.specs.Decides.{All}
use Rattle.delivery.specs.PlainReceiver.{Plain, at_first, Found, plain_answer, after_call, plain_after, plain_answers}
use Rattle.delivery.specs.Hearing.{Taken, CallFits, HearsMore}
use Rattle.delivery.specs.Claims.{found, seen, Missing, Receives, Delivered}
use Rattle.delivery.specs.Stations.{observed}
use Rattle.delivery.specs.Passing.{Passing, step_own}
use Rattle.delivery.specs.PassingLaws.{history_first, after_first}
use Rattle.delivery.specs.Pieces.{pieces_of}
use Rattle.delivery.proofs.PlainLaws.{plain_messages, plain_more, plain_begins, nothing_unheard, unheard_nothing}
use Rattle.delivery.proofs.FedLaws.{missing_unheard, unheard_missing}
use Rattle.delivery.specs.ReceiverModel.{Listed}
use Rattle.delivery.specs.ReceivingLaws.{flush_enough, after_lengths}
use Rattle.delivery.proofs.ReceivingSteps.{Follows, Genuinely, answer_follows, follows_call, follows_opened, same_messages}
use Rattle.delivery.specs.Receiving.{FedGenuine, FedReceiver, some_payload}

-- ---- lists of calls

module _ (c : Settings) (accepted : List (List ℕ)) (some_bytes : 0 < mss c) where
  head_genuine : (x : Call) (xs : List Call) → FedGenuine c (pieces_of (mss c) accepted) (x ∷ xs)
      → Genuinely c accepted x × FedGenuine c (pieces_of (mss c) accepted) xs
  head_genuine (Call.take_in d) xs g = g
  head_genuine (Call.send m) xs g = (tt, g)
  head_genuine (Call.flush t) xs g = (tt, g)
  head_genuine (Call.update t) xs g = (tt, g)
  head_genuine (Call.check t) xs g = (tt, g)
  head_genuine (Call.read room) xs g = (tt, g)

  follows_all : (xs : List Call) (s : Station) (p : Plain) → All CallFits xs → Passing s xs → FedGenuine c (pieces_of (mss c) accepted) xs
      → Follows c accepted s p
      → Follows c accepted (after s xs) (plain_after c accepted p xs)
  unfolding after plain_after
  follows_all [] s p fits pass g f = f
  follows_all (x ∷ xs) s p fits pass g f =
      let h = head_genuine x xs g in
      rw (after_first s x xs pass)
      (follows_all xs (own s x).station (after_call c accepted p x) fits.1 pass.2 h.1
      (follows_call c accepted some_bytes s p x fits.0 h.0 f))

  answers_all : (xs : List Call) (s : Station) (p : Plain) → All CallFits xs → Passing s xs → FedGenuine c (pieces_of (mss c) accepted) xs
      → Follows c accepted s p
      → map seen (read_answers (history s xs)) ≡ map found (plain_answers c accepted p xs)
  unfolding history plain_answers
  answers_all [] s p fits pass g f = refl
  answers_all (x ∷ xs) s p fits pass g f =
      let h = head_genuine x xs g in
      ap (λ (l : List Event). map seen (read_answers l)) (history_first s x xs pass)
      ∙ one x f (answers_all xs (own s x).station (after_call c accepted p x) fits.1 pass.2 h.1
      (follows_call c accepted some_bytes s p x fits.0 h.0 f))
    where
      one : (x : Call) → Follows c accepted s p
          → map seen (read_answers (history (own s x).station xs)) ≡ map found (plain_answers c accepted (after_call c accepted p x) xs)
          → map seen (read_answers (record { call = x; answer = (own s x).answer } ∷ history (own s x).station xs)) ≡ map found
          (plain_answers c accepted p (x ∷ xs))
      one (Call.send m) f rest = rest
      one (Call.take_in d) f rest = rest
      one (Call.flush t) f rest = rest
      one (Call.update t) f rest = rest
      one (Call.check t) f rest = rest
      one (Call.read room) f rest = rw (answer_follows c accepted some_bytes s p room f, rest)

module _ (c : Settings) (taken : Taken c) (accepted : List (List ℕ)) where
  some_bytes : 0 < mss c
  some_bytes = some_payload c taken.range

  module _ (s : Station) (calls : List Call) (r : FedReceiver c accepted s calls) where
    follows : Follows c accepted (after s calls) (plain_after c accepted at_first calls)
    follows = follows_all c accepted some_bytes calls s at_first r.fits r.passes r.fed (follows_opened c accepted s r.opens)

    same_answers : map seen (read_answers (history s calls)) ≡ map found (plain_answers c accepted at_first calls)
    same_answers = answers_all c accepted some_bytes calls s at_first r.fits r.passes r.fed (follows_opened c accepted s r.opens)

    -- its messages are the plain receiver's
    pub messages_as : messages_read (read_answers (history s calls)) ≡ plain_messages c accepted calls
    messages_as = same_messages (read_answers (history s calls)) (plain_answers c accepted at_first calls) same_answers

    -- the read that comes next answers as the plain receiver's
    pub next_answer : valid (after s calls).state ≡ true → (room : ℕ)
        → seen (step (after s calls) (Call.read room)).answer ≡ found (plain_answer c accepted (plain_after c accepted at_first calls) room)
    next_answer v room =
        let long : long_enough (after s calls) (Call.read room) ≡ true =
        ap₂ (λ (a : Settings) (n : Lengths). enough (mss a) n) follows.order.settings (after_lengths calls s r.passes) ∙ flush_enough
        (mss c) (lengths_of s) s.lent.output s.lent.lengths r.opens.long in
        ap (λ (x : Stepped). seen x.answer) (step_own (after s calls) (Call.read room) long v)
        ∙ answer_follows c accepted some_bytes (after s calls) (plain_after c accepted at_first calls) room follows

    -- it finds nothing exactly when a message or a segment of it is missing
    next_nothing : valid (after s calls).state ≡ true → (room : ℕ) (a : Reply) → (step (after s calls) (Call.read room)).answer ≡ a
        → (seen a ≡ found Found.nothing) ↔ Missing c accepted calls
    next_nothing v room a e =
        let p : Plain = plain_after c accepted at_first calls in
        let q : seen a ≡ found (plain_answer c accepted p room) = ap seen (sym e) ∙ next_answer v room in (
          (λ h. let n : found (plain_answer c accepted p room) ≡ found Found.nothing = sym q ∙ h in
              unheard_missing c accepted calls (nothing_unheard c accepted p room (cc))),
          (λ m. q ∙ ap found (unheard_nothing c accepted p room (missing_unheard c accepted calls m))),
        )

    -- EACH READ ANSWERS AS THE PLAIN RECEIVER'S
    pub receives : valid (after s calls).state ≡ true → Receives c accepted (observed s calls)
    receives v = record {
      answers = same_answers;
      begins = rw messages_as (plain_begins c accepted calls);
      nothing = next_nothing v;
      next_expected_lem = ap (λ (x : Listed). x.next) follows.listed;
    }

  -- HEARING MORE NEVER LOSES A MESSAGE
  pub delivered_by_receivers : (first second : Station) (firsts seconds : List Call) → FedReceiver c accepted first firsts
      → FedReceiver c accepted second seconds
      → valid (after first firsts).state ≡ true → valid (after second seconds).state ≡ true → HearsMore firsts seconds
      → Delivered c accepted (observed first firsts) (observed second seconds)
  delivered_by_receivers first second firsts seconds a b v w h = record {
    first_receives = receives first firsts a v;
    second_receives = receives second seconds b w;
    none_lost = rw (messages_as first firsts a, messages_as second seconds b) (plain_more c accepted h);
  }
