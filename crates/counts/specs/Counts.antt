-- C gets counts as they are: whatever block and parts a call is given, the number that it answers is the count of its result, 0 of one that
-- counts nothing, or the refusal's number below zero; it is below zero exactly where the call is refused. The codes tell no number above
-- 2^31 - 1, nor a start above 2^32 - 1; no call comes near (crate `demands`, CountLaws).
-- Assumes nothing.
use Rattle.std.specs.Prelude.{◌≡◌, refl, Bool, true, false, List, ℕ, ◌≤◌, ℤ, pos, length, Err, Ok}
use Rattle.std.proofs.Common.{ap, ◌∙◌, subst, arith, le-ltb}
use Rattle.std.specs.Int.Signed.{lt_z}
use Rattle.protocol.specs.Protocol.{lengths_least}
use Rattle.protocol.specs.declared.Settings.{Settings}
use Rattle.protocol.specs.declared.Refusal.{Refusal}
use Rattle.protocol.specs.declared.Refusal.TheVariants as refusal
use Rattle.session.specs.State.{Outcome, refused, done}
use Rattle.session.specs.Flushing.{Flushed}
use Rattle.session.specs.Reading.{Reads, Part}
use Rattle.control.specs.declared.Link.{Link}
use Rattle.promises.specs.Parts.{Parts, FlushParts}
use Rattle.promises.specs.Outcomes.{opens, sends, takes_in, flushes, reads, tells, shows}
use Rattle.promises.specs.Answers.{Accepts, Counts, count_outcome}
use Rattle.promises.specs.Promises.{OpenPromise, SendPromise, InputPromise, FlushPromise, ReadPromise, SizePromise}
use Rattle.read_core.specs.declared.Place.{Place}
use Rattle.promises.specs.Promises.{place_of}
use Rattle.codes.specs.Codes.{refusal_code, answer_code, size_code, count_code}
use Rattle.codes.specs.Gives.{Gives}
use Rattle.results.specs.PlaceCodes.{place_code}
use Rattle.demands.specs.CountLaws.{OfResult, MessageFits, PlaceFits}
use Rattle.demands.proofs.CountLaws.{flushes_few, reads_fit, tells_fit, shows_fit}
use Rattle.results.specs.Places.{PlacePromise}
use Rattle.answers.specs.Answers.{Answer, Count}

-- the very count of the result, or the refusal's number below zero
abbrev pub Told : {A : Type 0} → (A → ℕ) → Outcome A → ℤ → Type 0
Told size (refused x) r = r ≡ refusal_code x
Told size (done x) r = r ≡ pos (size x)

-- a call that counts nothing is told by 0
abbrev pub nothing : {A : Type 0} → A → ℕ
nothing x = 0

abbrev pub is_refused : {A : Type 0} → Outcome A → Bool
is_refused (refused x) = true
is_refused (done x) = false

-- the very count and start of a part
pub record PlaceTold (x : Part) (r : ℤ) (stored : ℕ) : Type 0 where
  pub count : r ≡ pos x.count
  pub start : stored ≡ x.start

-- ---- numbers that are told as they are

abbrev Small : ℕ → Type 0
Small n = n ≤ 2147483647

small_code : (n : ℕ) → Small n → size_code n ≡ pos n
small_code n h = ap pos (omega arith)

-- an answer's code, by the outcome that it answers
code_told : {A : Type 0} (size : A → ℕ) (P : A → Type 0)
    → ((x : A) → P x → Small (size x))
    → (o : Outcome A) → OfResult P o
    → (a : Count) → Counts size a o
    → Told size o (count_code a)
code_told size P small (refused x) h a e = ap count_code e
code_told size P small (done x) h a e = ap count_code e ∙ small_code (size x) (small x h)

message_small : (c : Settings) (n : ℕ) → MessageFits c n → Small n
message_small c n h = omega (arith, h.bytes, h.payload)

place_small : (c : Settings) (o : Outcome Part) → OfResult (PlaceFits c) o → Small (place_of o).count × Small (place_of o).start
unfolding place_of
place_small c (refused x) h = (omega arith, omega arith)
place_small c (done x) h = (omega (arith, h.count, h.payload), omega (arith, h.within, h.payload))

-- a count answers itself
counts_itself : (a : Count) → Counts (λ (n : ℕ). n) a (count_outcome a)
counts_itself (Ok n) = refl
counts_itself (Err x) = refl

-- ---- below zero exactly where the call is refused

refusal_below : (x : Refusal) → lt_z (refusal_code x) (pos 0) ≡ true
refusal_below refusal.ShortDatagram = refl
refusal_below refusal.OtherConversation = refl
refusal_below refusal.LengthPastEnd = refl
refusal_below refusal.UnknownCommand = refl
refusal_below refusal.LongPayload = refl
refusal_below refusal.HighFragment = refl
refusal_below refusal.ShortPart = refl
refusal_below refusal.NoMessage = refl
refusal_below refusal.LongMessage = refl
refusal_below refusal.NoFreeSlots = refl
refusal_below refusal.SettingOutOfRange = refl
refusal_below refusal.InvalidBlock = refl
refusal_below refusal.TrailingBytes = refl

pub told_below : {A : Type 0} (size : A → ℕ) (o : Outcome A) (r : ℤ) → Told size o r → lt_z r (pos 0) ≡ is_refused o
told_below size (refused x) r h = rw h (refusal_below x)
told_below size (done x) r h = rw h (le-ltb (size x) 0 (omega arith))

-- ---- the calls that are accepted or refused

-- an answer's code, by the outcome that it answers
accept_told : {A : Type 0} (o : Outcome A) (a : Answer) → Accepts a o → Told nothing o (answer_code a)
accept_told (refused x) a e = ap answer_code e
accept_told (done x) a e = ap answer_code e

module _ (l : Link) (p : Parts) (r : ℤ) (l' : Link) (p' : Parts) where
  pub open_told : (c : Settings) → Gives answer_code (λ (a : Answer). OpenPromise c l p a l' p') r → Told nothing (opens c p) r
  open_told c g = rw g.number (accept_told (opens c p) g.answer g.promise.answer)

  pub send_told : (message : List ℕ) → Gives answer_code (λ (a : Answer). SendPromise message l p a l' p') r
      → Told nothing (sends l p message) r
  send_told message g = rw g.number (accept_told (sends l p message) g.answer g.promise.answer)

  pub input_told : (datagram : List ℕ) → Gives answer_code (λ (a : Answer). InputPromise datagram l p a l' p') r
      → Told nothing (takes_in l p datagram) r
  input_told datagram g = rw g.number (accept_told (takes_in l p datagram) g.answer g.promise.answer)

-- ---- the calls that count

module _ (l : Link) (p : Parts) (r : ℤ) where
  -- a flush gives the number of its datagrams
  pub flush_told : (t : ℕ) (f : FlushParts) (l' : Link) (p' : Parts) (f' : FlushParts)
      → Gives count_code (λ (a : Count). FlushPromise t l p f a l' p' f') r
      → Told (λ (x : Flushed). length x.datagrams) (flushes l p f t) r
  flush_told t f l' p' f' g =
      rw g.number
      (code_told (λ (x : Flushed). length x.datagrams) (λ (x : Flushed). length x.datagrams ≤ lengths_least) (λ x h. omega arith)
      (flushes l p f t)
      (flushes_few l p f t)
      g.answer
      g.promise.answer)

  -- a read gives the length of the message
  pub read_told : (buffer : List ℕ) (l' : Link) (p' : Parts) (buffer' : List ℕ)
      → Gives count_code (λ (a : Count). ReadPromise l p buffer a l' p' buffer') r
      → Told (λ (x : Reads). length x.bytes) (reads l p (length buffer)) r
  read_told buffer l' p' buffer' g =
      rw g.number
      (code_told (λ (x : Reads). length x.bytes) (λ (x : Reads). MessageFits l.settings (length x.bytes))
      (λ x. message_small l.settings (length x.bytes))
      (reads l p (length buffer))
      (reads_fit l p (length buffer))
      g.answer
      g.promise.answer)

  -- telling the size gives the length of the next message
  pub size_told : Gives count_code (λ (a : Count). SizePromise l p a) r → Told (λ (n : ℕ). n) (tells l p) r
  size_told g =
      rw g.number
      (code_told (λ (n : ℕ). n) (MessageFits l.settings) (message_small l.settings) (tells l p) (tells_fit l p) g.answer
      (subst (Counts (λ (n : ℕ). n) g.answer) g.promise.answer (counts_itself g.answer)))

  -- showing gives the length of the payload, and stores where it starts; 0 and 0 where it is refused
  pub show_told : (stored : ℕ) → Gives place_code (λ (a : Place). PlacePromise l p a stored) r → PlaceTold (place_of (shows l p)) r stored
  show_told stored g =
      let small = place_small l.settings (shows l p) (shows_fit l p) in
      let place = g.promise.place in
      record {
        count = g.number ∙ ap size_code place.count ∙ small_code (place_of (shows l p)).count small.0;
        start = g.promise.start ∙ omega (arith, place.start, small.1);
      }
