-- How much a call can count, from its promise alone: the datagrams of a flush, the bytes of a message, the place of a segment in the
-- receive pool; and how many segments are ready where no message can be read.
-- It holds of every block and all lent parts: a count is given only of a block that passed 13.
-- Assumes nothing.
use Rattle.std.proofs.Math.Path.{◌≡◌, refl}
use Rattle.std.proofs.Common.{sym, ◌∙◌, subst, zero-le, Err, Ok, Some}
use Rattle.std.specs.Prelude.{Bool, List, [], ◌∷◌, ℕ, zero, suc, ◌*◌, ◌≤◌, ◌<◌, leb, take}
use Rattle.std.proofs.Math.Bool.{true, false, cond}
use Rattle.std.proofs.Math.Nat.{mul-le-mul_right}
use native.Mathlib.Omega.{arith}
use Rattle.std.proofs.Math.ListN.{length, length-map}
use Rattle.std.proofs.Math.Seq.{length-take-le}
use Rattle.protocol.specs.Protocol.{fragment_most, fragments_most, receive_slots, receive_window, lengths_least}
use Rattle.protocol.specs.Ranges.{mss}
use Rattle.protocol.specs.declared.Refusal.TheVariants.{ShortPart, NoMessage}
use Rattle.sizes.specs.Sizes.{enough, enough_to_flush}
use Rattle.lists.specs.declared.Held.{Held}
use Rattle.session.specs.State.{State, Outcome, refused, done, with_receiving, with_schedule}
use Rattle.session.specs.Valid.{valid}
use Rattle.session.specs.Flushing.{Flushed}
use Rattle.session.specs.Reading.{Reads, readable, front_count, front_part, length_of, message_size, message, after_read, reading, telling, showing}
use Rattle.session.specs.Updating.{Updates}
use Rattle.session.specs.Decides.{All, and_parts}
use Rattle.session.specs.AllLaws.{all_left}
use Rattle.session.specs.IsValid.{IsValid}
use Rattle.session.proofs.ValidDecides.{valid_decides}
use Rattle.session.proofs.ReadyLaws.{ready_below_window}
use Rattle.words.specs.Words.{unpack, held_in}
use Rattle.control.specs.declared.Link.{Link}
use Rattle.control.specs.Views.{arrays_of, Whole, state_of, counts_fit, block_valid}
use Rattle.control.specs.ViewLaws.{counts}
use Rattle.promises.specs.Parts.{Parts, FlushParts, lengths_of, state_in, is_made}
use Rattle.promises.specs.Outcomes.{checked, flushes_with, updates_with, reads_with, tells_with, shows_with, flushes, updates, reads, tells, shows}
use Rattle.promises.specs.Answers.{Counts, count_outcome, update_answer}
use Rattle.promises.specs.Promises.{FlushPromise, UpdatePromise, ReadPromise, SizePromise}
use Rattle.delivery.specs.FlushLaws.{flush_few}
use Rattle.delivery.specs.CallCases.{valid_rescheduled, updating_cases}
use Rattle.demands.specs.OutputLaws.{message_short}
use Rattle.demands.specs.CountLaws.{OfResult, MessageFits, PlaceFits, FewDatagrams}
use Rattle.answers.specs.Answers.{Count}

-- a result is given only of a block that passed 13
made_result : {A : Type 0} (P : A → Type 0) (long made : Bool) (own : Outcome A) → (made ≡ true → OfResult P own)
    → OfResult P (checked long made own)
made_result P false made own h = tt
made_result P true false own h = tt
made_result P true true own h = h refl

made_valid : (l : Link) (p : Parts) → is_made l p ≡ true → valid (state_in l p) ≡ true
unfolding block_valid
made_valid l p h = (and_parts (counts_fit l) (valid (state_in l p)) h).1

pub is_valid : (l : Link) (p : Parts) → is_made l p ≡ true → IsValid (state_in l p)
is_valid l p h = (valid_decides (state_in l p)).holds (made_valid l p h)

lengths_most : (m k : ℕ) (l : List Held) → All (λ (h : Held). h.len ≤ m) l → length_of (take k l) ≤ k * m
unfolding length_of
lengths_most m zero l a = zero-le
lengths_most m (suc k) [] a = zero-le
lengths_most m (suc k) (h ∷ l) a = omega (arith, a.0, lengths_most m k l a.1)

front_few : (l : List Held) → All (λ (h : Held). h.fragment ≤ fragment_most) l → front_count l ≤ fragments_most
front_few [] a = zero-le
front_few (h ∷ l) a = omega (arith, a.0)

module _ (s : State) (v : IsValid s) where
  abbrev ready : List Held
  ready = s.receiving.ready

  -- what the ready segments keep
  pub short : All (λ (h : Held). h.len ≤ mss s.settings) s.receiving.ready
  short = all_left (λ (h : Held). h.len ≤ mss s.settings) ready _ v.receiving.lengths

  fragments : All (λ (h : Held). h.fragment ≤ fragment_most) s.receiving.ready
  fragments = all_left (λ (h : Held). h.fragment ≤ fragment_most) ready _ v.receiving.fragments

  pub low : All (λ (h : Held). h.slot < receive_slots) s.receiving.ready
  low = all_left (λ (h : Held). h.slot < receive_slots) ready _ v.receiving.slots_below

  message_fits : (n : ℕ) → n ≤ message_size s.receiving → MessageFits s.settings n
  unfolding message_size
  message_fits n h = record {
    bytes = omega (
      arith,
      lengths_most (mss s.settings) (front_count ready) ready short,
      mul-le-mul_right (mss s.settings) (front_few ready fragments),
    );
    payload = omega (arith, v.settings.mtu_most_lem);
  }

  reading_fits : (pool : List ℕ) (room : ℕ) → OfResult (λ (x : Reads). MessageFits s.settings (length x.bytes)) (reading s pool room)
  unfolding reading
  reading_fits pool room = go (readable ready) (leb (message_size s.receiving) room)
    where
      go : (a b : Bool)
          → OfResult (λ (x : Reads). MessageFits s.settings (length x.bytes))
          (cond a
          (cond b (done (record { state = with_receiving s (after_read s.receiving); bytes = message s pool })) (refused ShortPart))
          (refused NoMessage))
      go true true = message_fits (length (message s pool)) (message_short s pool)
      go true false = tt
      go false b = tt

  telling_fits : OfResult (MessageFits s.settings) (telling s)
  unfolding telling
  telling_fits = go (readable ready)
    where
      go : (a : Bool) → OfResult (MessageFits s.settings) (cond a (done (message_size s.receiving)) (refused NoMessage))
      go true = message_fits (message_size s.receiving) (omega arith)
      go false = tt

showing_fits : (s : State) → IsValid s → OfResult (PlaceFits s.settings) (showing s)
unfolding showing
showing_fits s v = go (readable s.receiving.ready)
  where
    m : ℕ
    m = mss s.settings

    fits : (l : List Held) → All (λ (h : Held). h.len ≤ m) l → All (λ (h : Held). h.slot < receive_slots) l
        → PlaceFits s.settings (front_part m l)
    fits [] a b = record { count = zero-le; within = zero-le; payload = omega (arith, v.settings.mtu_most_lem) }
    fits (h ∷ l) a b = record {
      count = a.0;
      within = omega (arith, a.0, mul-le-mul_right m b.0);
      payload = omega (arith, v.settings.mtu_most_lem);
    }

    go : (b : Bool) → OfResult (PlaceFits s.settings) (cond b (done (front_part m s.receiving.ready)) (refused NoMessage))
    go true = fits s.receiving.ready (short s v) (low s v)
    go false = tt

-- so many are answered
few_answered : (n : ℕ) (o : Outcome Updates) → Ok (Some n) ≡ update_answer o → OfResult FewDatagrams o → n ≤ lengths_least
few_answered n (refused r) e h = absurd (let z : ◌≡◌ {A = ℕ} 0 1 = cc in omega arith)
few_answered n (done (Updates.waits s)) e h = absurd (let z : ◌≡◌ {A = ℕ} 0 1 = cc in omega arith)
few_answered n (done (Updates.flushes x)) e h = let same : n ≡ length x.datagrams = cc in omega arith

-- ---- what each call gives

module _ (l : Link) (p : Parts) where
  pub flushes_few : (f : FlushParts) (t : ℕ) → OfResult (λ (x : Flushed). length x.datagrams ≤ lengths_least) (flushes l p f t)
  unfolding flushes_with
  flushes_few f t =
      made_result _ (enough_to_flush (mss l.settings) (lengths_of p) (length f.output) (length f.lengths)) (is_made l p) _
      (λ h. flush_few (state_in l p) t p.send_pool (made_valid l p h))

  pub updates_few : (f : FlushParts) (t : ℕ) → OfResult FewDatagrams (updates l p f t)
  unfolding updates_with
  updates_few f t =
      made_result FewDatagrams (enough_to_flush (mss l.settings) (lengths_of p) (length f.output) (length f.lengths)) (is_made l p) _
      (λ h.
      updating_cases FewDatagrams (state_in l p) t p.send_pool
      (flush_few (with_schedule (state_in l p) _) t p.send_pool (valid_rescheduled (state_in l p) _ ∙ made_valid l p h)) tt)

  pub reads_fit : (room : ℕ) → OfResult (λ (x : Reads). MessageFits l.settings (length x.bytes)) (reads l p room)
  unfolding reads_with state_of
  reads_fit room = made_result _ (enough (mss l.settings) (lengths_of p)) (is_made l p) _
      (λ h. reading_fits (state_in l p) (is_valid l p h) p.receive_pool room)

  pub tells_fit : OfResult (MessageFits l.settings) (tells l p)
  unfolding tells_with state_of
  tells_fit = made_result _ (enough (mss l.settings) (lengths_of p)) (is_made l p) _ (λ h. telling_fits (state_in l p) (is_valid l p h))

  pub shows_fit : OfResult (PlaceFits l.settings) (shows l p)
  unfolding shows_with state_of
  shows_fit = made_result _ (enough (mss l.settings) (lengths_of p)) (is_made l p) _ (λ h. showing_fits (state_in l p) (is_valid l p h))

-- ---- what each call promises

-- a count that is answered is that of the result
count_given : {A : Type 0} (P : ℕ → Type 0) (size : A → ℕ) (a : Count) (o : Outcome A)
    → Counts size a o → OfResult (λ (x : A). P (size x)) o → OfResult P (count_outcome a)
count_given P size a (refused r) e h = rw e tt
count_given P size a (done x) e h = rw e h

module _ {l : Link} {p : Parts} {n : ℕ} where
  -- a flush that answers n wrote at most 290 datagrams
  pub flush_counts : {t : ℕ} {f : FlushParts} {l' : Link} {p' : Parts} {f' : FlushParts}
      → FlushPromise t l p f (Ok n) l' p' f'
      → n ≤ lengths_least
  flush_counts {t} {f} h =
      count_given (λ (n : ℕ). n ≤ lengths_least) (λ (x : Flushed). length x.datagrams) (Ok n) (flushes l p f t) h.answer
      (flushes_few l p f t)

  -- so did an update
  pub update_counts : {t : ℕ} {f : FlushParts} {l' : Link} {p' : Parts} {f' : FlushParts}
      → UpdatePromise t l p f (Ok (Some n)) l' p' f'
      → n ≤ lengths_least
  update_counts {t} {f} h =
      few_answered n (updates l p f t) h.answer (updates_few l p f t)

  -- a message that is read, or whose size is told, has at most 127 segments
  pub read_counts : {buffer : List ℕ} {l' : Link} {p' : Parts} {buffer' : List ℕ} → ReadPromise l p buffer (Ok n) l' p' buffer'
      → MessageFits l.settings n
  read_counts {buffer} h =
      count_given (MessageFits l.settings) (λ (x : Reads). length x.bytes) (Ok n) (reads l p (length buffer)) h.answer
      (reads_fit l p (length buffer))

  pub size_counts : SizePromise l p (Ok n) → MessageFits l.settings n
  size_counts h = subst (OfResult (MessageFits l.settings)) (sym h.answer) (tells_fit l p)

-- ---- segments ready where no message can be read, of a block whose arrays are as long as their types say

module _ (l : Link) (p : Parts) (whole : Whole (arrays_of l)) where
  -- on a block that passes 13: fewer than 128
  pub block_below_window : is_made l p ≡ true → readable (state_in l p).receiving.ready ≡ false → l.arrival.ready < receive_window
  unfolding state_of block_valid counts_fit
  block_below_window made e =
      let c = counts l.flight l.arrival (and_parts _ _ made).0 in
      let n : length (held_in l.ready l.arrival.ready) ≡ l.arrival.ready =
      length-map (take l.arrival.ready l.ready) unpack
      ∙ length-take-le l.arrival.ready l.ready (omega (arith, c.ready, whole.whole_ready)) in
      omega (arith, n, ready_below_window (state_in l p) (is_valid l p made) e)

  -- where the size of the next message is refused with 9, the block passes 13, and that holds of it
  pub nine_below_window : SizePromise l p (Err NoMessage) → (is_made l p ≡ true) × (l.arrival.ready < receive_window)
  unfolding tells_with telling state_of
  nine_below_window h = go (enough (mss l.settings) (lengths_of p)) (is_made l p) refl h.answer
    where
      unread : (o : Bool) → refused NoMessage ≡ cond o (done (message_size (state_in l p).receiving)) (refused NoMessage) → o ≡ false
      unread true t = absurd (let z : ◌≡◌ {A = ℕ} 0 1 = cc in omega arith)
      unread false t = refl

      go : (long made : Bool) → is_made l p ≡ made → refused NoMessage ≡ checked long made (telling (state_in l p))
          → (is_made l p ≡ true) × (l.arrival.ready < receive_window)
      go false made e t = absurd (let z : ◌≡◌ {A = ℕ} 0 1 = cc in omega arith)
      go true false e t = absurd (let z : ◌≡◌ {A = ℕ} 0 1 = cc in omega arith)
      go true true e t = (e, block_below_window e (unread (readable (state_in l p).receiving.ready) t))
