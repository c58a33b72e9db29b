-- The ledger of document 01 holds over any calls since opening, whatever bytes are taken in.
-- Assumes nothing.
use Rattle.std.specs.Prelude.{◌≡◌, refl, Bool, cond, ◌&&◌}
use Rattle.std.proofs.Common.{◌∙◌, subst, true≢false, length-append}
use Rattle.std.proofs.Math.Path.{ap}
use Rattle.std.proofs.Math.Bool.{true, false, not}
use mathlib.Core.List.{List, [], ◌∷◌, ◌++◌, map}
use Prim.Native.Nat.{ℕ, suc, ◌+◌, ◌<◌}
use native.Mathlib.Omega.{arith}
use Rattle.std.proofs.Math.ListN.{length}
use Rattle.std.proofs.lemmas.List.{length-map}
use Rattle.protocol.specs.Protocol.{send_slots}
use Rattle.protocol.specs.Ranges.{in_range, mss, is_stream}
use Rattle.protocol.specs.Serial.{is_before}
use Rattle.protocol.specs.declared.Settings.{Settings}
use Rattle.protocol.specs.declared.Refusal.{Refusal}
use Rattle.datagram.specs.Datagrams.{Segment}
use Rattle.lists.specs.declared.Held.{Held}
use Rattle.lists.specs.declared.Sent.{Sent}
use Rattle.lists.specs.Acknowledging.{select, skip_before}
use Rattle.session.specs.UsedSlots.{used_all}
use Rattle.session.specs.State.{State, Sending, send_held, slots, with_queue, with_outstanding}
use Rattle.session.specs.Opening.{opened}
use Rattle.session.specs.Cutting.{fragment_count, segment_count}
use Rattle.session.specs.Sending.{filled}
use Rattle.session.specs.FillLaws.{filled_queue}
use Rattle.session.specs.HeardLaws.{heard_outstanding, heard_queued}
use Rattle.session.specs.Input.{acknowledges, heard_by_sending, all_by_sending, furthest, skipped, skipped_by_all, ack_numbers, applied}
use Rattle.session.specs.Flushing.{window_of, numbered_count, flushing}
use Rattle.session.specs.Calls.{Station, Call, Reply, Stepped, Event, own, history, after, accepted_by, accepted_list}
use Rattle.session.specs.Decides.{All}
use Rattle.session.specs.AllLaws.{all_mapped}
use Rattle.delivery.specs.PlainReceiver.{segments_of}
use Rattle.delivery.specs.Hearing.{Taken, CallFits}
use Rattle.delivery.specs.Stations.{Opened}
use Rattle.delivery.specs.Passing.{Passing, step_own}
use Rattle.delivery.specs.PassingLaws.{history_first, after_first}
use Rattle.session.specs.MapLaws.{map_unchanged}
use Rattle.delivery.specs.CallCases.{filling, cutting, placing, own_cases}
use Rattle.delivery.specs.SendPool.{length_cut_as, place_count}
use Rattle.delivery.specs.SendingHalf.{Half}
use Rattle.delivery.specs.SendingTakesIn.{skip_held}
use Rattle.delivery.specs.SendingFlushes.{flushed_with, flushed_held, window_most, count_few, count_room}
use Rattle.delivery.specs.SendingStays.{SendingInOrder, own_settings, half_in, sending_stays, sending_always, opened_in_order}
use Rattle.delivery.specs.Ledger.{
  used_slots,
  fragments_by,
  station_accepted,
  acknowledged_by_each,
  acknowledged_by,
  station_acknowledged,
  Ledger,
}

-- ---- slots are held once, so there are as many as segments

pub used_held : (c : Settings) (s : Sending) → Half c s → used_slots s ≡ length (send_held s)
unfolding used_slots
used_held c s h =
    used_all send_slots (slots (send_held s)) h.held.distinct
    (all_mapped (λ (n : ℕ). n < send_slots) (λ (x : Held). x.slot) (send_held s) h.held.low)
    ∙ length-map (send_held s) (λ (x : Held). x.slot)

-- ---- an arriving segment removes what it acknowledges

module _ {A : Type 0} where
  select_count : (f : A → Bool) (l : List A) → length (select (λ (x : A). not (f x)) l) + length (select f l) ≡ length l
  unfolding select
  select_count f [] = omega arith
  select_count f (x ∷ l) = go (f x) (select_count f l)
    where
      go : (b : Bool) → length (select (λ (x : A). not (f x)) l) + length (select f l) ≡ length l →
          length (cond (not b) (x ∷ select (λ (x : A). not (f x)) l) (select (λ (x : A). not (f x)) l))
          + length (cond b (x ∷ select f l) (select f l)) ≡ suc (length l)
      go true i = omega arith
      go false i = omega arith

-- ---- how many segments are held

abbrev held : Sending → ℕ
held s = length (send_held s)

held_parts : (s : Sending) → held s ≡ length s.outstanding + length s.queued
held_parts s = simp (length-append, length-map)

module _ (c : Settings) (current : ℕ) where
  each_held : (s : Sending) (gs : List Segment) → held (all_by_sending c current s gs) + acknowledged_by_each c current s gs ≡ held s
  unfolding all_by_sending acknowledged_by_each
  each_held s [] = omega arith
  each_held s (g ∷ gs) =
      let s' : Sending = heard_by_sending c current s g.header in
      omega (
        arith,
        each_held s' gs,
        held_parts s,
        held_parts s',
        ap length (heard_outstanding c current s g.header),
        ap length (heard_queued c current s g.header),
        select_count (λ (x : Sent). acknowledges s.next g.header x.record.number) s.outstanding,
      )

skipped_held : (s : Sending) (n : ℕ) → held (skipped s n) ≡ held s
unfolding skipped
skipped_held s n = go (not (is_before n s.una) && is_before n s.next)
  where
    go : (b : Bool) →
        held (cond b (with_outstanding s s.una (map (skip_before n) s.outstanding)) s) ≡ held s
    go true = rw (map_unchanged (λ (x : Sent). x.held) (skip_before n) (skip_held n) s.outstanding)
    go false = refl

skips_held : (s : Sending) (l : List ℕ) → held (skipped_by_all s l) ≡ held s
skips_held s [] = refl
skips_held s (n ∷ l) = skipped_held s (furthest n l)

-- ---- one call

-- held after, with what is acknowledged, is held before, with what is accepted
abbrev Balances : Station → Call → Stepped → Type 0
Balances s x y =
    held y.station.state.sending + acknowledged_by s x y.answer ≡ held s.state.sending + fragments_by s x y.answer

balances : (s : Station) → SendingInOrder s.state.settings s → (x : Call) → Balances s x (own s x)
unfolding applied flushing
balances s o =
    own_cases (Balances s) s nothing
    (λ m ok. omega (
      arith,
      held_parts (with_queue d ((filling c d s.send_pool m).queued ++ (placing c d s.send_pool m).segments)),
      held_parts d,
      length-append (filling c d s.send_pool m).queued (placing c d s.send_pool m).segments,
      filled_count m,
      place_count (is_stream c) (mss c) (slots (send_held d)) (filling c d s.send_pool m).pool (cutting c d s.send_pool m),
      length_cut_as (is_stream c) (mss c) (filling c d s.send_pool m).rest,
    ))
    (λ b gs e. rw e (omega (
      arith,
      each_held c s.state.current d gs,
      skips_held (all_by_sending c s.state.current d gs) (ack_numbers gs),
    )))
    (λ t. omega (arith, ap length (flushed t)))
    (λ room. omega arith)
    (λ t. omega (arith, ap length (flushed t)))
    (λ t. omega arith)
    (λ t. omega arith)
  where
    c : Settings
    c = s.state.settings

    d : Sending
    d = s.state.sending

    -- filling adds no segment
    filled_count : (m : List ℕ) → length (filling c d s.send_pool m).queued ≡ length d.queued
    filled_count m = filled_queue (mss c) d.queued s.send_pool m (is_stream c)

    flushed : (t : ℕ) → send_held (flushed_with c t (numbered_count (window_of s.state) d) d) ≡ send_held d
    flushed t = flushed_held c t (numbered_count (window_of s.state) d) d (count_few (window_of s.state) d)
        (count_room (window_of s.state) d (window_most s.state) (half_in c s o).numbers.apart)

    nothing : (x : Call) (r : Refusal) → Balances s x (record { station = s; answer = Reply.refused r })
    nothing (Call.send m) r = omega arith
    nothing (Call.take_in b) r = omega arith
    nothing (Call.flush t) r = omega arith
    nothing (Call.update t) r = omega arith
    nothing (Call.check t) r = omega arith
    nothing (Call.read room) r = omega arith

-- ---- lists of calls

-- the first call of a list that passes
acknowledged_first : (s : Station) (x : Call) (xs : List Call) → Passing s (x ∷ xs) →
    station_acknowledged s (x ∷ xs) ≡ acknowledged_by s x (own s x).answer + station_acknowledged (own s x).station xs
unfolding station_acknowledged
acknowledged_first s x xs p = rw (step_own s x p.0 p.1)

accepted_first : (s : Station) (x : Call) (xs : List Call) → Passing s (x ∷ xs) →
    station_accepted s (x ∷ xs) ≡ fragments_by s x (own s x).answer + station_accepted (own s x).station xs
unfolding station_accepted
accepted_first s x xs p = rw (step_own s x p.0 p.1)

-- by any name of the settings
balances_by : (c : Settings) (s : Station) (x : Call) → SendingInOrder c s → Balances s x (own s x)
balances_by c s x o = subst (λ (c : Settings). SendingInOrder c s → Balances s x (own s x)) o.settings (λ o. balances s o x) o

all_balance : (c : Settings) → in_range c ≡ true → (calls : List Call) (s : Station) → All CallFits calls → Passing s calls
    → SendingInOrder c s →
    held (after s calls).state.sending + station_acknowledged s calls ≡ held s.state.sending + station_accepted s calls
unfolding after station_acknowledged station_accepted
all_balance c range [] s k p o = omega arith
all_balance c range (x ∷ xs) s k p o =
    omega (
      arith,
      ap (λ (y : Station). held y.state.sending) (after_first s x xs p),
      acknowledged_first s x xs p,
      accepted_first s x xs p,
      balances_by c s x o,
      all_balance c range xs (own s x).station k.1 p.2 (sending_stays c range s x k.0 o),
    )

-- ---- in message mode the fragments accepted are those of the messages accepted

segments_of_append : (m : ℕ) (a b : List (List ℕ)) → segments_of m (a ++ b) ≡ segments_of m a + segments_of m b
unfolding segments_of
segments_of_append m [] b = omega arith
segments_of_append m (x ∷ a) b = omega (arith, segments_of_append m a b)

messages_first : (m : ℕ) (s : Station) (x : Call) (xs : List Call) → Passing s (x ∷ xs) →
    segments_of m (accepted_list (history s (x ∷ xs)))
    ≡ segments_of m (accepted_by x (own s x).answer) + segments_of m (accepted_list (history (own s x).station xs))
unfolding accepted_list
messages_first m s x xs p =
    ap (λ (l : List Event). segments_of m (accepted_list l)) (history_first s x xs p)
    ∙ segments_of_append m (accepted_by x (own s x).answer) (accepted_list (history (own s x).station xs))

-- nothing is filled, and a message is cut whole
whole_cut : (stream : Bool) → stream ≡ false → (m : ℕ) (q : List Held) (pool b : List ℕ) →
    segment_count stream m (length (filled stream m q pool b).rest) ≡ fragment_count m (length b)
unfolding filled segment_count
whole_cut false e m q pool b = refl
whole_cut true e m q pool b = absurd (true≢false e)

messages_by : (s : Station) → is_stream s.state.settings ≡ false → (x : Call) (a : Reply) →
    fragments_by s x a ≡ segments_of (mss s.state.settings) (accepted_by x a)
unfolding segments_of
messages_by s e (Call.send m) Reply.accepted =
    let c = s.state.settings in
    omega (arith, whole_cut (is_stream c) e (mss c) s.state.sending.queued s.send_pool m)
messages_by s e (Call.send m) (Reply.refused r) = refl
messages_by s e (Call.send m) (Reply.wrote ds) = refl
messages_by s e (Call.send m) (Reply.message b) = refl
messages_by s e (Call.send m) Reply.waited = refl
messages_by s e (Call.send m) (Reply.named t) = refl
messages_by s e (Call.take_in d) a = refl
messages_by s e (Call.flush t) a = refl
messages_by s e (Call.update t) a = refl
messages_by s e (Call.check t) a = refl
messages_by s e (Call.read room) a = refl

pub station_messages : (c : Settings) → is_stream c ≡ false → (calls : List Call) (s : Station) → s.state.settings ≡ c → Passing s calls →
    station_accepted s calls ≡ segments_of (mss c) (accepted_list (history s calls))
unfolding station_accepted accepted_list history segments_of
station_messages c off [] s e p = refl
station_messages c off (x ∷ xs) s e p =
    omega (
      arith,
      accepted_first s x xs p,
      messages_first (mss c) s x xs p,
      messages_by s (ap is_stream e ∙ off) x (own s x).answer
          ∙ ap (λ (d : Settings). segments_of (mss d) (accepted_by x (own s x).answer)) e,
      station_messages c off xs (own s x).station (own_settings s x ∙ e) p.2,
    )

-- ---- since opening

opened_held : (c : Settings) → held (opened c).sending ≡ 0
unfolding opened
opened_held c = refl

module _ (c : Settings) (taken : Taken c) (s : Station) (p : Opened c s) (calls : List Call) (k : All CallFits calls) (q : Passing s calls)
  where
    pub station_ledger : Ledger (after s calls).state.sending (station_accepted s calls) (station_acknowledged s calls)
    station_ledger =
        let o : SendingInOrder c s = opened_in_order c s p in
        let after_all : SendingInOrder c (after s calls) = sending_always c taken.range calls s k q o in
        omega (
          arith,
          used_held c (after s calls).state.sending (half_in c (after s calls) after_all),
          all_balance c taken.range calls s k q o,
          ap (λ (x : State). held x.sending) p.state ∙ opened_held c,
        )
