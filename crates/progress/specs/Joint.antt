-- What ties two stations that hear only each other: every number given out is outstanding, or had by the other one, whatever was lost.
-- Each call of either preserves it. By numbers alone: no payload, no window, no time. A flush may number any count of queued segments
-- within 32 of snd_una, and a send may do anything that leaves snd_nxt and the outstanding segments.
-- A proof layer: no statement cites it.
-- Assumes nothing.
use Rattle.std.specs.Prelude.{◌≡◌, refl, Bool, true, false, ◌||◌, ltb, length}
use Rattle.std.proofs.Common.{sym, ◌∙◌, subst, arith, ltb-true, ltb-false}
use Rattle.std.proofs.lemmas.Bool.{false≢true}
use mathlib.Core.List.{List, [], ◌++◌, Memᴰ, append-nil}
use Prim.Native.Nat.{ℕ, ◌+◌, ◌^◌, ◌≤◌, ◌<◌}
use Rattle.protocol.specs.Ranges.{in_range, mss}
use Rattle.protocol.specs.Serial.{plus}
use Rattle.protocol.specs.declared.Settings.{Settings}
use Rattle.datagram.specs.Datagrams.{Segment, Parsed, parse}
use Rattle.schedule.specs.declared.Schedule.{Schedule}
use Rattle.session.specs.Slots.{occurs}
use Rattle.session.specs.Opening.{opened}
use Rattle.session.specs.State.{Sending, Receiving, Outcome, with_notes, with_schedule}
use Rattle.session.specs.Input.{Receiver, all_by_sending, all_by_receiving, ack_numbers, skipped_by_all, applied}
use Rattle.session.specs.Flushing.{flushing}
use Rattle.session.specs.Reading.{after_read}
use Rattle.session.specs.Calls.{Station, Call, Stepped, after_take_in, after_flush, own, datagrams_in}
use Rattle.session.specs.Decides.{All}
use Rattle.session.specs.AllLaws.{all_append, all_weaker}
use Rattle.delivery.specs.Hearing.{CallFits, FewPushes}
use Rattle.delivery.specs.Stations.{Opened}
use Rattle.delivery.specs.CallCases.{scheduled_at, own_cases}
use Rattle.delivery.specs.Receiving.{member}
use Rattle.delivery.specs.SenderModel.{taken_same}
use Rattle.delivery.specs.SendingFlushes.{flushed_with}
use Rattle.delivery.specs.AlwaysValid.{InOrder, in_order_stays, opened_all}
use Rattle.progress.specs.SmallNumbers.{or_left, or_both}
use Rattle.progress.specs.Had.{has, Known, Pushes, HasAck, TookAll, all_had, ReadOut, read_had}
use Rattle.progress.specs.Outstanding.{numbers_of, Says, all_preserved, all_gone, skips_numbers, flush_under, flush_has, flush_old}
use Rattle.progress.specs.Carried.{
  Carries,
  carries_weaker,
  numbers,
  wrote_by,
  Flushable,
  in_order_flushable,
  flushable_rescheduled,
  few_numbers,
  flush_says,
  flush_low,
  flush_pushes,
}
use Rattle.progress.specs.TwoEnds.{TakesOneOf}

-- from a pusher (its outstanding numbers, snd_nxt, and what it wrote) to a receiving half (and what its end wrote)
pub record OneWay (c : Settings) (out : List ℕ) (next : ℕ) (wrote : List (List ℕ)) (r : Receiving) (said : List (List ℕ)) : Type 0 where
  pub low : next ≤ 2 ^ 30
  pub under : All (λ (n : ℕ). n < next) out
  -- the pusher's datagrams are taken in, and push numbers that were given out
  pub pushes : All (Carries c (Pushes next)) wrote
  -- the other end's datagrams are taken in, with una at most rcv_nxt and acks of what is had
  pub says : All (Carries c (Says r)) said
  pub acks : All (HasAck r) r.acks
  -- a number that was given out is outstanding, or had
  pub gone : (n : ℕ) → n < next → (occurs n out || has r n) ≡ true
  -- what is had was given out
  pub known : Known next r

abbrev pub Way : Settings → Sending → List (List ℕ) → Receiving → List (List ℕ) → Type 0
Way c d wrote r said = OneWay c (numbers_of d.outstanding) d.next wrote r said

-- ---- the pusher

module _ (c : Settings) (d : Sending) (wrote : List (List ℕ)) (r : Receiving) (said : List (List ℕ)) (w : Way c d wrote r said) where
  -- takes in what the other end says
  pusher_takes : (current : ℕ) (gs : List Segment) → All (Says r) gs
      → Way c (skipped_by_all (all_by_sending c current d gs) (ack_numbers gs)) wrote r said
  pusher_takes current gs a =
      rw (skips_numbers (all_by_sending c current d gs) (ack_numbers gs), (taken_same c current d gs (ack_numbers gs)).0)
      (record {
        low = w.low;
        under = all_preserved c current (λ (n : ℕ). n < d.next) gs d w.under;
        pushes = w.pushes;
        says = w.says;
        acks = w.acks;
        gone = all_gone c current d.next r w.low w.known gs d a w.gone;
        known = w.known;
      })

  -- flushes, and numbers k queued segments
  pusher_flushes : (t k : ℕ) → k ≤ length d.queued → d.next + k ≤ 2 ^ 30 → (ds : List (List ℕ))
      → All (Carries c (Pushes (d.next + k))) ds → Way c (flushed_with c t k d) (wrote ++ ds) r said
  pusher_flushes t k few top ds a =
      let z : plus d.next k ≡ d.next + k = omega arith in
      rw z
      (record {
        low = top;
        under = flush_under c t k d few top w.under;
        pushes =
            all_append (Carries c (Pushes (d.next + k))) wrote ds
            (carries_weaker c (Pushes d.next) (Pushes (d.next + k)) (λ g h e. omega (arith, h e)) wrote w.pushes)
            a;
        says = w.says;
        acks = w.acks;
        gone = λ n l. new n l (ltb n d.next) refl;
        known = λ n e. omega (arith, w.known n e);
      })
    where
      out : List ℕ
      out = numbers_of d.outstanding

      out' : List ℕ
      out' = numbers_of (flushed_with c t k d).outstanding

      new : (n : ℕ) → n < d.next + k → (b : Bool) → ltb n d.next ≡ b → (occurs n out' || has r n) ≡ true
      new n l true e =
          or_both (occurs n out) (has r n) (occurs n out') (has r n) (flush_old c t k d few top n) (λ x. x)
          (w.gone n (ltb-true n d.next e))
      new n l false e = or_left (occurs n out') (has r n) (flush_has c t k d few top n (ltb-false n d.next e) l)

-- ---- the receiving half

says_more : (r r' : Receiving) → ((n : ℕ) → has r n ≡ true → has r' n ≡ true) → r.next ≤ r'.next → (g : Segment) → Says r g
    → Says r' g
says_more r r' k u g s = (omega (arith, s.0, u), λ e. k g.header.sn (s.1 e))

module _ (c : Settings) (d : Sending) (wrote : List (List ℕ)) (r : Receiving) (said : List (List ℕ)) (w : Way c d wrote r said) where
  -- has no less than before
  has_more : (r' : Receiving) → ((n : ℕ) → has r n ≡ true → has r' n ≡ true) → r.next ≤ r'.next → All (HasAck r') r'.acks
      → Known d.next r' → Way c d wrote r' said
  has_more r' preserves up acks known = record {
    low = w.low;
    under = w.under;
    pushes = w.pushes;
    says = carries_weaker c (Says r) (Says r') (says_more r r' preserves up) said w.says;
    acks = acks;
    gone = λ n l. or_both (occurs n out) (has r n) (occurs n out) (has r' n) (λ e. e) (preserves n) (w.gone n l);
    known = known;
  }
    where
      out : List ℕ
      out = numbers_of d.outstanding

  -- takes in the pusher's segments
  receiver_takes_lem : (m : ℕ) (pool : List ℕ) (gs : List Segment) → All (Pushes d.next) gs
      → Way c d wrote (all_by_receiving m (record { half = r; pool = pool }) gs).half said
  receiver_takes_lem m pool gs a =
      let x : Receiver = record { half = r; pool = pool } in
      let i : TookAll d.next r (all_by_receiving m (record { half = r; pool = pool }) gs).half =
      all_had m d.next w.low gs x w.known a in
      has_more (all_by_receiving m x gs).half i.took.preserves i.took.up (i.acks w.acks) i.took.knows

  -- reads
  receiver_reads_lem : Way c d wrote (after_read r) said
  receiver_reads_lem =
      let i : ReadOut r (after_read r) = read_had d.next w.low r w.known in
      has_more (after_read r) (λ n e. i.same n ∙ e) i.up
      (rw i.acks (all_weaker (HasAck r) (HasAck (after_read r)) (λ a e. i.same a.sn ∙ e) r.acks w.acks))
      (λ n e. w.known n (sym (i.same n) ∙ e))

  -- flushes: the acks are written
  receiver_flushes : (ds : List (List ℕ)) → All (Carries c (Says r)) ds → Way c d wrote (with_notes r [] false) (said ++ ds)
  receiver_flushes ds a = record {
    low = w.low;
    under = w.under;
    pushes = w.pushes;
    says = all_append (Carries c (Says r)) said ds w.says a;
    acks = tt;
    gone = w.gone;
    known = w.known;
  }

-- ---- two stations, and what each wrote

pub record Joint (c : Settings) (a : Station) (by_a : List (List ℕ)) (b : Station) (by_b : List (List ℕ)) : Type 0 where
  pub in_order_a : InOrder c a
  pub in_order_b : InOrder c b
  pub ab : Way c a.state.sending by_a b.state.receiving by_b
  pub ba : Way c b.state.sending by_b a.state.receiving by_a

pub exchanged : {c : Settings} {a b : Station} {by_a by_b : List (List ℕ)} → Joint c a by_a b by_b → Joint c b by_b a by_a
exchanged j = record { in_order_a = j.in_order_b; in_order_b = j.in_order_a; ab = j.ba; ba = j.ab }

-- what a call of a leaves of the two ways
record Ways (c : Settings) (s : Station) (wrote : List (List ℕ)) (b : Station) (by_b : List (List ℕ)) : Type 0 where
  ab : Way c s.state.sending wrote b.state.receiving by_b
  ba : Way c b.state.sending by_b s.state.receiving wrote

segments_same : (u v : List Segment) → Parsed.segments u ≡ Parsed.segments v → u ≡ v
segments_same u v e = cc

module _ (a b : Station) (by_a by_b : List (List ℕ))
    (range : in_range a.state.settings ≡ true) (conv32 : a.state.settings.conv < 2 ^ 32)
    (j : Joint a.state.settings a by_a b by_b) where
  abbrev c : Settings
  c = a.state.settings

  abbrev d : Sending
  d = a.state.sending

  abbrev r : Receiving
  r = a.state.receiving

  -- nothing is written, and what was had and outstanding is so still
  same : Ways c a (by_a ++ []) b by_b
  same = rw append-nil (record { ab = j.ab; ba = j.ba })

  -- the datagram is one that the other end wrote
  takes : (x : List ℕ) (gs : List Segment) → parse c.conv (mss c) x ≡ Parsed.segments gs → Memᴰ x by_b
      → Ways c (after_take_in a (Outcome.done (applied a.state a.receive_pool gs))).station (by_a ++ []) b by_b
  unfolding applied
  takes x gs e m =
      let N : ℕ = b.state.sending.next in
      let says : Carries c (Says b.state.receiving) x = member (Carries c (Says b.state.receiving)) by_b m j.ab.says in
      let pushes : Carries c (Pushes N) x = member (Carries c (Pushes N)) by_b m j.ba.pushes in
      rw append-nil
      (record {
        ab = pusher_takes c d by_a b.state.receiving by_b j.ab a.state.current gs
            (rw (segments_same says.segments gs (sym says.parses ∙ e)) at says.each);
        ba = receiver_takes_lem c b.state.sending by_b r by_a j.ba (mss c) a.receive_pool gs
            (rw (segments_same pushes.segments gs (sym pushes.parses ∙ e)) at pushes.each);
      })

  -- a flush, whatever the schedule
  flushes : (k : Schedule) (t : ℕ) → t < 2 ^ 32 → FewPushes c (wrote_by (with_schedule a.state k) t a.send_pool)
      → Ways c (after_flush a (flushing (with_schedule a.state k) t a.send_pool)).station
      (by_a ++ wrote_by (with_schedule a.state k) t a.send_pool) b by_b
  unfolding flushing
  flushes k t time few =
      let s = with_schedule a.state k in
      let f : Flushable s a.send_pool =
      flushable_rescheduled a.state a.send_pool k (in_order_flushable a range conv32 j.in_order_a) in
      let top = flush_low s a.send_pool f t time j.ab.low few in
      record {
        ab = pusher_flushes c d by_a b.state.receiving by_b j.ab t (numbers s) (few_numbers s a.send_pool f) top
            (wrote_by s t a.send_pool)
            (flush_pushes s a.send_pool f t time top j.ab.under);
        ba = receiver_flushes c b.state.sending by_b r by_a j.ba (wrote_by s t a.send_pool)
            (flush_says s a.send_pool f t time j.ba.acks);
      }

  -- what is to be shown of a call
  abbrev Preserved : Call → Stepped → Type 0
  Preserved x y =
      CallFits x → TakesOneOf by_b x → FewPushes c (datagrams_in y.answer) → Ways c y.station (by_a ++ datagrams_in y.answer) b by_b

  ways_after : (x : Call) → Preserved x (own a x)
  ways_after =
      own_cases Preserved a
      (λ x f fits from few. same)
      (λ m ok fits from few. rw append-nil (record { ab = j.ab; ba = j.ba }))
      (λ x gs e fits from few. takes x gs e from)
      (λ t time from few. flushes a.state.schedule t time few)
      (λ room fits from few. rw append-nil (record { ab = j.ab; ba = receiver_reads_lem c b.state.sending by_b r by_a j.ba }))
      (λ t time from few. flushes (scheduled_at a.state t) t time few)
      (λ t time from few. rw append-nil (record { ab = j.ab; ba = j.ba }))
      (λ t time from few. same)

-- EACH CALL of an end preserves what ties the two, by any name of the settings
pub joint_step : (c : Settings) → in_range c ≡ true → c.conv < 2 ^ 32 → (a b : Station) (by_a by_b : List (List ℕ)) (x : Call)
    → CallFits x → TakesOneOf by_b x → FewPushes c (datagrams_in (own a x).answer) → Joint c a by_a b by_b
    → Joint c (own a x).station (by_a ++ datagrams_in (own a x).answer) b by_b
joint_step c range conv32 a b by_a by_b x fits from few j =
    let ds : List (List ℕ) = datagrams_in (own a x).answer in
    let w : Ways c (own a x).station (by_a ++ datagrams_in (own a x).answer) b by_b =
    subst (λ (c : Settings).
    in_range c ≡ true → c.conv < 2 ^ 32 → FewPushes c ds → Joint c a by_a b by_b → Ways c (own a x).station (by_a ++ ds) b by_b)
    j.in_order_a.sends.settings
    (λ range conv32 few j. ways_after a b by_a by_b range conv32 j x fits from few)
    range conv32 few j in
    record { in_order_a = in_order_stays c range a x fits j.in_order_a; in_order_b = j.in_order_b; ab = w.ab; ba = w.ba }

-- ---- two openings

nothing_had : (n : ℕ) → (ltb n 0 || occurs n []) ≡ true → n < 0
unfolding occurs
nothing_had n e = go (ltb n 0) refl e
  where
    go : (b : Bool) → ltb n 0 ≡ b → (b || false) ≡ true → n < 0
    go true q e = ltb-true n 0 q
    go false q e = absurd (false≢true e)

fresh_way : (c : Settings) → Way c (opened c).sending [] (opened c).receiving []
unfolding opened
fresh_way c =
    record { low = omega arith; under = tt; pushes = tt; says = tt; acks = tt; gone = λ n l. absurd (omega arith); known = nothing_had }

pub joint_opened : (c : Settings) (a b : Station) → Opened c a → Opened c b → Joint c a [] b []
joint_opened c a b p q = record {
  in_order_a = opened_all c a p;
  in_order_b = opened_all c b q;
  ab = rw (p.state, q.state) fresh;
  ba = rw (p.state, q.state) fresh;
}
  where
    fresh : Way c (opened c).sending [] (opened c).receiving []
    fresh = fresh_way c
