-- An end whose accepted sends made at most 2^30 segments writes pushes with numbers below 2^30: snd_nxt and the queued segments together
-- are no more than the segments made, in both modes of cutting, and no number wraps.
-- A proof layer: no statement cites it.
-- Assumes nothing.
use Rattle.std.specs.Prelude.{◌≡◌, Bool, true, false, cond, eqb}
use Rattle.std.proofs.Math.Path.{refl, ap, subst}
use mathlib.Core.List.{List, [], ◌∷◌, ◌++◌, map}
use Prim.Native.Nat.{ℕ, ◌+◌, ◌^◌, ◌≤◌, ◌<◌}
use native.Mathlib.Omega.{arith}
use Rattle.std.proofs.Common.{eqb-true, length-append}
use Rattle.std.proofs.Math.ListN.{length, length-drop}
use Rattle.protocol.specs.Protocol.{push}
use Rattle.protocol.specs.Ranges.{in_range, mss, is_stream}
use Rattle.protocol.specs.Serial.{plus}
use Rattle.protocol.specs.declared.Settings.{Settings}
use Rattle.protocol.specs.declared.Refusal.{Refusal}
use Rattle.datagram.specs.Datagrams.{Segment}
use Rattle.schedule.specs.declared.Schedule.{Schedule}
use Rattle.session.specs.State.{Sending, send_held, slots, with_schedule}
use Rattle.session.specs.Opening.{opened}
use Rattle.session.specs.FillLaws.{filled_queue}
use Rattle.session.specs.Input.{all_by_sending, ack_numbers, applied}
use Rattle.session.specs.Flushing.{flushing}
use Rattle.session.specs.Calls.{Station, Call, Reply, Event, Stepped, after_flush, own, datagrams_in, datagrams_by}
use Rattle.session.specs.Decides.{All}
use Rattle.session.specs.AllLaws.{all_append, all_weaker}
use Rattle.delivery.specs.Hearing.{CallFits, FewPushes}
use Rattle.delivery.specs.Stations.{Opened}
use Rattle.delivery.specs.PlainReceiver.{push_numbers, pushes_in}
use Rattle.delivery.specs.Ledger.{fragments_by}
use Rattle.delivery.specs.CallCases.{filling, cutting, placing, scheduled_at, own_cases}
use Rattle.delivery.specs.SendPool.{length_cut_as, place_count}
use Rattle.delivery.specs.SenderModel.{taken_same}
use Rattle.delivery.specs.AlwaysValid.{InOrder}
use Rattle.demands.specs.Steps.{Endpoint, Called, Runs, start, next}
use Rattle.demands.specs.Stations.{station_of}
use Rattle.demands.specs.Claims.{fragments_accepted}
use Rattle.demands.proofs.Simulation.{Preserved, own_call, preserved_call}
use Rattle.demands.proofs.RunLaws.{opens_station, opens_preserved, taken}
use Rattle.progress.specs.Had.{Pushes}
use Rattle.progress.specs.Outstanding.{numbers_of, all_preserved, skips_numbers, flush_under}
use Rattle.progress.specs.Carried.{
  Carries,
  numbers,
  wrote_by,
  Flushable,
  in_order_flushable,
  flushable_rescheduled,
  few_numbers,
  flush_pushes,
}
use Rattle.progress.specs.TwoEnds.{MadeBy, FewSegments}

-- ---- pushes below 2^30

abbrev Low : List ℕ → Type 0
Low l = All (λ (sn : ℕ). sn < 2 ^ 30) l

few_carried : (c : Settings) (N : ℕ) → N ≤ 2 ^ 30 → (d : List ℕ) → Carries c (Pushes N) d → Low (pushes_in c d)
unfolding pushes_in push_numbers
few_carried c N top d x = rw x.parses (go x.segments x.each)
  where
    go : (gs : List Segment) → All (Pushes N) gs → Low (push_numbers gs)
    go [] a = tt
    go (g ∷ gs) a = at (eqb g.header.cmd push) refl (go gs a.1)
      where
        at : (t : Bool) → eqb g.header.cmd push ≡ t → Low (push_numbers gs)
            → Low (cond t (g.header.sn ∷ push_numbers gs) (push_numbers gs))
        at true e i = (omega (arith, a.0 (eqb-true g.header.cmd push e)), i)
        at false e i = i

pub few_both : (c : Settings) (l r : List (List ℕ)) → FewPushes c l → FewPushes c r → FewPushes c (l ++ r)
few_both c l r = all_append (λ (d : List ℕ). Low (pushes_in c d)) l r

-- ---- what a station has counted

-- n segments were made, so that no more are numbered or queued
record Counted (n : ℕ) (s : Station) : Type 0 where
  total : s.state.sending.next + length s.state.sending.queued ≤ n
  under : All (λ (m : ℕ). m < s.state.sending.next) (numbers_of s.state.sending.outstanding)

-- after a call
record Counts (c : Settings) (s : Station) (n : ℕ) (x : Call) (y : Stepped) : Type 0 where
  counted : Counted (n + fragments_by s x y.answer) y.station
  few : FewPushes c (datagrams_in y.answer)

-- a call that is refused, and one that writes, makes no segment
refused_makes_none : (s : Station) (x : Call) (r : Refusal) → fragments_by s x (Reply.refused r) ≡ 0
refused_makes_none s (Call.send m) r = refl
refused_makes_none s (Call.take_in d) r = refl
refused_makes_none s (Call.flush t) r = refl
refused_makes_none s (Call.read room) r = refl
refused_makes_none s (Call.update t) r = refl
refused_makes_none s (Call.check t) r = refl

pub writer_makes_none : (s : Station) (x : Call) (ds : List (List ℕ)) → fragments_by s x (Reply.wrote ds) ≡ 0
writer_makes_none s (Call.send m) ds = refl
writer_makes_none s (Call.take_in d) ds = refl
writer_makes_none s (Call.flush t) ds = refl
writer_makes_none s (Call.read room) ds = refl
writer_makes_none s (Call.update t) ds = refl
writer_makes_none s (Call.check t) ds = refl

module _ (s : Station) (n : ℕ) (range : in_range s.state.settings ≡ true) (conv32 : s.state.settings.conv < 2 ^ 32)
    (o : InOrder s.state.settings s) (h : Counted n s) where
  abbrev c : Settings
  c = s.state.settings

  abbrev d : Sending
  d = s.state.sending

  -- nothing made, nothing numbered
  same : (m : ℕ) → m ≡ 0 → Counted (n + m) s
  same m e = record { total = omega (arith, h.total, e); under = h.under }

  -- a flush, whatever the schedule
  flush_counts : (x : Call) (k : Schedule) (t : ℕ) → t < 2 ^ 32 → n ≤ 2 ^ 30
      → Counts c s n x (after_flush s (flushing (with_schedule s.state k) t s.send_pool))
  unfolding flushing
  flush_counts x schedule t time most =
      let state = with_schedule s.state schedule in
      let f : Flushable state s.send_pool =
      flushable_rescheduled s.state s.send_pool schedule (in_order_flushable s range conv32 o) in
      let k : ℕ = numbers state in
      let fewer : k ≤ length d.queued = few_numbers state s.send_pool f in
      let top : d.next + k ≤ 2 ^ 30 = omega (arith, h.total, fewer) in
      let z : plus d.next k ≡ d.next + k = omega (arith, top) in
      let none = writer_makes_none s x (wrote_by state t s.send_pool) in
      record {
        counted = rw (z, none) (record {
          total = simp length-drop (omega (arith, h.total, fewer));
          under = flush_under c t k d fewer top h.under;
        });
        few = all_weaker (Carries c (Pushes (d.next + k))) (λ (b : List ℕ). Low (pushes_in c b)) (few_carried c (d.next + k) top)
            (wrote_by state t s.send_pool)
            (flush_pushes state s.send_pool f t time top h.under);
      }

  -- filling adds no segment, and all that is cut is queued
  send_counts : (m : List ℕ) →
      length ((filling c d s.send_pool m).queued ++ (placing c d s.send_pool m).segments)
      ≡ length d.queued + fragments_by s (Call.send m) Reply.accepted
  send_counts m = omega (
    arith,
    length-append (filling c d s.send_pool m).queued (placing c d s.send_pool m).segments,
    filled_queue (mss c) d.queued s.send_pool m (is_stream c),
    place_count (is_stream c) (mss c) (slots (send_held d)) (filling c d s.send_pool m).pool (cutting c d s.send_pool m),
    length_cut_as (is_stream c) (mss c) (filling c d s.send_pool m).rest,
  )

  own_counts : (x : Call) → CallFits x → n ≤ 2 ^ 30 → Counts c s n x (own s x)
  unfolding applied
  own_counts =
      own_cases (λ (x : Call) (y : Stepped). CallFits x → n ≤ 2 ^ 30 → Counts c s n x y) s
      (λ x r fits most. record { counted = same (fragments_by s x (Reply.refused r)) (refused_makes_none s x r); few = tt })
      (λ m ok fits most. record { counted = record { total = omega (arith, h.total, send_counts m); under = h.under }; few = tt })
      (λ b gs e fits most.
      let k = taken_same c s.state.current d gs (ack_numbers gs) in
      record {
        counted = record {
          total = omega (arith, h.total, k.0, ap length k.1);
          under =
              rw (skips_numbers (all_by_sending c s.state.current d gs) (ack_numbers gs), k.0)
              (all_preserved c s.state.current (λ (m : ℕ). m < d.next) gs d h.under);
        };
        few = tt;
      })
      (λ t time most. flush_counts (Call.flush t) s.state.schedule t time most)
      (λ room fits most. record { counted = record { total = omega (arith, h.total); under = h.under }; few = tt })
      (λ t time most. flush_counts (Call.update t) (scheduled_at s.state t) t time most)
      (λ t time most. record { counted = record { total = omega (arith, h.total); under = h.under }; few = tt })
      (λ t time most. record { counted = same 0 refl; few = tt })

-- by any name of the settings
counts_call : (c : Settings) → in_range c ≡ true → c.conv < 2 ^ 32 → (s : Station) (n : ℕ) (x : Call) → InOrder c s → CallFits x
    → n ≤ 2 ^ 30 → Counted n s → Counts c s n x (own s x)
counts_call c range conv32 s n x o fits most h =
    subst (λ (c : Settings). in_range c ≡ true → c.conv < 2 ^ 32 → InOrder c s → Counts c s n x (own s x)) o.sends.settings
    (λ range conv32 o. own_counts s n range conv32 o h x fits most)
    range conv32 o

-- at first none is made
counted_opened : (c : Settings) (s : Station) → Opened c s → Counted 0 s
unfolding opened
counted_opened c s p = rw p.state (record { total = omega arith; under = tt })

-- ---- the calls of an end

module _ (c : Settings) (range : in_range c ≡ true) (conv32 : c.conv < 2 ^ 32) where
  -- an end that is in order and has made at most n segments, n at most 2^30
  pub record Made (n : ℕ) (e : Endpoint) : Type 0 where
    pub preserved : Preserved c e
    counted : Counted n (station_of e)
    most : n ≤ 2 ^ 30

  record CallMade (n : ℕ) (e : Endpoint) (x : Call) (y : Reply) (e' : Endpoint) : Type 0 where
    counted : Counted (n + fragments_by (station_of e) x y) (station_of e')
    few : FewPushes c (datagrams_in y)

  call_made : (n : ℕ) (e e' : Endpoint) (x : Call) (y : Reply) → CallFits x → Called e x y e' → Made n e → CallMade n e x y e'
  call_made n e e' x y fits h m =
      let s = own_call c range conv32 e m.preserved x y e' fits h in
      let w = counts_call c range conv32 (station_of e) n x m.preserved.order fits m.most m.counted in
      record {
        counted = rw (s.station, s.answer) at w.counted;
        few = rw s.answer at w.few;
      }

  -- a list of calls
  pub record RunMade (n : ℕ) (events : List Event) (e' : Endpoint) : Type 0 where
    pub made : Made n e'
    pub few : FewPushes c (datagrams_by events)

  pub run_made : {e e'' : Endpoint} {xs : List Call} {events : List Event} (r : Runs e xs events e'') (n : ℕ) → All CallFits xs → Made n e
      → n + fragments_accepted r ≤ 2 ^ 30 → RunMade (n + fragments_accepted r) events e''
  unfolding fragments_accepted datagrams_by
  run_made {e} start n fits m most =
      let none : n ≡ n + 0 = omega arith in
      let same = subst (λ (k : ℕ). Counted k (station_of e)) none m.counted in
      record { made = record { preserved = m.preserved; counted = same; most = most }; few = tt }
  run_made {e'' = e''} (next e x a e' {events = events} h r) n fits m most =
      let k : ℕ = fragments_by (station_of e) x a in
      let w = call_made n e e' x a fits.0 h m in
      let after : Made (n + k) e' =
      record { preserved = preserved_call c range conv32 e m.preserved x a e' fits.0 h; counted = w.counted; most = omega arith } in
      let i = run_made r (n + k) fits.1 after (omega arith) in
      record {
        made = subst (λ (l : ℕ). Made l e'') (omega arith) i.made;
        few = few_both c (datagrams_in a) (datagrams_by events) w.few i.few;
      }

  -- a call that writes: its pushes are few
  pub writes_few : (n : ℕ) (e e' : Endpoint) (x : Call) (ds : List (List ℕ)) → CallFits x → Called e x (Reply.wrote ds) e' → Made n e
      → FewPushes c ds
  writes_few n e e' x ds fits h m = (call_made n e e' x (Reply.wrote ds) fits h m).few

  -- feeds make no segment
  feeds_make_none : (ds : List (List ℕ)) {e e'' : Endpoint} {events : List Event} (r : Runs e (map Call.take_in ds) events e'')
      → fragments_accepted r ≡ 0
  unfolding fragments_accepted
  feeds_make_none [] start = refl
  feeds_make_none (b ∷ ds) (next e x a e' h r) = omega (arith, feeds_make_none ds r)

  pub fed_made : (ds : List (List ℕ)) (n : ℕ) (e e'' : Endpoint) (events : List Event) (r : Runs e (map Call.take_in ds) events e'')
      → All CallFits (map Call.take_in ds) → Made n e → Made n e''
  fed_made ds n e e'' events r fits m =
      let z = feeds_make_none ds r in
      subst (λ (k : ℕ). Made k e'') (omega (arith, z)) (run_made r n fits m (omega (arith, z, m.most))).made

-- since an accepted opening
module _ (c : Settings) (events : List Event) (e : Endpoint) (h : MadeBy c events e) (few : FewSegments h) where
  pub since_made : RunMade c (taken h).range h.conv (0 + fragments_accepted h.runs) events e
  since_made =
      run_made c (taken h).range h.conv h.runs 0 h.fits
      (record {
        preserved = opens_preserved c h.first h.opens;
        counted = counted_opened c (station_of h.first) (opens_station c h.first h.opens);
        most = omega arith;
      })
      (omega (arith, few))
