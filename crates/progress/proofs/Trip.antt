-- One good round trip between two stations that hear only each other: what the receiver has afterwards, what its flush says, and how far
-- snd_una is.
-- A proof layer: no statement cites it.
-- Assumes nothing.
use Rattle.std.specs.Prelude.{◌≡◌, ◌⊎◌, Bool, cond, ◌||◌, leb, ltb, length}
use Rattle.std.proofs.Math.Path.{refl, ap}
use Rattle.std.proofs.Common.{sym, ◌∙◌, subst, inl, inr, true≢false, le_refl, arith}
use Rattle.std.proofs.Math.Bool.{true, false}
use Rattle.std.proofs.lemmas.Bool.{false≢true}
use mathlib.Core.List.Memᴰ
use mathlib.Core.List.{List, [], ◌∷◌, ◌++◌, Memᴰ, append-nil}
use Prim.Native.Nat.{ℕ, ◌+◌, ◌^◌, ◌≤◌, ◌<◌}
use borrow.Author.Tests.{ltb-true, ltb-false, lt-ltb, le-ltb, eqb-true}
use Rattle.std.proofs.Math.Dec.{eqb}
use Rattle.protocol.specs.Protocol.{push, receive_window}
use Rattle.protocol.specs.Ranges.{in_range, mss}
use Rattle.protocol.specs.declared.Settings.{Settings}
use Rattle.protocol.specs.declared.Refusal.TheVariants.{ShortPart, NoMessage}
use Rattle.wire.specs.LittleEndian.{AllBytes}
use Rattle.datagram.specs.Datagrams.{Segment, Parsed, parse}
use Rattle.lists.specs.declared.Held.{Held}
use Rattle.lists.specs.declared.Waiting.{Waiting}
use Rattle.lists.specs.Orders.{waiting_offset}
use Rattle.schedule.specs.Schedules.{updated}
use Rattle.schedule.specs.declared.Schedule.{Schedule}
use Rattle.session.specs.Slots.{occurs}
use Rattle.session.specs.State.{State, Sending, Receiving, Outcome, with_receiving, with_schedule}
use Rattle.session.specs.Input.{Receiver, all_by_sending, all_by_receiving, ack_numbers, skipped_by_all, applied, input}
use Rattle.session.specs.Flushing.{flushing}
use Rattle.session.specs.Reading.{Reads, readable, message_size, message, after_read, reading}
use Rattle.session.specs.Calls.{Station, Call, Reply, Stepped, after_take_in, after_flush, after_reading, own, datagrams_in}
use Rattle.session.specs.Decides.{All}
use Rattle.session.specs.AllLaws.{all_weaker}
use Rattle.session.specs.Ascending.{Ascends, ascending_ascends}
use Rattle.session.specs.ReceivingValid.{ReceivingIsValid, StartsAt}
use Rattle.session.proofs.ValidDecides.{receiving_decides}
use Rattle.session.proofs.ReadyLaws.{half_below_window}
use Rattle.session.specs.SendOrder.{Numbers}
use Rattle.delivery.specs.Hearing.{CallFits, FewPushes}
use Rattle.delivery.specs.PlainReceiver.{push_numbers, pushes_in}
use Rattle.delivery.specs.CallCases.{scheduled_at, input_cases, own_cases}
use Rattle.delivery.specs.Receiving.{member}
use Rattle.delivery.specs.SenderModel.{taken_same}
use Rattle.delivery.specs.SendingStays.{half_in}
use Rattle.delivery.specs.ReceivingLaws.{receiver_of, receiver_flushed, receiver_after, own_receiver}
use Rattle.delivery.specs.AlwaysValid.{InOrder}
use Rattle.delivery.proofs.FedLaws.{or-true}
use Rattle.progress.specs.SmallNumbers.{after_small}
use Rattle.progress.specs.Had.{has, waiting_numbers, known_next, Pushes, TookAll, took_all_none, took_all_then, all_had, goes_in}
use Rattle.progress.specs.Outstanding.{numbers_of, all_preserved, floor_all, skips_numbers, una_least, una_is}
use Rattle.progress.specs.Carried.{Carries, wrote_by, Flushable, in_order_flushable, flushable_rescheduled, flush_una, flush_some}
use Rattle.progress.specs.Joint.{Joint, exchanged, joint_step}
use Rattle.progress.specs.TwoEnds.{TakesOneOf, GoesOut, AllArrive, Passed}

-- ---- datagrams taken in one after the other

unfoldable pub fed : Station → List (List ℕ) → Station
fed s [] = s
fed s (d ∷ ds) = fed (own s (Call.take_in d)).station ds

take_writes_none : (s : Station) (d : List ℕ) → datagrams_in (own s (Call.take_in d)).answer ≡ []
take_writes_none s d =
    input_cases (λ (y : Outcome _). datagrams_in (after_take_in s y).answer ≡ []) s.state s.receive_pool d (λ r. refl) (λ gs e. refl)

-- a datagram that is taken in
module _ (s : Station) (d : List ℕ) (gs : List Segment)
    (e : parse s.state.settings.conv (mss s.state.settings) d ≡ Parsed.segments gs) where
  taken_state : (own s (Call.take_in d)).station.state ≡ (applied s.state s.receive_pool gs).state
  unfolding input
  taken_state = rw e

  taken_receiving : (own s (Call.take_in d)).station.state.receiving
      ≡ (all_by_receiving (mss s.state.settings) (record { half = s.state.receiving; pool = s.receive_pool }) gs).half
  unfolding applied
  taken_receiving = ap (λ (x : State). x.receiving) taken_state

  taken_sending : (own s (Call.take_in d)).station.state.sending
      ≡ skipped_by_all (all_by_sending s.state.settings s.state.current s.state.sending gs) (ack_numbers gs)
  unfolding applied
  taken_sending = ap (λ (x : State). x.sending) taken_state

  taken_numbers : numbers_of (own s (Call.take_in d)).station.state.sending.outstanding
      ≡ numbers_of (all_by_sending s.state.settings s.state.current s.state.sending gs).outstanding
  taken_numbers =
      ap (λ (x : Sending). numbers_of x.outstanding) taken_sending
      ∙ skips_numbers (all_by_sending s.state.settings s.state.current s.state.sending gs) (ack_numbers gs)

  taken_next : (own s (Call.take_in d)).station.state.sending.next ≡ s.state.sending.next
  taken_next =
      ap (λ (x : Sending). x.next) taken_sending
      ∙ (taken_same s.state.settings s.state.current s.state.sending gs (ack_numbers gs)).0

-- ---- a call that writes is a flush, or an update that flushes

-- it is the flush of the state with some schedule, and takes in nothing
record IsFlush (s : Station) (x : Call) (y : Stepped) : Type 0 where
  schedule : Schedule
  t : ℕ
  time : t < 2 ^ 32
  is : y ≡ after_flush s (flushing (with_schedule s.state schedule) t s.send_pool)
  takes_none : (ds : List (List ℕ)) → TakesOneOf ds x

is_flush : (s : Station) (x : Call) (ds : List (List ℕ)) → CallFits x → (own s x).answer ≡ Reply.wrote ds → IsFlush s x (own s x)
is_flush s x ds fits wrote =
    own_cases (λ (x : Call) (y : Stepped). CallFits x → y.answer ≡ Reply.wrote ds → IsFlush s x y) s
    (λ x r f e. absurd (let z : ◌≡◌ {A = ℕ} 0 1 = cc in omega arith))
    (λ m ok f e. absurd (let z : ◌≡◌ {A = ℕ} 0 1 = cc in omega arith))
    (λ d gs p f e. absurd (let z : ◌≡◌ {A = ℕ} 0 1 = cc in omega arith))
    (λ t f e. record { schedule = s.state.schedule; t = t; time = f; is = refl; takes_none = λ ds. tt })
    (λ room f e. absurd (let z : ◌≡◌ {A = ℕ} 0 1 = cc in omega arith))
    (λ t f e. record { schedule = scheduled_at s.state t; t = t; time = f; is = refl; takes_none = λ ds. tt })
    (λ t f e. absurd (let z : ◌≡◌ {A = ℕ} 0 1 = cc in omega arith))
    (λ t f e. absurd (let z : ◌≡◌ {A = ℕ} 0 1 = cc in omega arith))
    x fits wrote

flush_preserves_una : (s : Station) (x : Call) → IsFlush s x (own s x) → (own s x).station.state.sending.una ≡ s.state.sending.una
unfolding flushing
flush_preserves_una s x f = ap (λ (y : Stepped). y.station.state.sending.una) f.is

abbrev Una : ℕ → Segment → Type 0
Una v g = g.header.una ≡ v

-- each segment of each datagram carries una = rcv_nxt, and there is one where an ack is noted
record Answers (c : Settings) (s : Station) (ds : List (List ℕ)) : Type 0 where
  una : All (Carries c (Una s.state.receiving.next)) ds
  some : 0 < length s.state.receiving.acks → 0 < length ds

flush_answers_own : (s : Station) → in_range s.state.settings ≡ true → s.state.settings.conv < 2 ^ 32 → InOrder s.state.settings s
    → (x : Call) (ds : List (List ℕ)) → CallFits x → (own s x).answer ≡ Reply.wrote ds → Answers s.state.settings s ds
flush_answers_own s range conv32 o x ds fits e =
    let f = is_flush s x ds fits e in
    let state : State = with_schedule s.state f.schedule in
    let able : Flushable state s.send_pool =
    flushable_rescheduled s.state s.send_pool f.schedule (in_order_flushable s range conv32 o) in
    let these : wrote_by state f.t s.send_pool ≡ ds = ap datagrams_in (sym (ap (λ (y : Stepped). y.answer) f.is) ∙ e) in
    rw (← these) (record {
      una = flush_una state s.send_pool able f.t f.time;
      some = flush_some state s.send_pool able f.t f.time;
    })

-- by any name of the settings
flush_answers : (c : Settings) → in_range c ≡ true → c.conv < 2 ^ 32 → (s : Station) → InOrder c s
    → (x : Call) (ds : List (List ℕ)) → CallFits x → (own s x).answer ≡ Reply.wrote ds → Answers c s ds
flush_answers c range conv32 s o x ds fits e =
    subst (λ (c : Settings). in_range c ≡ true → c.conv < 2 ^ 32 → InOrder c s → Answers c s ds) o.sends.settings
    (λ range conv32 o. flush_answers_own s range conv32 o x ds fits e)
    range conv32 o

-- ---- read until 9

-- no message can be read, and fewer than 128 segments are ready
pub record Nine (r : Receiving) : Type 0 where
  pub unread : readable r.ready ≡ false
  pub few : length r.ready < receive_window

-- a read that gives 9
pub nine_given : (c : Settings) (s : Station) (room : ℕ) → ReceivingIsValid c s.state.receiving
    → (own s (Call.read room)).answer ≡ Reply.refused NoMessage → Nine (own s (Call.read room)).station.state.receiving
unfolding reading
nine_given c s room v = go (readable r) refl (leb (message_size s.state.receiving) room)
  where
    r : List Held
    r = s.state.receiving.ready

    result : Reads
    result = record { state = with_receiving s.state (after_read s.state.receiving); bytes = message s.state s.receive_pool }

    y : Bool → Bool → Stepped
    y a b = after_reading s (cond a (cond b (Outcome.done result) (Outcome.refused ShortPart)) (Outcome.refused NoMessage))

    go : (a : Bool) → readable r ≡ a → (b : Bool) → (y a b).answer ≡ Reply.refused NoMessage
        → Nine (y a b).station.state.receiving
    go true p true h = absurd (let z : ◌≡◌ {A = ℕ} 0 1 = cc in omega arith)
    go true p false h = absurd (let z : ◌≡◌ {A = ℕ} 0 1 = cc in omega arith)
    go false p b h = record { unread = p; few = half_below_window c s.state.receiving v p }

-- it stays so while nothing is taken in
pub nine_stays : (s : Station) (x : Call) → TakesOneOf [] x → Nine s.state.receiving → Nine (own s x).station.state.receiving
nine_stays s x none n = rw (ap (λ (y : Receiver). y.half) (own_receiver s x)) (go x none)
  where
    flushed : (b : Bool) → Nine (cond b (receiver_flushed (receiver_of s)) (receiver_of s)).half
    flushed true = record { unread = n.unread; few = n.few }
    flushed false = n

    go : (x : Call) → TakesOneOf [] x → Nine (receiver_after s.state.settings s.state.schedule (receiver_of s) x).half
    go (Call.send m) none = n
    go (Call.take_in d) none = absurd (Memᴰ.not-nil none)
    go (Call.flush t) none = flushed true
    go (Call.read room) none = rw n.unread n
    go (Call.update t) none = flushed (updated s.state.schedule t s.state.settings.interval).flushes
    go (Call.check t) none = n

-- while fewer than 128 are ready, rcv_nxt does not wait
front_not_waiting : (c : Settings) (r : Receiving) → ReceivingIsValid c r → r.next < 2 ^ 32 → length r.ready < receive_window
    → occurs r.next (waiting_numbers r.waiting) ≡ false
unfolding occurs
front_not_waiting c r v small few =
    start r.waiting (ascending_ascends (waiting_offset r.next) receive_window r.waiting v.ascending) (v.settles few)
  where
    none : (least : ℕ) (l : List Waiting) → 0 < least → Ascends (waiting_offset r.next) least receive_window l
        → occurs r.next (waiting_numbers l) ≡ false
    none least [] h a = refl
    none least (w ∷ l) h a = go (eqb r.next w.number) refl (none (waiting_offset r.next w + 1) l (omega arith) a.2)
      where
        go : (b : Bool) → eqb r.next w.number ≡ b → occurs r.next (waiting_numbers l) ≡ false
            → (b || occurs r.next (waiting_numbers l)) ≡ false
        go true e i = absurd (omega (arith, eqb-true r.next w.number e, a.0))
        go false e i = i

    start : (l : List Waiting) → Ascends (waiting_offset r.next) 0 receive_window l → (StartsAt r.next l → ⊥)
        → occurs r.next (waiting_numbers l) ≡ false
    start [] a s = refl
    start (w ∷ l) a s = go (eqb r.next w.number) refl (none (waiting_offset r.next w + 1) l (omega arith) a.2)
      where
        go : (b : Bool) → eqb r.next w.number ≡ b → occurs r.next (waiting_numbers l) ≡ false
            → (b || occurs r.next (waiting_numbers l)) ≡ false
        go true e i = absurd (s (omega (arith, eqb-true r.next w.number e)))
        go false e i = i

-- of a station in order
module _ (c : Settings) (s : Station) (o : InOrder c s) (few : length s.state.receiving.ready < receive_window) where
  abbrev half : Receiving
  half = s.state.receiving

  next_not_waiting : occurs half.next (waiting_numbers half.waiting) ≡ false
  next_not_waiting =
      front_not_waiting c half ((receiving_decides c half).holds o.receives.valid) o.receives.fits.carries.next few

  next_not_had : has half half.next ≡ false
  next_not_had = rw (le-ltb half.next half.next (le_refl half.next)) next_not_waiting

-- ---- arrivals

module _ (c : Settings) (range : in_range c ≡ true) (conv32 : c.conv < 2 ^ 32) where
  -- by the station's own name of the settings
  parses_in : (s : Station) → InOrder c s → (d : List ℕ) (gs : List Segment) → parse c.conv (mss c) d ≡ Parsed.segments gs
      → parse s.state.settings.conv (mss s.state.settings) d ≡ Parsed.segments gs
  parses_in s o d gs e = rw o.sends.settings e

  -- an end writes
  joint_writes : (a b : Station) (by_a by_b : List (List ℕ)) (x : Call) (ds : List (List ℕ)) → CallFits x
      → (own a x).answer ≡ Reply.wrote ds → FewPushes c ds → Joint c a by_a b by_b → Joint c (own a x).station (by_a ++ ds) b by_b
  joint_writes a b by_a by_b x ds fits e few j =
      rw e at (joint_step c range conv32 a b by_a by_b x fits ((is_flush a x ds fits e).takes_none by_b) (rw e few) j)

  -- an end takes in one datagram of the other one, and some of them
  joint_takes : (a b : Station) (by_a by_b : List (List ℕ)) (d : List ℕ) → AllBytes d → Memᴰ d by_b → Joint c a by_a b by_b
      → Joint c (own a (Call.take_in d)).station by_a b by_b
  joint_takes a b by_a by_b d bytes m j =
      rw (take_writes_none a d, append-nil) at
      (joint_step c range conv32 a b by_a by_b (Call.take_in d) bytes m (rw (take_writes_none a d) tt) j)

  joint_fed : (ds : List (List ℕ)) (a b : Station) (by_a by_b : List (List ℕ)) → All AllBytes ds
      → All (λ (d : List ℕ). Memᴰ d by_b) ds → Joint c a by_a b by_b → Joint c (fed a ds) by_a b by_b
  unfolding fed
  joint_fed [] a b by_a by_b bytes m j = j
  joint_fed (d ∷ ds) a b by_a by_b bytes m j =
      joint_fed ds (own a (Call.take_in d)).station b by_a by_b bytes.1 m.1 (joint_takes a b by_a by_b d bytes.0 m.0 j)

  -- ---- at the receiver r, from the pusher q

  one_arrives : (d : List ℕ) (r q : Station) (by_r by_q : List (List ℕ)) → Memᴰ d by_q → Joint c r by_r q by_q
      → TookAll q.state.sending.next r.state.receiving (own r (Call.take_in d)).station.state.receiving
  one_arrives d r q by_r by_q m j =
      let N : ℕ = q.state.sending.next in
      let x : Carries c (Pushes N) d = member (Carries c (Pushes N)) by_q m j.ba.pushes in
      let rcv : Receiver = record { half = r.state.receiving; pool = r.receive_pool } in
      rw (taken_receiving r d x.segments (parses_in r j.in_order_a d x.segments x.parses))
      (all_had (mss r.state.settings) N j.ba.low x.segments rcv j.ba.known x.each)

  all_arrive : (ds : List (List ℕ)) (r q : Station) (by_r by_q : List (List ℕ)) → All AllBytes ds
      → All (λ (d : List ℕ). Memᴰ d by_q) ds → Joint c r by_r q by_q
      → TookAll q.state.sending.next r.state.receiving (fed r ds).state.receiving
  unfolding fed
  all_arrive [] r q by_r by_q bytes m j = took_all_none q.state.sending.next r.state.receiving j.ba.known
  all_arrive (d ∷ ds) r q by_r by_q bytes m j =
      let r₁ : Station = (own r (Call.take_in d)).station in
      took_all_then q.state.sending.next r.state.receiving r₁.state.receiving (fed r₁ ds).state.receiving
      (one_arrives d r q by_r by_q m.0 j)
      (all_arrive ds r₁ q by_r by_q bytes.1 m.1 (joint_takes r q by_r by_q d bytes.0 m.0 j))

  -- a push not past rcv_nxt is had afterwards, and an ack is noted
  one_goes_in : (u : ℕ) (d : List ℕ) (r q : Station) (by_r by_q : List (List ℕ)) → Memᴰ d by_q → Joint c r by_r q by_q
      → u ≤ r.state.receiving.next → occurs u (pushes_in c d) ≡ true
      → (has (own r (Call.take_in d)).station.state.receiving u ≡ true)
      × (0 < length (own r (Call.take_in d)).station.state.receiving.acks)
  unfolding pushes_in
  one_goes_in u d r q by_r by_q m j l e =
      let N : ℕ = q.state.sending.next in
      let x : Carries c (Pushes N) d = member (Carries c (Pushes N)) by_q m j.ba.pushes in
      let rcv : Receiver = record { half = r.state.receiving; pool = r.receive_pool } in
      rw (taken_receiving r d x.segments (parses_in r j.in_order_a d x.segments x.parses))
      (goes_in (mss r.state.settings) N j.ba.low u x.segments rcv j.ba.known x.each l (rw x.parses at e))

  push_arrives : (u : ℕ) (it : List ℕ) (ds : List (List ℕ)) (r q : Station) (by_r by_q : List (List ℕ)) → Memᴰ it ds
      → occurs u (pushes_in c it) ≡ true → All AllBytes ds → All (λ (d : List ℕ). Memᴰ d by_q) ds → Joint c r by_r q by_q
      → u ≤ r.state.receiving.next
      → (has (fed r ds).state.receiving u ≡ true) × (0 < length (fed r ds).state.receiving.acks)
  unfolding fed
  push_arrives u it [] r q by_r by_q n h bytes m j l = elim n [ ]
  push_arrives u it (d ∷ ds) r q by_r by_q (Memᴰ.head e) h bytes m j l =
      let r₁ : Station = (own r (Call.take_in d)).station in
      let x = one_goes_in u d r q by_r by_q m.0 j l (rw e at h) in
      let i : TookAll q.state.sending.next r₁.state.receiving (fed r₁ ds).state.receiving =
      all_arrive ds r₁ q by_r by_q bytes.1 m.1 (joint_takes r q by_r by_q d bytes.0 m.0 j) in
      (i.took.preserves u x.0, omega (arith, x.1, i.more))
  push_arrives u it (d ∷ ds) r q by_r by_q (Memᴰ.tail n) h bytes m j l =
      let r₁ : Station = (own r (Call.take_in d)).station in
      let i : TookAll q.state.sending.next r.state.receiving r₁.state.receiving = one_arrives d r q by_r by_q m.0 j in
      push_arrives u it ds r₁ q by_r by_q n h bytes.1 m.1 (joint_takes r q by_r by_q d bytes.0 m.0 j)
      (omega (arith, l, i.took.up))

  -- a number that is pushed was given out
  pushed_under : (N u : ℕ) (d : List ℕ) → Carries c (Pushes N) d → occurs u (pushes_in c d) ≡ true → u < N
  unfolding pushes_in push_numbers occurs
  pushed_under N u d x e = go x.segments x.each (rw x.parses at e)
    where
      go : (gs : List Segment) → All (Pushes N) gs → occurs u (push_numbers gs) ≡ true → u < N
      go [] a e = absurd (false≢true e)
      go (g ∷ gs) a e = at (eqb g.header.cmd push) refl e (go gs a.1)
        where
          at : (t : Bool) → eqb g.header.cmd push ≡ t
              → occurs u (cond t (g.header.sn ∷ push_numbers gs) (push_numbers gs)) ≡ true
              → (occurs u (push_numbers gs) ≡ true → u < N) → u < N
          at false q e later = later e
          at true q e later = one (eqb u g.header.sn) refl e
            where
              one : (b : Bool) → eqb u g.header.sn ≡ b → (b || occurs u (push_numbers gs)) ≡ true → u < N
              one true f z = omega (arith, eqb-true u g.header.sn f, a.0 (eqb-true g.header.cmd push q))
              one false f z = later z

  -- ---- at the pusher a

  abbrev NoneBelow : ℕ → Station → Type 0
  NoneBelow v a = All (λ (n : ℕ). v ≤ n) (numbers_of a.state.sending.outstanding)

  -- a datagram with una v leaves nothing below v, and no later one of these changes that
  module _ (v : ℕ) (d : List ℕ) (a : Station) (o : InOrder c a) (x : Carries c (Una v) d) where
    reads_so : parse a.state.settings.conv (mss a.state.settings) d ≡ Parsed.segments x.segments
    reads_so = parses_in a o d x.segments x.parses

    floor_one : (b : Station) (by_a by_b : List (List ℕ)) → Joint c a by_a b by_b → v ≤ a.state.sending.next
        → NoneBelow v (own a (Call.take_in d)).station
    floor_one b by_a by_b j l =
        rw (taken_numbers a d x.segments reads_so)
        (floor_all a.state.settings a.state.current v x.segments a.state.sending x.some j.ab.low l x.each
        j.ab.under)

    floor_stays : NoneBelow v a → NoneBelow v (own a (Call.take_in d)).station
    floor_stays f =
        rw (taken_numbers a d x.segments reads_so)
        (all_preserved a.state.settings a.state.current (λ (n : ℕ). v ≤ n) x.segments a.state.sending f)

    next_stays : (own a (Call.take_in d)).station.state.sending.next ≡ a.state.sending.next
    next_stays = taken_next a d x.segments reads_so

  record Floor (v : ℕ) (a a' : Station) : Type 0 where
    floor : All (λ (n : ℕ). v ≤ n) (numbers_of a'.state.sending.outstanding)
    next : a'.state.sending.next ≡ a.state.sending.next

  floor_preserved : (v : ℕ) (ds : List (List ℕ)) (a b : Station) (by_a by_b : List (List ℕ)) → All AllBytes ds
      → All (λ (d : List ℕ). Memᴰ d by_b) ds → All (Carries c (Una v)) ds → Joint c a by_a b by_b → NoneBelow v a → Floor v a (fed a ds)
  unfolding fed
  floor_preserved v [] a b by_a by_b bytes m x j f = record { floor = f; next = refl }
  floor_preserved v (d ∷ ds) a b by_a by_b bytes m x j f =
      let a₁ : Station = (own a (Call.take_in d)).station in
      let o = j.in_order_a in
      let i =
      floor_preserved v ds a₁ b by_a by_b bytes.1 m.1 x.1 (joint_takes a b by_a by_b d bytes.0 m.0 j)
      (floor_stays v d a o x.0 f) in
      record { floor = i.floor; next = i.next ∙ next_stays v d a o x.0 }

  floor_fed : (v : ℕ) (ds : List (List ℕ)) (a b : Station) (by_a by_b : List (List ℕ)) → 0 < length ds → v ≤ a.state.sending.next
      → All AllBytes ds → All (λ (d : List ℕ). Memᴰ d by_b) ds → All (Carries c (Una v)) ds → Joint c a by_a b by_b
      → Floor v a (fed a ds)
  unfolding fed
  floor_fed v [] a b by_a by_b some l bytes m x j = absurd (omega arith)
  floor_fed v (d ∷ ds) a b by_a by_b some l bytes m x j =
      let a₁ : Station = (own a (Call.take_in d)).station in
      let o = j.in_order_a in
      let i =
      floor_preserved v ds a₁ b by_a by_b bytes.1 m.1 x.1 (joint_takes a b by_a by_b d bytes.0 m.0 j)
      (floor_one v d a o x.0 b by_a by_b j l) in
      record { floor = i.floor; next = i.next ∙ next_stays v d a o x.0 }

  -- ---- the round trip

  some_arrive : (ds arrivals : List (List ℕ)) → 0 < length ds → All (λ (d : List ℕ). Memᴰ d arrivals) ds → 0 < length arrivals
  some_arrive [] arrivals h a = absurd (omega arith)
  some_arrive (d ∷ ds) [] h a = absurd (Memᴰ.not-nil a.0)
  some_arrive (d ∷ ds) (x ∷ arrivals) h a = omega arith

  -- what holds of each datagram holds of each arrival
  each_arrival : (P : List ℕ → Type 0) (ds arrivals : List (List ℕ)) → All P ds → All (λ (d : List ℕ). Memᴰ d ds) arrivals
      → All P arrivals
  each_arrival P ds arrivals a = all_weaker (λ (d : List ℕ). Memᴰ d ds) P (λ d m. member P ds m a) arrivals

  -- arrivals are among all that was written
  among : (by ds arrivals : List (List ℕ)) → All (λ (d : List ℕ). Memᴰ d ds) arrivals
      → All (λ (d : List ℕ). Memᴰ d (by ++ ds)) arrivals
  among by ds = all_weaker (λ (d : List ℕ). Memᴰ d ds) (λ (d : List ℕ). Memᴰ d (by ++ ds)) (λ d m. Memᴰ.append_right by m)

  -- the sender a writes ds by the call x, which arrive at the receiver b as `there`; b then writes ds' by the call x', which arrive at a
  -- as `back`
  module _ (a b : Station) (by_a by_b : List (List ℕ)) (x x' : Call) (ds ds' there back : List (List ℕ))
      (j : Joint c a by_a b by_b) (nine : Nine b.state.receiving)
      (fits : CallFits x) (fits' : CallFits x') (bytes : All AllBytes there) (bytes' : All AllBytes back)
      (writes : (own a x).answer ≡ Reply.wrote ds) (writes' : (own (fed b there) x').answer ≡ Reply.wrote ds')
      (All_there : AllArrive ds there) (all_back : AllArrive ds' back)
      (few : FewPushes c ds) (few' : FewPushes c ds') (out : GoesOut c a.state.sending.una ds) where
    -- the sender after its flush
    abbrev a₁ : Station
    a₁ = (own a x).station

    j₁ : Joint c a₁ (by_a ++ ds) b by_b
    j₁ = joint_writes a b by_a by_b x ds fits writes few j

    abbrev N : ℕ
    N = (own a x).station.state.sending.next

    abbrev u : ℕ
    u = a.state.sending.una

    low : N ≤ 2 ^ 30
    low = j₁.ab.low

    -- the segment was given out
    below : u < N
    below =
        pushed_under N u out.it (member (Carries c (Pushes N)) (by_a ++ ds) (Memᴰ.append_right by_a out.one_of) j₁.ab.pushes)
        out.has_it

    abbrev r : ℕ
    r = b.state.receiving.next

    abbrev numbers₁ : List ℕ
    numbers₁ = numbers_of (own a x).station.state.sending.outstanding

    ordered : Numbers u N a₁.state.sending.outstanding
    ordered = rw (flush_preserves_una a x (is_flush a x ds fits writes)) at (half_in c a₁ j₁.in_order_a.sends).numbers

    -- it is not past rcv_nxt: the segment numbered rcv_nxt is not had, so it is outstanding or not given out
    not_past : u ≤ r
    not_past = go (ltb r N) refl
      where
        outstanding : (occurs r numbers₁ ≡ true) ⊎ (has b.state.receiving r ≡ true) → occurs r numbers₁ ≡ true
        outstanding (inl p) = p
        outstanding (inr p) = absurd (false≢true (sym (next_not_had c b j.in_order_b nine.few) ∙ p))

        go : (t : Bool) → ltb r N ≡ t → u ≤ r
        go false e = omega (arith, below, ltb-false r N e)
        go true e =
            una_least u N r a₁.state.sending.outstanding (omega (arith, below, low))
            (all_weaker (λ (n : ℕ). n < N) (λ (n : ℕ). n < 2 ^ 30) (λ n h. omega (arith, low)) numbers₁ j₁.ab.under)
            ordered
            (outstanding (or-true (occurs r numbers₁) (has b.state.receiving r) (j₁.ab.gone r (ltb-true r N e))))

    -- all arrive at the receiver
    from_a : All (λ (d : List ℕ). Memᴰ d (by_a ++ ds)) there
    from_a = among by_a ds there All_there.only

    abbrev b₁ : Station
    b₁ = fed b there

    s₁ : Joint c b₁ by_b a₁ (by_a ++ ds)
    s₁ = joint_fed there b a₁ by_b (by_a ++ ds) bytes from_a (exchanged j₁)

    arrived : TookAll N b.state.receiving b₁.state.receiving
    arrived = all_arrive there b a₁ by_b (by_a ++ ds) bytes from_a (exchanged j₁)

    got : (has b₁.state.receiving u ≡ true) × (0 < length b₁.state.receiving.acks)
    got =
        push_arrives u out.it there b a₁ by_b (by_a ++ ds)
        (member (λ (d : List ℕ). Memᴰ d there) ds out.one_of All_there.all)
        out.has_it bytes from_a (exchanged j₁) not_past

    abbrev v : ℕ
    v = (fed b there).state.receiving.next

    -- rcv_nxt has passed it
    past : u < v
    past = go (ltb u v) refl (or-true (ltb u v) (occurs u (waiting_numbers b₁.state.receiving.waiting)) got.0)
      where
        go : (t : Bool) → ltb u v ≡ t → (ltb u v ≡ true) ⊎ (occurs u (waiting_numbers b₁.state.receiving.waiting) ≡ true) → u < v
        go true e p = ltb-true u v e
        go false e (inl p) = absurd (false≢true (sym e ∙ p))
        go false e (inr p) =
            let same : v ≡ u = omega (arith, ltb-false u v e, not_past, arrived.took.up) in
            let still : length b₁.state.receiving.ready < receive_window =
            omega (arith, nine.few, arrived.took.level, same, not_past, arrived.took.up) in
            absurd (true≢false
            (sym p
            ∙ ap (λ (n : ℕ). occurs n (waiting_numbers b₁.state.receiving.waiting)) (sym same)
            ∙ next_not_waiting c b₁ s₁.in_order_a still))

    -- the receiver's flush
    abbrev b₂ : Station
    b₂ = (own (fed b there) x').station

    s₂ : Joint c b₂ (by_b ++ ds') a₁ (by_a ++ ds)
    s₂ = joint_writes b₁ a₁ by_b (by_a ++ ds) x' ds' fits' writes' few' s₁

    v_low : v ≤ N
    v_low = known_next N b₁.state.receiving s₁.ba.known

    answers : Answers c b₁ ds'
    answers = flush_answers c range conv32 b₁ s₁.in_order_a x' ds' fits' writes'

    -- all arrive at the sender
    from_b : All (λ (d : List ℕ). Memᴰ d (by_b ++ ds')) back
    from_b = among by_b ds' back all_back.only

    abbrev a₂ : Station
    a₂ = fed (own a x).station back

    abbrev una₂ : ℕ
    una₂ = (fed (own a x).station back).state.sending.una

    abbrev numbers₂ : List ℕ
    numbers₂ = numbers_of (fed (own a x).station back).state.sending.outstanding

    j₂ : Joint c a₂ (by_a ++ ds) b₂ (by_b ++ ds')
    j₂ = joint_fed back a₁ b₂ (by_a ++ ds) (by_b ++ ds') bytes' from_b (exchanged s₂)

    floor_back : Floor v a₁ a₂
    floor_back =
        floor_fed v back a₁ b₂ (by_a ++ ds) (by_b ++ ds') (some_arrive ds' back (answers.some got.1) all_back.all) v_low bytes' from_b
        (each_arrival (Carries c (Una v)) ds' back answers.una all_back.only)
        (exchanged s₂)

    ordered₂ : Numbers una₂ a₂.state.sending.next a₂.state.sending.outstanding
    ordered₂ = (half_in c a₂ j₂.in_order_a.sends).numbers

    reached : v ≤ una₂
    reached =
        una_is (λ (n : ℕ). v ≤ n) una₂ a₂.state.sending.next a₂.state.sending.outstanding ordered₂ floor_back.floor
        (rw floor_back.next v_low)

    high : una₂ ≤ 2 ^ 30
    high =
        una_is (λ (n : ℕ). n ≤ 2 ^ 30) una₂ a₂.state.sending.next a₂.state.sending.outstanding ordered₂
        (all_weaker (λ (n : ℕ). n < a₂.state.sending.next) (λ (n : ℕ). n ≤ 2 ^ 30) (λ n h. omega (arith, j₂.ab.low)) numbers₂
        j₂.ab.under)
        j₂.ab.low

    -- ONE GOOD ROUND TRIP between stations
    pub passed : Passed a.state.sending.una (fed (own a x).station back).state.sending.una
    passed = record {
      greater = omega (arith, past, reached);
      after =
          after_small una₂ u (omega (arith, high)) (omega (arith, past, reached, high))
          ∙ lt-ltb u una₂ (omega (arith, past, reached));
    }
