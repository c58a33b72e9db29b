-- What a segment makes of the segments in flight is what the definition makes of the sending half.
-- Assumes nothing.
use mathlib.Core.Path.{◌≡◌, refl, ap, ◌∙◌}
use mathlib.Core.Bool.{Bool, true, false, cond}
use mathlib.Core.List.{List, [], ◌∷◌}
use Prim.Native.Nat.{ℕ, zero, suc, ◌+◌, ◌^◌, ◌<◌}
use native.Mathlib.Omega.{arith}
use borrow.Author.Tests.{eq-eqb, ne_eqb, lt-ltb}
use lib.Dec.{ltb, eqb}
use lib.ListN.{length, get_or}
use Rattle.protocol.specs.Protocol.{ack}
use Rattle.protocol.specs.Serial.{minus, is_due}
use Rattle.protocol.specs.declared.Settings.{Settings}
use Rattle.wire.specs.declared.Header.{Header}
use Rattle.timing.specs.RoundTrips.{sampled}
use Rattle.timing.specs.declared.Record.{Record}
use Rattle.timing.specs.declared.RoundTrip.{RoundTrip}
use Rattle.lists.specs.Joining.{joined}
use Rattle.lists.specs.Orders.{sent_offset}
use Rattle.lists.specs.Acknowledging.{select, filter, first_number_or}
use Rattle.lists.specs.declared.Sent.{Sent}
use Rattle.lists.specs.declared.Acknowledges.TheVariants as by
use Rattle.session.specs.State.{Sending, with_outstanding, with_window, with_round_trip}
use Rattle.session.specs.Input.{acknowledged, sampled_by, heard_by_sending}
use Rattle.session.specs.HeardLaws.{heard_outstanding, heard_una}
use Rattle.session.specs.Decides.{All}
use Rattle.session.specs.Ascending.{Ascends}
use Rattle.session.specs.SendOrder.{NumberFits, Numbers, numbers_select}
use Rattle.session.specs.AllLaws.{all_select}
use Rattle.words.specs.Words.{paired, outstanding_in}
use Rattle.control.specs.declared.Flight.{Flight}
use Rattle.acknowledge.specs.Flights.{View, view, sent_in, half_with, JoinedIn, InOrder, FlightIs}
use Rattle.acknowledge.specs.Hearing.{stays_by, Concerns, timed_by}

-- ---- the round trip

module _ (c : Settings) (current : ℕ) (h : Header) (rtt : RoundTrip) where
  pub timed_ack : (r : RoundTrip) → h.cmd ≡ 82 → is_due current h.ts ≡ true → r ≡ sampled rtt c (minus current h.ts)
      → r ≡ timed_by c current h rtt
  unfolding timed_by
  timed_ack r e d q = rw (eq-eqb h.cmd 82 e, d) q

  pub timed_late : h.cmd ≡ 82 → is_due current h.ts ≡ false → rtt ≡ timed_by c current h rtt
  unfolding timed_by
  timed_late e d = rw (eq-eqb h.cmd 82 e, d)

  pub timed_other : (h.cmd ≡ 82 → ⊥) → rtt ≡ timed_by c current h rtt
  unfolding timed_by
  timed_other e = rw (ne_eqb h.cmd 82 e)

-- ---- a segment

-- the definition's segment: the window is taken, and an ack may bring a sample
rest_parts : (c : Settings) (current : ℕ) (s : Sending) (h : Header) → let x = heard_by_sending c current s h in
    x ≡ with_round_trip (with_window h.wnd (with_outstanding s x.una x.outstanding)) (timed_by c current h s.round_trip)
unfolding heard_by_sending acknowledged sampled_by timed_by
rest_parts c current s h = go (eqb h.cmd ack)
  where
    passed : Sending
    passed = acknowledged (by.Una h.una) (with_window h.wnd s)

    go : (t : Bool) → let x = cond t (acknowledged (by.Ack h.sn) (sampled_by c current h.ts passed)) passed in
        x ≡ with_round_trip (with_window h.wnd (with_outstanding s x.una x.outstanding))
        (cond t (cond (is_due current h.ts) (sampled s.round_trip c (minus current h.ts)) s.round_trip) s.round_trip)
    go true = refl
    go false = refl

-- its parts apart
heard_parts : (c : Settings) (current : ℕ) (s : Sending) (h : Header) → let left = filter (stays_by s.next h) s.outstanding in
    heard_by_sending c current s h
    ≡ with_round_trip (with_window h.wnd (with_outstanding s (first_number_or left s.next) left)) (timed_by c current h s.round_trip)
heard_parts c current s h = rw (← (heard_outstanding c current s h), ← (heard_una c current s h)) (rest_parts c current s h)

-- ---- what the code makes of the segments in flight

-- the first number, by the count
pub first_is : (ws ts : List ℕ) (rs : List Record) (n next : ℕ) (d : Record) → length ws ≡ 32 → length ts ≡ 32 → length rs ≡ 32
    → cond (ltb 0 n) (get_or rs 0 d).number next ≡ first_number_or (joined (outstanding_in ws ts n) rs) next
unfolding first_number_or joined paired
first_is ws ts rs zero next d e f g = refl
first_is [] ts rs (suc n) next d e f g = absurd (omega arith)
first_is (w ∷ ws) [] rs (suc n) next d e f g = absurd (omega arith)
first_is (w ∷ ws) (t ∷ ts) [] (suc n) next d e f g = absurd (omega arith)
first_is (w ∷ ws) (t ∷ ts) (r ∷ rs) (suc n) next d e f g = rw (lt-ltb 0 (suc n) (omega arith))

module _ (c : Settings) (current : ℕ) (v : View) (h : Header) (rtt : RoundTrip) (e : rtt ≡ timed_by c current h v.flight.rtt) where
  -- the flight after it, with these numbers
  abbrev after : ℕ → ℕ → Flight
  after una n =
      record {
        una = una;
        next = v.flight.next;
        rtt = rtt;
        window = h.wnd;
        congestion = v.flight.congestion;
        queued = v.flight.queued;
        outstanding = n;
      }

  -- those that stay are left
  pub heard_some : (ws ts : List ℕ) (n : ℕ) (rs : List Record) (una : ℕ)
      → JoinedIn ws ts n rs (filter (stays_by v.flight.next h) (sent_in v))
      → una ≡ first_number_or (filter (stays_by v.flight.next h) (sent_in v)) v.flight.next
      → FlightIs (view (after una n) ws ts rs) v (λ s. heard_by_sending c current s h)
  heard_some ws ts n rs una l first =
      record {
        whole = l.whole;
        wholes = l.wholes;
        fits = l.fits;
        queue = refl;
        half = λ q. rw (heard_parts c current _ h, first, l.list, e);
      }

  -- all stay
  pub heard_none : InOrder v → filter (stays_by v.flight.next h) (sent_in v) ≡ sent_in v
      → FlightIs (view (after v.flight.una v.flight.outstanding) v.words v.transmissions v.records) v
      (λ s. heard_by_sending c current s h)
  heard_none o k =
      record {
        whole = o.whole;
        wholes = o.wholes;
        fits = o.fits;
        queue = refl;
        half = λ q. rw (heard_parts c current _ h, e, k, o.numbers.first);
      }

-- ---- the numbers

-- where a segment concerns no number, all stay
pub all_stay : (h : Header) (una next : ℕ) (r : Bool) → Concerns h una next r → r ≡ false → (l : List Sent) → All NumberFits l
    → Numbers una next l → filter (stays_by next h) l ≡ l
unfolding select
all_stay h una next r k e l fit o = go 0 l fit o.ascends
  where
    go : (least : ℕ) (l : List Sent) → All NumberFits l → Ascends (sent_offset una) least (minus next una) l → filter (stays_by next h) l ≡ l
    go least [] fit a = refl
    go least (x ∷ l) fit a = rw (k.none e o.apart x.record.number fit.0 a.1, go (sent_offset una x + 1) l fit.1 a.2)

-- what holds at each segment: the numbers are in order, and of 32 bits
pub record Ordered (v : View) : Type 0 where
  pub order : InOrder v
  pub fit : All NumberFits (sent_in v)
  pub next32 : v.flight.next < 2 ^ 32

first_fits : (l : List Sent) (n : ℕ) → All NumberFits l → n < 2 ^ 32 → first_number_or l n < 2 ^ 32
unfolding first_number_or
first_fits [] n a h = h
first_fits (x ∷ l) n a h = a.0

-- it holds after a segment
pub heard_order : (c : Settings) (current : ℕ) (v' v : View) (h : Header) → FlightIs v' v (λ s. heard_by_sending c current s h) → Ordered v
    → Ordered v'
heard_order c current v' v h f o =
    let p = f.half [] ∙ heard_parts c current (half_with [] v) h in
    let left : sent_in v' ≡ filter (stays_by v.flight.next h) (sent_in v) = ap (λ (s : Sending). s.outstanding) p in
    let una : v'.flight.una ≡ first_number_or (filter (stays_by v.flight.next h) (sent_in v)) v.flight.next =
    ap (λ (s : Sending). s.una) p in
    let next : v'.flight.next ≡ v.flight.next = ap (λ (s : Sending). s.next) p in
    let fit : All NumberFits (filter (stays_by v.flight.next h) (sent_in v)) =
    all_select (λ (x : Sent). stays_by v.flight.next h x.record.number) NumberFits (sent_in v) o.fit in
    let low : v.flight.una < 2 ^ 32 = rw o.order.numbers.first at (first_fits (sent_in v) v.flight.next o.fit o.next32) in
    record {
      order = record {
        whole = f.whole;
        wholes = f.wholes;
        fits = f.fits;
        numbers = rw (una, next, left) (numbers_select (λ (x : Sent). stays_by v.flight.next h x.record.number) v.flight.una
            v.flight.next (sent_in v) low o.next32 fit o.order.numbers);
      };
      fit = rw left fit;
      next32 = rw next o.next32;
    }
