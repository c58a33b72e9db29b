-- What a call does to the receiving half and its pool, and that every call leaves them valid and in range, whatever bytes it takes in.
-- Assumes nothing.
use Rattle.std.specs.Prelude.{◌≡◌, refl, Bool, true, false, cond, ◌&&◌, List, [], ◌∷◌, ℕ, ◌*◌, ◌^◌, ◌≤◌, ◌<◌, leb, ltb, length}
use Rattle.std.proofs.Common.{sym, ap, ◌∙◌, subst, zero-le, arith, leb-true}
use Rattle.std.proofs.Math.Bool.{and_assoc}
use Rattle.protocol.specs.Protocol.{send_slots, fragment_most, receive_slots, receive_window, acks_most, output_least}
use Rattle.protocol.specs.Ranges.{mss}
use Rattle.protocol.specs.declared.Settings.{Settings}
use Rattle.datagram.specs.Datagrams.{Parsed, parse}
use Rattle.lists.specs.declared.Held.{Held}
use Rattle.lists.specs.declared.Waiting.{Waiting}
use Rattle.lists.specs.Orders.{ascending, waiting_offset}
use Rattle.timing.specs.Choices.{either_way}
use Rattle.schedule.specs.Schedules.{updated}
use Rattle.schedule.specs.declared.Schedule.{Schedule}
use Rattle.session.specs.State.{State, Receiving, Outcome, receive_held, slots, with_notes}
use Rattle.sizes.specs.Sizes.{enough, enough_to_flush}
use Rattle.sizes.specs.declared.Lengths.{Lengths}
use Rattle.lists.specs.Receiving.{starts_at}
use Rattle.session.specs.Valid.{all, once, held_fits, waiting_fits, settled, receiving_valid}
use Rattle.session.specs.Opening.{opened}
use Rattle.session.specs.Sending.{Sends}
use Rattle.session.specs.Flushing.{flushing}
use Rattle.session.specs.Input.{Receiver, all_by_receiving, taking, applied, input}
use Rattle.session.specs.Reading.{readable, message_size, reading}
use Rattle.session.specs.Updating.{updating}
use Rattle.session.specs.Calls.{Station, Call, Stepped, lengths_of, after_send, after_take_in, own, after}
use Rattle.session.specs.Decides.{Decides, All, leb_decides, ltb_decides, not_decides, and_decides, via, all_decides, and_parts}
use Rattle.session.specs.AllLaws.{all_both, all_weaker}
use Rattle.delivery.specs.Hearing.{CallFits}
use Rattle.delivery.specs.Stations.{Opened}
use Rattle.delivery.specs.Passing.{Passing}
use Rattle.delivery.specs.PassingLaws.{after_first}
use Rattle.delivery.specs.HeaderRange.{Each}
use Rattle.delivery.specs.CallCases.{sending_cases, own_cases}
use Rattle.delivery.specs.SendingStays.{own_settings, own_send_pool}
use Rattle.delivery.specs.StateRange.{CarryFits}
use Rattle.delivery.specs.CarryLaws.{carry_stays}
use Rattle.delivery.specs.ParsedLaws.{SegmentFits, parse_fits}
use Rattle.delivery.specs.ReceivePool.{HeldFits, Good, took_all, took_pool, read_from, read_good}

-- the numbers of a receiving half have 32 bits: rcv_nxt and the acks (`CarryFits`), and those that wait
pub record ReceivingFits (r : Receiving) : Type 0 where
  pub carries : CarryFits r
  pub waiting : All (λ (w : Waiting). w.number < 2 ^ 32) r.waiting

-- what every call preserves of the receiving half and its pool
pub record ReceivingInOrder (c : Settings) (s : Station) : Type 0 where
  pub settings : s.state.settings ≡ c
  pub long : receive_slots * mss c ≤ length s.receive_pool
  pub valid : receiving_valid c s.state.receiving ≡ true
  pub fits : ReceivingFits s.state.receiving

-- ---- the conditions as the proofs use them

record Conditions (c : Settings) (r : Receiving) : Type 0 where
  held : All (HeldFits (mss c)) (receive_held r)
  slots_once : once (slots (receive_held r)) ≡ true
  few_ready : length r.ready ≤ receive_window
  window : ascending (waiting_offset r.next) 0 receive_window r.waiting ≡ true
  settles : (starts_at r.next r.waiting && ltb (length r.ready) receive_window) ≡ false
  few_acks_lem : length r.acks ≤ acks_most

-- a test that is its own statement
itself : (b : Bool) → Decides b (b ≡ true)
itself b = record { holds = λ e. e; passes = λ e. e }

abbrev Short : ℕ → Held → Type 0
Short m h = (h.len ≤ m) × (h.fragment ≤ fragment_most)

abbrev Low : Held → Type 0
Low h = h.slot < receive_slots

held_decide : (m : ℕ) (l : List Held)
    → Decides (all (held_fits m) l && all (λ (h : Held). ltb h.slot receive_slots) l) (All (HeldFits m) l)
held_decide m l =
    via
    (and_decides
    (all_decides (held_fits m) (Short m) (λ h. and_decides (leb_decides h.len m) (leb_decides h.fragment fragment_most)) l)
    (all_decides (λ (h : Held). ltb h.slot receive_slots) Low (λ h. ltb_decides h.slot receive_slots) l))
    (λ p. all_weaker (λ h. Short m h × Low h) (HeldFits m) (λ h q. record { short = q.0.0; fragment = q.0.1; low = q.1 }) l
    (all_both (Short m) Low l p.0 p.1))
    (λ a. (all_weaker (HeldFits m) (Short m) (λ h q. (q.short, q.fragment)) l a, all_weaker (HeldFits m) Low (λ h q. q.low) l a))

conditions : (c : Settings) (r : Receiving) → Decides (receiving_valid c r) (Conditions c r)
unfolding receiving_valid waiting_fits settled
conditions c r =
    rw (← and_assoc (all (held_fits (mss c)) (receive_held r)))
    (via
    (and_decides
    (and_decides
    (and_decides
    (and_decides (and_decides (held_decide (mss c) (receive_held r)) (itself (once (slots (receive_held r)))))
    (leb_decides (length r.ready) receive_window))
    (itself (ascending (waiting_offset r.next) 0 receive_window r.waiting)))
    (not_decides (starts_at r.next r.waiting && ltb (length r.ready) receive_window)))
    (leb_decides (length r.acks) acks_most))
    (λ p. record {
      held = p.0.0.0.0.0;
      slots_once = p.0.0.0.0.1;
      few_ready = p.0.0.0.1;
      window = p.0.0.1;
      settles = p.0.1;
      few_acks_lem = p.1;
    })
    (λ v. (((((v.held, v.slots_once), v.few_ready), v.window), v.settles), v.few_acks_lem)))

-- a station's receiving half with its pool
abbrev pub receiver_of : Station → Receiver
receiver_of s = record { half = s.state.receiving; pool = s.receive_pool }

pub good_in : (c : Settings) (s : Station) → ReceivingInOrder c s → Good (mss c) (receiver_of s)
good_in c s o =
    let v : Conditions c s.state.receiving = (conditions c s.state.receiving).holds o.valid in
    record {
      settles = record {
        sound = record {
          pool_long = o.long;
          held = v.held;
          slots_once = v.slots_once;
          few_ready = v.few_ready;
          next_small = o.fits.carries.next;
          numbers_small = o.fits.waiting;
          window = v.window;
        };
        settled = v.settles;
      };
      few_acks_lem = v.few_acks_lem;
    }

in_order : (c : Settings) (s : Station) → s.state.settings ≡ c → CarryFits s.state.receiving → Good (mss c) (receiver_of s)
    → ReceivingInOrder c s
in_order c s e f g =
    let x = g.settles.sound in
    record {
      settings = e;
      long = x.pool_long;
      valid =
          (conditions c s.state.receiving).passes
          (record {
            held = x.held;
            slots_once = x.slots_once;
            few_ready = x.few_ready;
            window = x.window;
            settles = g.settles.settled;
            few_acks_lem = g.few_acks_lem;
          });
      fits = record { carries = f; waiting = x.numbers_small };
    }

-- ---- what a call does to the receiving half and its pool

-- a datagram: nothing is applied unless all of it passes
abbrev pub receiver_takes : ℕ → Receiver → Parsed → Receiver
receiver_takes m x (Parsed.refused r) = x
receiver_takes m x (Parsed.segments gs) = all_by_receiving m x gs

-- a flush clears the acks and the wish to tell
abbrev pub receiver_flushed : Receiver → Receiver
receiver_flushed x = record { half = with_notes x.half [] false; pool = x.pool }

-- a read takes a message that is ready and fits its buffer
abbrev pub receiver_reads : Receiver → ℕ → Receiver
receiver_reads x room = cond (readable x.half.ready) (cond (leb (message_size x.half) room) (read_from x) x) x

-- a send and a check do not touch them; by the schedule k an update flushes, or leaves them
abbrev pub receiver_after : Settings → Schedule → Receiver → Call → Receiver
receiver_after c k x (Call.send m) = x
receiver_after c k x (Call.take_in d) = receiver_takes (mss c) x (parse c.conv (mss c) d)
receiver_after c k x (Call.flush t) = receiver_flushed x
receiver_after c k x (Call.read room) = receiver_reads x room
receiver_after c k x (Call.update t) = cond (updated k t c.interval).flushes (receiver_flushed x) x
receiver_after c k x (Call.check t) = x

take_receiver : (s : Station) (d : List ℕ)
    → receiver_of (own s (Call.take_in d)).station ≡ receiver_after s.state.settings s.state.schedule (receiver_of s) (Call.take_in d)
unfolding input applied
take_receiver s d = go (parse s.state.settings.conv (mss s.state.settings) d)
  where
    go : (p : Parsed) → receiver_of (after_take_in s (taking s.state s.receive_pool p)).station ≡ receiver_takes
        (mss s.state.settings) (receiver_of s) p
    go (Parsed.refused r) = refl
    go (Parsed.segments gs) = refl

read_receiver : (s : Station) (room : ℕ) → receiver_of (own s (Call.read room)).station ≡ receiver_reads (receiver_of s) room
unfolding reading
read_receiver s room = go (readable s.state.receiving.ready) refl (leb (message_size s.state.receiving) room) refl
  where
    go : (a : Bool) → readable s.state.receiving.ready ≡ a → (b : Bool) → leb (message_size s.state.receiving) room ≡ b
        → receiver_of (own s (Call.read room)).station ≡ receiver_reads (receiver_of s) room
    go true e true f = rw (e, f)
    go true e false f = rw (e, f)
    go false e b f = rw e

update_receiver : (s : Station) (t : ℕ)
    → receiver_of (own s (Call.update t)).station ≡ receiver_after s.state.settings s.state.schedule (receiver_of s) (Call.update t)
unfolding updating flushing
update_receiver s t = go (updated s.state.schedule t s.state.settings.interval).flushes refl
  where
    go : (b : Bool) → (updated s.state.schedule t s.state.settings.interval).flushes ≡ b
        → receiver_of (own s (Call.update t)).station
        ≡ receiver_after s.state.settings s.state.schedule (receiver_of s) (Call.update t)
    go true e = rw e
    go false e = rw e

pub own_receiver : (s : Station) (x : Call)
    → receiver_of (own s x).station ≡ receiver_after s.state.settings s.state.schedule (receiver_of s) x
unfolding flushing
own_receiver s (Call.send m) =
    sending_cases (λ (y : Outcome Sends). receiver_of (after_send s y).station ≡ receiver_of s) s.state s.send_pool m (λ r. refl)
    (λ ok. refl)
own_receiver s (Call.take_in d) = take_receiver s d
own_receiver s (Call.flush t) = refl
own_receiver s (Call.read room) = read_receiver s room
own_receiver s (Call.update t) = update_receiver s t
own_receiver s (Call.check t) = refl

-- ---- the lent lengths stay as they are

-- the receive pool is as long as before
pub own_receive_pool : (s : Station) (x : Call) → length (own s x).station.receive_pool ≡ length s.receive_pool
unfolding applied flushing
own_receive_pool s =
    own_cases (λ (x : Call) (y : Stepped). length y.station.receive_pool ≡ length s.receive_pool) s
    (λ x r. refl)
    (λ m ok. refl)
    (λ d gs e. took_pool (mss s.state.settings) gs (receiver_of s))
    (λ t. refl)
    (λ room. refl)
    (λ t. refl)
    (λ t. refl)
    (λ t. refl)

pub own_lent : (s : Station) (x : Call) → (own s x).station.lent ≡ s.lent
own_lent s =
    own_cases (λ (x : Call) (y : Stepped). y.station.lent ≡ s.lent) s (λ x r. refl) (λ m ok. refl) (λ d gs e. refl) (λ t. refl)
    (λ room. refl)
    (λ t. refl) (λ t. refl) (λ t. refl)

pub own_lengths : (s : Station) (x : Call) → lengths_of (own s x).station ≡ lengths_of s
own_lengths s x = λ i. record {
  send = own_send_pool s x i;
  receive = own_receive_pool s x i;
  table = (own_lent s x i).table;
  acks = (own_lent s x i).ack_list;
}

-- ---- the receiving half stays in order

takes_good : (m : ℕ) (x : Receiver) (p : Parsed) → Each (SegmentFits m) p → Good m x → Good m (receiver_takes m x p)
takes_good m x (Parsed.refused r) f g = g
takes_good m x (Parsed.segments gs) f g = (took_all m gs x f g).good

reads_good : (m : ℕ) (x : Receiver) (room : ℕ) → Good m x → Good m (receiver_reads x room)
reads_good m x room g = go (readable x.half.ready) (leb (message_size x.half) room)
  where
    go : (a b : Bool) → Good m (cond a (cond b (read_from x) x) x)
    go true true = read_good m x g
    go true false = g
    go false b = g

flushed_good : (m : ℕ) (x : Receiver) → Good m x → Good m (receiver_flushed x)
flushed_good m x g = record { settles = g.settles; few_acks_lem = zero-le }

after_good : (c : Settings) (k : Schedule) (x : Receiver) (call : Call) → CallFits call → Good (mss c) x
    → Good (mss c) (receiver_after c k x call)
after_good c k x (Call.send m) f g = g
after_good c k x (Call.take_in d) f g = takes_good (mss c) x (parse c.conv (mss c) d) (parse_fits c.conv (mss c) d f) g
after_good c k x (Call.flush t) f g = flushed_good (mss c) x g
after_good c k x (Call.read room) f g = reads_good (mss c) x room g
after_good c k x (Call.update t) f g = either_way (Good (mss c)) (updated k t c.interval).flushes (flushed_good (mss c) x g) g
after_good c k x (Call.check t) f g = g

-- EVERY CALL leaves the receiving half in order, whatever bytes it takes in
pub receiving_stays : (c : Settings) (s : Station) (x : Call) → CallFits x → ReceivingInOrder c s → ReceivingInOrder c (own s x).station
receiving_stays c s x f o =
    let k = s.state.schedule in
    let d : receiver_of (own s x).station ≡ receiver_after c k (receiver_of s) x =
    own_receiver s x ∙ ap (λ (y : Settings). receiver_after y k (receiver_of s) x) o.settings in
    in_order c (own s x).station (own_settings s x ∙ o.settings) (carry_stays s x f o.fits.carries)
    (rw d (after_good c k (receiver_of s) x f (good_in c s o)))

-- ---- the opened state

-- parts that are long enough for a flush are long enough for every call
pub flush_enough : (m : ℕ) (n : Lengths) (output lengths : ℕ) → enough_to_flush m n output lengths ≡ true → enough m n ≡ true
unfolding enough_to_flush
flush_enough m n output lengths e = (and_parts (enough m n) _ (and_parts (enough m n && leb output_least output) _ e).0).0

enough_receive : (m : ℕ) (n : Lengths) → enough m n ≡ true → receive_slots * m ≤ n.receive
unfolding enough
enough_receive m n e = leb-true _ _ (and_parts (leb (send_slots * m) n.send) _ (and_parts _ _ (and_parts _ _ e).0).0).1

pub opened_receiving : (c : Settings) (s : Station) → Opened c s → ReceivingInOrder c s
unfolding opened ascending starts_at
opened_receiving c s p =
    in_order c s (ap (λ (x : State). x.settings) p.state) (rw p.state (record { next = omega arith; acks = tt }))
    (rw p.state
    (record {
      settles = record {
        sound = record {
          pool_long = enough_receive (mss c) (lengths_of s)
              (flush_enough (mss c) (lengths_of s) s.lent.output s.lent.lengths p.long);
          held = tt;
          slots_once = refl;
          few_ready = zero-le;
          next_small = omega arith;
          numbers_small = tt;
          window = refl;
        };
        settled = refl;
      };
      few_acks_lem = zero-le;
    }))

-- ---- lists of calls

-- after calls that pass the checks
pub receiving_stays_all : (c : Settings) (xs : List Call) (s : Station) → All CallFits xs → Passing s xs → ReceivingInOrder c s
    → ReceivingInOrder c (after s xs)
unfolding after
receiving_stays_all c [] s f p o = o
receiving_stays_all c (x ∷ xs) s f p o =
    subst (ReceivingInOrder c) (sym (after_first s x xs p))
    (receiving_stays_all c xs (own s x).station f.1 p.2 (receiving_stays c s x f.0 o))

-- the lent lengths are as at first
pub after_lengths : (xs : List Call) (s : Station) → Passing s xs → lengths_of (after s xs) ≡ lengths_of s
unfolding after
after_lengths [] s p = refl
after_lengths (x ∷ xs) s p = ap lengths_of (after_first s x xs p) ∙ after_lengths xs (own s x).station p.2 ∙ own_lengths s x
