-- What a receiving half has, by numbers alone: those below rcv_nxt, and those that wait. What a push, a datagram and a read do to it.
-- A proof layer: no statement cites it.
-- Assumes nothing.
use Rattle.std.specs.Prelude.{◌≡◌, ◌⊎◌, Bool, cond, not, ◌||◌, ◌&&◌, ℕ, zero, suc, ◌+◌, ◌^◌, ◌≤◌, ◌<◌, ltb, length, drop}
use Rattle.std.proofs.Math.Path.{refl, ap}
use Rattle.std.proofs.Common.{sym, ◌∙◌, inl, inr, zero-le, arith, ltb-true, ltb-false, lt-ltb, le-ltb, eqb-true, eq-eqb, length-append}
use Rattle.std.proofs.Math.Bool.{true, false}
use Rattle.std.proofs.lemmas.Bool.{false≢true, eqb-false}
use mathlib.Core.List.{List, [], ◌∷◌, ◌++◌, map}
use Rattle.std.proofs.Math.Nat.{le_refl}
use Rattle.std.proofs.Math.Dec.{eqb}
use Rattle.protocol.specs.Protocol.{push, window_ask, receive_window, receive_slots, acks_most}
use Rattle.protocol.specs.Serial.{plus, minus, is_before}
use Rattle.datagram.specs.Datagrams.{Segment}
use Rattle.lists.specs.declared.Held.{Held}
use Rattle.lists.specs.declared.Waiting.{Waiting}
use Rattle.lists.specs.Orders.{waiting_offset, is_held, insert}
use Rattle.lists.specs.OrderLaws.{Between, insert_between}
use Rattle.lists.specs.Receiving.{Received, is_next, advance}
use Rattle.session.specs.Slots.{occurs, lowest_free}
use Rattle.session.specs.State.{Receiving, Ack, receive_held, slots, with_lists, with_notes}
use Rattle.session.specs.Input.{
  Receiver,
  in_window,
  noted,
  is_new,
  kept,
  moved_up,
  moved_up_in,
  with_acks,
  pushed,
  asked,
  heard_by_receiving,
  all_by_receiving,
}
use Rattle.session.specs.Reading.{front_count, after_read}
use Rattle.session.specs.Decides.{All, and_parts}
use Rattle.session.specs.AllLaws.{all_append, all_weaker}
use Rattle.delivery.specs.PlainReceiver.{push_numbers}
use Rattle.delivery.specs.FreeSlots.{occurs_append}
use Rattle.delivery.specs.InsertLaws.{between_map, all_between}
use Rattle.delivery.proofs.FedLaws.{or-true, or_right}
use Rattle.progress.specs.SmallNumbers.{before_small, or_left}

-- ---- what is had

abbrev pub waiting_numbers : List Waiting → List ℕ
waiting_numbers l = map (λ (w : Waiting). w.number) l

abbrev pub waits : List Waiting → ℕ → Bool
waits l n = occurs n (waiting_numbers l)

abbrev pub has_in : ℕ → List Waiting → ℕ → Bool
has_in next l n = ltb n next || occurs n (waiting_numbers l)

abbrev pub has : Receiving → ℕ → Bool
has r n = has_in r.next r.waiting n

-- all that it has lies below N
abbrev pub Known : ℕ → Receiving → Type 0
Known N r = (n : ℕ) → has r n ≡ true → n < N

abbrev Under : ℕ → List Waiting → Type 0
Under N l = All (λ (w : Waiting). w.number < N) l

pub known_next : (N : ℕ) (r : Receiving) → Known N r → r.next ≤ N
known_next N r k = go r.next (λ n h. k n (or_left (ltb n r.next) (waits r.waiting n) h))
  where
    go : (m : ℕ) → ((n : ℕ) → ltb n m ≡ true → n < N) → m ≤ N
    go zero h = zero-le
    go (suc m) h = h m (lt-ltb m (suc m) (le_refl (suc m)))

known_waiting : (N : ℕ) (r : Receiving) → Known N r → Under N r.waiting
unfolding occurs
known_waiting N r k = go r.waiting (λ n h. k n (or_right (ltb n r.next) (waits r.waiting n) h))
  where
    go : (l : List Waiting) → ((n : ℕ) → waits l n ≡ true → n < N) → Under N l
    go [] h = tt
    go (w ∷ l) h = (
      h w.number (or_left (eqb w.number w.number) (waits l w.number) (eq-eqb w.number w.number refl)),
      go l (λ n e. h n (or_right (eqb n w.number) (waits l n) e)),
    )

-- ---- moving up

-- it changes nothing of what is had, and rcv_nxt grows by as many as become ready
record Moved (next : ℕ) (ready : List Held) (l : List Waiting) (u : Received) : Type 0 where
  same : (n : ℕ) → has_in u.next u.waiting n ≡ has_in next l n
  up : next ≤ u.next
  level : length u.ready + next ≡ length ready + u.next

one_more : (n m : ℕ) (x : Bool) → (ltb n (suc m) || x) ≡ (ltb n m || (eqb n m || x))
one_more n m x = go (ltb n m) refl (eqb n m) refl
  where
    go : (s : Bool) → ltb n m ≡ s → (t : Bool) → eqb n m ≡ t → (ltb n (suc m) || x) ≡ (s || (t || x))
    go true e t q = rw (lt-ltb n (suc m) (omega (arith, ltb-true n m e)))
    go false e true q = rw (lt-ltb n (suc m) (omega (arith, eqb-true n m q)))
    go false e false q = rw (le-ltb n (suc m) (omega (arith, ltb-false n m e, eqb-false n m q)))

moved : (l : List Waiting) (next : ℕ) (ready : List Held) → Under (2 ^ 31) l → next ≤ 2 ^ 31 → Moved next ready l (advance next ready l)
unfolding advance occurs
moved [] next ready a h = record { same = λ n. refl; up = le_refl next; level = refl }
moved (w ∷ l) next ready a h = go (is_next next w && ltb (length ready) receive_window) refl (λ x y. moved l x y a.1)
  where
    go : (t : Bool) → (is_next next w && ltb (length ready) receive_window) ≡ t
        → ((x : ℕ) (y : List Held) → x ≤ 2 ^ 31 → Moved x y l (advance x y l))
        → Moved next ready (w ∷ l)
        (cond t (advance (plus next 1) (ready ++ (w.held ∷ [])) l) (record { next = next; ready = ready; waiting = w ∷ l }))
    go false e later = record { same = λ n. refl; up = le_refl next; level = refl }
    go true e later =
        let more = ready ++ (w.held ∷ []) in
        let is_next_lem = (and_parts (is_next next w) (ltb (length ready) receive_window) e).0 in
        let o : minus w.number next ≡ 0 = eqb-true (minus w.number next) 0 is_next_lem in
        let q : w.number ≡ next = omega (arith, a.0, o) in
        let z : plus next 1 ≡ suc next = omega (arith, a.0, q) in
        let i : Moved (plus next 1) more l (advance (plus next 1) more l) = later (plus next 1) more (omega (arith, a.0, q, z)) in
        record {
          same = λ n.
              i.same n
              ∙ ap (λ (x : ℕ). ltb n x || waits l n) z
              ∙ one_more n next (waits l n)
              ∙ ap (λ (x : ℕ). ltb n next || (eqb n x || waits l n)) (sym q);
          up = omega (arith, i.up, z);
          level = omega (arith, i.level, z, length-append ready (w.held ∷ []));
        }

-- ---- a push

-- a number of the window that waits, by its offset
held_waits : (next sn : ℕ) (l : List Waiting) → next ≤ 2 ^ 31 → sn < 2 ^ 31 → Under (2 ^ 31) l
    → is_held (waiting_offset next) (minus sn next) l ≡ true → waits l sn ≡ true
unfolding is_held occurs
held_waits next sn [] x y a e = absurd (false≢true e)
held_waits next sn (w ∷ l) x y a e = go (eqb (minus w.number next) (minus sn next)) refl e (held_waits next sn l x y a.1)
  where
    go : (t : Bool) → eqb (minus w.number next) (minus sn next) ≡ t → (t || is_held (waiting_offset next) (minus sn next) l) ≡ true
        → (is_held (waiting_offset next) (minus sn next) l ≡ true → waits l sn ≡ true)
        → (eqb sn w.number || waits l sn) ≡ true
    go true q e later =
        let p : sn ≡ w.number = omega (arith, a.0, eqb-true (minus w.number next) (minus sn next) q) in
        or_left (eqb sn w.number) (waits l sn) (eq-eqb sn w.number p)
    go false q e later = or_right (eqb sn w.number) (waits l sn) (later e)

-- one put between the others
between_occurs : (n k : ℕ) {l m : List ℕ} → Between k l m → occurs n m ≡ (eqb n k || occurs n l)
unfolding occurs
between_occurs n k b =
    ap (occurs n) b.is
    ∙ occurs_append n b.front (k ∷ b.back)
    ∙ swap (occurs n b.front) (eqb n k) (occurs n b.back)
    ∙ ap (λ (x : Bool). eqb n k || x) (sym (ap (occurs n) b.was ∙ occurs_append n b.front b.back))
  where
    swap : (x y z : Bool) → (x || (y || z)) ≡ (y || (x || z))
    swap true true z = refl
    swap true false z = refl
    swap false y z = refl

-- what taking in leaves of what was had
pub record Took (N : ℕ) (r r' : Receiving) : Type 0 where
  pub preserves : (n : ℕ) → has r n ≡ true → has r' n ≡ true
  pub knows : Known N r'
  pub up : r.next ≤ r'.next
  pub level : length r'.ready + r.next ≡ length r.ready + r'.next

pub took_none : (N : ℕ) (r : Receiving) → Known N r → Took N r r
took_none N r k = record { preserves = λ n h. h; knows = k; up = le_refl r.next; level = refl }

pub took_then : (N : ℕ) (r r' r'' : Receiving) → Took N r r' → Took N r' r'' → Took N r r''
took_then N r r' r'' x y =
    record {
      preserves = λ n h. y.preserves n (x.preserves n h);
      knows = y.knows;
      up = omega (arith, x.up, y.up);
      level = omega (arith, x.level, y.level);
    }

pub record PushedIn (N : ℕ) (r : Receiving) (sn : ℕ) (r' : Receiving) : Type 0 where
  pub took : Took N r r'
  pub gets : in_window r sn ≡ true → has r' sn ≡ true

module _ (m N : ℕ) (top : N ≤ 2 ^ 30) where
  wide : (l : List Waiting) → Under N l → Under (2 ^ 31) l
  wide = all_weaker (λ (w : Waiting). w.number < N) (λ (w : Waiting). w.number < 2 ^ 31) (λ w h. omega arith)

  module _ (x : Receiver) (g : Segment) (k : Known N x.half) (h : g.header.sn < N) where
    abbrev r : Receiving
    r = x.half

    abbrev sn : ℕ
    sn = g.header.sn

    abbrev y : Receiver
    y = with_acks (noted x.half g.header) x

    next : x.half.next ≤ N
    next = known_next N x.half k

    small : Under N x.half.waiting
    small = known_waiting N x.half k

    -- nothing kept, whatever is noted
    stays : Moved r.next r.ready r.waiting (advance r.next r.ready r.waiting)
    stays = moved r.waiting r.next r.ready (wide r.waiting small) (omega (arith, next))

    left : (l : List Ack) → Took N r (moved_up_in (with_acks l x)).half
    left l = record {
      preserves = λ n e. stays.same n ∙ e;
      knows = λ n e. k n (sym (stays.same n) ∙ e);
      up = stays.up;
      level = stays.level;
    }

    -- it is kept as v
    module _ (v : Waiting) (numbered : v.number ≡ g.header.sn)
        (new : is_held (waiting_offset x.half.next) (minus v.number x.half.next) x.half.waiting ≡ false) where
      abbrev more : List Waiting
      more = insert (waiting_offset x.half.next) v x.half.waiting

      put : Between v r.waiting more
      put = insert_between (waiting_offset r.next) v r.waiting new

      grows : Moved r.next r.ready more (advance r.next r.ready more)
      grows =
          moved more r.next r.ready (wide more (all_between (λ (w : Waiting). w.number < N) put small (rw numbered h)))
          (omega (arith, next))

      had : (n : ℕ) → has_in (advance r.next r.ready more).next (advance r.next r.ready more).waiting n
          ≡ (ltb n r.next || (eqb n sn || waits r.waiting n))
      had n =
          grows.same n
          ∙ ap (λ (t : Bool). ltb n r.next || t) (between_occurs n v.number (between_map (λ (w : Waiting). w.number) put))
          ∙ ap (λ (k : ℕ). ltb n r.next || (eqb n k || waits r.waiting n)) numbered

      one_kept : (l : List Ack) → PushedIn N r sn (moved_up (with_lists (with_notes r l r.tell) r.next r.ready more))
      one_kept l = record {
        took = record {
          preserves = λ n e. had n ∙ still n (or-true (ltb n r.next) (waits r.waiting n) e);
          knows = λ n e. less n (eqb n sn) refl (sym (had n) ∙ e);
          up = grows.up;
          level = grows.level;
        };
        gets = λ e.
            had sn
            ∙ or_right (ltb sn r.next) (eqb sn sn || waits r.waiting sn)
            (or_left (eqb sn sn) (waits r.waiting sn) (eq-eqb sn sn refl));
      }
        where
          still : (n : ℕ) → (ltb n r.next ≡ true) ⊎ (waits r.waiting n ≡ true)
              → (ltb n r.next || (eqb n sn || waits r.waiting n)) ≡ true
          still n (inl e) = or_left (ltb n r.next) (eqb n sn || waits r.waiting n) e
          still n (inr e) = or_right (ltb n r.next) (eqb n sn || waits r.waiting n) (or_right (eqb n sn) (waits r.waiting n) e)

          less : (n : ℕ) (t : Bool) → eqb n sn ≡ t → (ltb n r.next || (t || waits r.waiting n)) ≡ true → n < N
          less n true q e = omega (arith, eqb-true n sn q, h)
          less n false q e = k n e

    -- A PUSH of a known number
    pub push_had : PushedIn N x.half g.header.sn (pushed m x g).half
    unfolding pushed
    push_had = go (in_window r sn) refl (is_before sn r.next) refl is_waiting refl
      where
        v : Waiting
        v = record {
          number = g.header.sn;
          held = record { slot = lowest_free (slots (receive_held x.half)) receive_slots; len = g.header.len; fragment = g.header.frg };
        }

        is_waiting : Bool
        is_waiting = is_held (waiting_offset x.half.next) (minus g.header.sn x.half.next) x.half.waiting

        go : (a : Bool) → in_window r sn ≡ a → (b : Bool) → is_before sn r.next ≡ b → (d : Bool) → is_waiting ≡ d
            → PushedIn N r sn (moved_up_in (cond a (cond (not b && not d) (kept m y g) y) x)).half
        go false e b f d q = record { took = left r.acks; gets = λ t. absurd (false≢true (sym e ∙ t)) }
        go true e true f d q = record {
          took = left (noted r g.header);
          gets = λ t.
              stays.same sn
              ∙ or_left (ltb sn r.next) (waits r.waiting sn)
              (sym (before_small sn r.next (omega arith) (omega (arith, next))) ∙ f);
        }
        go true e false f true q = record {
          took = left (noted r g.header);
          gets = λ t.
              stays.same sn
              ∙ or_right (ltb sn r.next) (waits r.waiting sn)
              (held_waits r.next sn r.waiting (omega (arith, next)) (omega arith) (wide r.waiting small) q);
        }
        go true e false f false q = one_kept v refl q (noted r g.header)

-- ---- a datagram's segments

-- if it is a push, its number is below N
abbrev pub Pushes : ℕ → Segment → Type 0
Pushes N g = g.header.cmd ≡ push → g.header.sn < N

abbrev pub HasAck : Receiving → Ack → Type 0
HasAck r a = has r a.sn ≡ true

-- acks are noted of what is had, and none is lost
pub record TookAll (N : ℕ) (r r' : Receiving) : Type 0 where
  pub took : Took N r r'
  pub acks : All (HasAck r) r.acks → All (HasAck r') r'.acks
  pub more : length r.acks ≤ length r'.acks

pub took_all_then : (N : ℕ) (r r' r'' : Receiving) → TookAll N r r' → TookAll N r' r'' → TookAll N r r''
took_all_then N r r' r'' x y =
    record { took = took_then N r r' r'' x.took y.took; acks = λ a. y.acks (x.acks a); more = omega (arith, x.more, y.more) }

pub took_all_none : (N : ℕ) (r : Receiving) → Known N r → TookAll N r r
took_all_none N r k = record { took = took_none N r k; acks = λ a. a; more = le_refl (length r.acks) }

-- the acks after a push
pushed_acks : (m : ℕ) (x : Receiver) (g : Segment) →
    (pushed m x g).half.acks ≡ cond (in_window x.half g.header.sn) (noted x.half g.header) x.half.acks
unfolding pushed
pushed_acks m x g = go (in_window x.half g.header.sn) (is_new x.half g.header.sn)
  where
    y : Receiver
    y = with_acks (noted x.half g.header) x

    go : (a b : Bool) → (moved_up_in (cond a (cond b (kept m y g) y) x)).half.acks ≡ cond a (noted x.half g.header) x.half.acks
    go true true = refl
    go true false = refl
    go false b = refl

module _ (m N : ℕ) (top : N ≤ 2 ^ 30) where
  push_all : (x : Receiver) (g : Segment) → Known N x.half → g.header.sn < N → TookAll N x.half (pushed m x g).half
  push_all x g k h = record {
    took = p.took;
    acks = λ a. rw (pushed_acks m x g) (go (in_window x.half g.header.sn) refl (ltb (length x.half.acks) acks_most) (old a));
    more = rw (pushed_acks m x g) (longer (in_window x.half g.header.sn) (ltb (length x.half.acks) acks_most));
  }
    where
      r' : Receiving
      r' = (pushed m x g).half

      new : Ack
      new = record { sn = g.header.sn; ts = g.header.ts }

      p : PushedIn N x.half g.header.sn (pushed m x g).half
      p = push_had m N top x g k h

      old : All (HasAck x.half) x.half.acks → All (HasAck r') x.half.acks
      old = all_weaker (HasAck x.half) (HasAck r') (λ a i. p.took.preserves a.sn i) x.half.acks

      go : (a : Bool) → in_window x.half g.header.sn ≡ a → (b : Bool) → All (HasAck r') x.half.acks
          → All (HasAck r') (cond a (cond b (x.half.acks ++ (new ∷ [])) x.half.acks) x.half.acks)
      go true e true i = all_append (HasAck r') x.half.acks (new ∷ []) i (p.gets e, tt)
      go true e false i = i
      go false e b i = i

      longer : (a b : Bool) →
          length x.half.acks ≤ length (cond a (cond b (x.half.acks ++ (new ∷ [])) x.half.acks) x.half.acks)
      longer true true = omega (arith, length-append x.half.acks (new ∷ []))
      longer true false = le_refl (length x.half.acks)
      longer false b = le_refl (length x.half.acks)

  heard_had : (x : Receiver) (g : Segment) → Known N x.half → Pushes N g → TookAll N x.half (heard_by_receiving m x g).half
  unfolding heard_by_receiving
  heard_had x g k h = go (eqb g.header.cmd push) refl (eqb g.header.cmd window_ask)
    where
      go : (a : Bool) → eqb g.header.cmd push ≡ a → (b : Bool) → TookAll N x.half (cond a (pushed m x g) (cond b (asked x) x)).half
      go true e b = push_all x g k (h (eqb-true g.header.cmd push e))
      go false e true = record {
        took = record { preserves = λ n i. i; knows = k; up = le_refl x.half.next; level = refl };
        acks = λ a. a;
        more = le_refl (length x.half.acks);
      }
      go false e false = took_all_none N x.half k

  -- ALL SEGMENTS OF A DATAGRAM
  pub all_had : (gs : List Segment) (x : Receiver) → Known N x.half → All (Pushes N) gs
      → TookAll N x.half (all_by_receiving m x gs).half
  unfolding all_by_receiving
  all_had [] x k h = took_all_none N x.half k
  all_had (g ∷ gs) x k h =
      let i = heard_had x g k h.0 in
      took_all_then N x.half (heard_by_receiving m x g).half (all_by_receiving m (heard_by_receiving m x g) gs).half i
      (all_had gs (heard_by_receiving m x g) i.took.knows h.1)

  -- a number not past rcv_nxt is in the window
  near : (r : Receiving) (u : ℕ) → Known N r → u ≤ r.next → in_window r u ≡ true
  near r u k h =
      let a : r.next ≤ N = known_next N r k in
      let z : plus r.next receive_window ≡ r.next + receive_window = omega (arith, a) in
      ap (is_before u) z
      ∙ before_small u (r.next + receive_window) (omega (arith, a)) (omega (arith, a))
      ∙ lt-ltb u (r.next + receive_window) (omega arith)

  -- a push not past rcv_nxt: it is had afterwards, and some ack is noted
  push_in : (x : Receiver) (g : Segment) (u : ℕ) → Known N x.half → Pushes N g → u ≤ x.half.next
      → g.header.cmd ≡ push → u ≡ g.header.sn
      → (has (heard_by_receiving m x g).half u ≡ true) × (0 < length (heard_by_receiving m x g).half.acks)
  unfolding heard_by_receiving
  push_in x g u k h l e q =
      let n : in_window x.half g.header.sn ≡ true = near x.half g.header.sn k (omega (arith, q, l)) in
      rw (eq-eqb g.header.cmd push e) (
        ap (has (pushed m x g).half) q ∙ (push_had m N top x g k (h e)).gets n,
        rw (pushed_acks m x g, n) (some (ltb (length x.half.acks) acks_most) refl),
      )
    where
      new : Ack
      new = record { sn = g.header.sn; ts = g.header.ts }

      some : (b : Bool) → ltb (length x.half.acks) acks_most ≡ b → 0 < length (cond b (x.half.acks ++ (new ∷ [])) x.half.acks)
      some true f = omega (arith, length-append x.half.acks (new ∷ []))
      some false f = omega (arith, ltb-false (length x.half.acks) acks_most f)

  -- A PUSH NOT PAST RCV_NXT among them
  pub goes_in : (u : ℕ) (gs : List Segment) (x : Receiver) → Known N x.half → All (Pushes N) gs → u ≤ x.half.next
      → occurs u (push_numbers gs) ≡ true
      → (has (all_by_receiving m x gs).half u ≡ true) × (0 < length (all_by_receiving m x gs).half.acks)
  unfolding all_by_receiving push_numbers occurs
  goes_in u [] x k h l e = absurd (false≢true e)
  goes_in u (g ∷ gs) x k h l e = go (eqb g.header.cmd push) refl e
      (λ z. goes_in u gs (heard_by_receiving m x g) i.took.knows h.1 (omega (arith, l, i.took.up)) z)
    where
      i : TookAll N x.half (heard_by_receiving m x g).half
      i = heard_had x g k h.0

      rest : TookAll N (heard_by_receiving m x g).half (all_by_receiving m (heard_by_receiving m x g) gs).half
      rest = all_had gs (heard_by_receiving m x g) i.took.knows h.1

      Gone : Type 0
      Gone =
          (has (all_by_receiving m (heard_by_receiving m x g) gs).half u ≡ true)
          × (0 < length (all_by_receiving m (heard_by_receiving m x g) gs).half.acks)

      go : (t : Bool) → eqb g.header.cmd push ≡ t → occurs u (cond t (g.header.sn ∷ push_numbers gs) (push_numbers gs)) ≡ true
          → (occurs u (push_numbers gs) ≡ true → Gone) → Gone
      go false q e later = later e
      go true q e later = at (eqb u g.header.sn) refl e
        where
          at : (b : Bool) → eqb u g.header.sn ≡ b → (b || occurs u (push_numbers gs)) ≡ true → Gone
          at true f z =
              let p = push_in x g u k h.0 l (eqb-true g.header.cmd push q) (eqb-true u g.header.sn f) in
              (rest.took.preserves u p.0, omega (arith, rest.more, p.1))
          at false f z = later z

-- ---- a read

pub record ReadOut (r r' : Receiving) : Type 0 where
  pub same : (n : ℕ) → has r' n ≡ has r n
  pub up : r.next ≤ r'.next
  pub acks : r'.acks ≡ r.acks

pub read_had : (N : ℕ) → N ≤ 2 ^ 30 → (r : Receiving) → Known N r → ReadOut r (after_read r)
unfolding after_read
read_had N top r k =
    let a = known_next N r k in
    let i =
    moved r.waiting r.next (drop (front_count r.ready) r.ready)
    (all_weaker (λ (w : Waiting). w.number < N) (λ (w : Waiting). w.number < 2 ^ 31) (λ w h. omega arith) r.waiting
    (known_waiting N r k))
    (omega (arith, a)) in
    record { same = i.same; up = i.up; acks = refl }
