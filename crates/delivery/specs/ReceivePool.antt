-- The receiving half with its pool does what the lists that it stands for do (`ReceiverModel`), and stays valid, wherever its
-- numbers are in the 32 bits and whatever pushes come.
-- A proof layer that no contract cites.
-- Assumes nothing.
use Rattle.std.specs.Prelude.{◌≡◌, Bool, not, ◌&&◌, ℕ, zero, suc, ◌+◌, ◌*◌, ◌^◌, ◌≤◌, ◌<◌, leb, eqb, take, drop}
use Rattle.std.proofs.Math.Path.{refl}
use Rattle.std.proofs.Common.{sym, ap, ap₂, ◌∙◌, zero-le, arith, length-take, length-drop}
use Rattle.std.proofs.Math.Bool.{true, false, cond}
use mathlib.Core.List.{List, [], ◌∷◌, ◌++◌, map, map-append, map-map}
use Rattle.std.proofs.Math.Nat.{mul-le-mul_right}
use Rattle.std.proofs.Math.Dec.{ltb}
use Rattle.std.proofs.Math.ListN.{length, length-append}
use Rattle.std.proofs.lemmas.List.{length-map}
use Rattle.std.proofs.lemmas.List.Edits.{sets}
use Rattle.std.proofs.Math.Seq.{length-sets, append_snoc}
use borrow.Author.Tests.{ltb-true, lt-ltb, le-ltb, eqb-true, leb-true, leb-false}
use Rattle.protocol.specs.Protocol.{push, window_ask, fragment_most, receive_window, receive_slots, acks_most}
use Rattle.protocol.specs.Serial.{plus, minus, is_before}
use Rattle.protocol.specs.SerialLaws.{before_test}
use Rattle.wire.specs.declared.Header.{Header}
use Rattle.datagram.specs.Datagrams.{Segment}
use Rattle.lists.specs.declared.Held.{Held}
use Rattle.lists.specs.declared.Waiting.{Waiting}
use Rattle.lists.specs.Orders.{ascending, is_held, insert, waiting_offset}
use Rattle.lists.specs.OrderLaws.{
  Between,
  ascending_first,
  ascending_length,
  insert_ascending,
  insert_held,
  insert_between,
  ascending_moved,
  offset_plus,
}
use Rattle.lists.specs.Receiving.{Received, is_next, advance}
use Rattle.session.specs.Slots.{occurs, lowest_free}
use Rattle.session.specs.State.{Receiving, Ack, slots}
use Rattle.lists.specs.Receiving.{starts_at}
use Rattle.session.specs.Valid.{once}
use Rattle.session.specs.Reading.{front_count, readable, payload_in, joined_in, length_of, after_read}
use Rattle.session.specs.Input.{
  Receiver,
  in_window,
  noted,
  is_new,
  kept,
  moved_up_in,
  with_acks,
  pushed,
  asked,
  heard_by_receiving,
  all_by_receiving,
}
use Rattle.session.specs.Decides.{All, and_parts}
use Rattle.session.specs.AllLaws.{all_append, all_left, all_right, all_take, all_drop, all_unmapped}
use Rattle.delivery.specs.PlainReceiver.{Found}
use Rattle.delivery.specs.Pieces.{Piece, piece_of, pushes}
use Rattle.delivery.specs.FreeSlots.{Free, free, not_first, not_later}
use Rattle.delivery.specs.SlotBytes.{stored, other_slot}
use Rattle.delivery.specs.SendPool.{piece_in}
use Rattle.session.specs.MapLaws.{map_take, map_drop}
use Rattle.delivery.specs.SearchLaws.{occurs_apart}
use Rattle.delivery.specs.InsertLaws.{
  between_length,
  between_behind,
  between_map,
  all_between,
  once_between,
  map_ascending,
  map_held,
  map_insert,
}
use Rattle.delivery.specs.ParsedLaws.{SegmentFits}
use Rattle.delivery.specs.ReceiverModel.{
  Numbered,
  Listed,
  numbered_offset,
  list_advance,
  list_kept,
  list_push,
  list_pushes,
  joined,
  list_answer,
  list_rest,
}

-- ---- what the entries stand for

abbrev pub waiting_held : Waiting → Held
waiting_held w = w.held

abbrev pub numbered_in : ℕ → List ℕ → Waiting → Numbered
numbered_in m pool w = record { number = w.number; piece = piece_in m pool w.held }

abbrev pub listed_in : ℕ → List ℕ → Received → Listed
listed_in m pool r = record { next = r.next; ready = map (piece_in m pool) r.ready; waiting = map (numbered_in m pool) r.waiting }

-- the number and the lists of a receiving half
abbrev pub received : Receiving → Received
received r = record { next = r.next; ready = r.ready; waiting = r.waiting }

abbrev pub listed_by : ℕ → Receiver → Listed
listed_by m x = listed_in m x.pool (received x.half)

-- ---- what holds of them

-- refusal 13's conditions on each held segment
pub record HeldFits (m : ℕ) (h : Held) : Type 0 where
  pub short : h.len ≤ m
  pub fragment : h.fragment ≤ fragment_most
  pub low : h.slot < receive_slots

pub record Sound (m : ℕ) (pool : List ℕ) (r : Received) : Type 0 where
  pub pool_long : receive_slots * m ≤ length pool
  pub held : All (HeldFits m) (r.ready ++ map waiting_held r.waiting)
  pub slots_once : once (slots (r.ready ++ map waiting_held r.waiting)) ≡ true
  pub few_ready : length r.ready ≤ receive_window
  pub next_small : r.next < 2 ^ 32
  pub numbers_small : All (λ (w : Waiting). w.number < 2 ^ 32) r.waiting
  pub window : ascending (waiting_offset r.next) 0 receive_window r.waiting ≡ true

-- and nothing waits that could be ready
pub record Settled (m : ℕ) (pool : List ℕ) (r : Received) : Type 0 where
  pub sound : Sound m pool r
  pub settled : (starts_at r.next r.waiting && ltb (length r.ready) receive_window) ≡ false

-- ---- numbers near one another, anywhere in the 32 bits

in_window_lem : (n a : ℕ) → n < 2 ^ 32 → a < 2 ^ 32 → is_before a (plus n receive_window) ≡ true → is_before a n ≡ false
    → minus a n < receive_window
in_window_lem n a hn ha p q =
    let x : 2 ^ 31 ≤ minus a (plus n receive_window) =
    leb-true (2 ^ 31) (minus a (plus n receive_window)) (sym (before_test a (plus n receive_window)) ∙ p) in
    let y : minus a n < 2 ^ 31 = leb-false (2 ^ 31) (minus a n) (sym (before_test a n) ∙ q) in
    omega arith

-- after one step of rcv_nxt
window_step : (n : ℕ) (l : List Waiting) → n < 2 ^ 32 → ascending (waiting_offset n) 1 receive_window l ≡ true
    → ascending (waiting_offset (plus n 1)) 0 receive_window l ≡ true
window_step n l h = ascending_moved (waiting_offset n) (waiting_offset (plus n 1)) 1 (λ w u. offset_plus n 1 w.number h u) 1 receive_window
    receive_window l (omega arith) (omega arith)

-- ---- segments that leave

once_drop : (k : ℕ) (l r : List Held) → once (slots (l ++ r)) ≡ true → once (slots (drop k l ++ r)) ≡ true
once_drop zero l r o = o
once_drop (suc k) [] r o = o
once_drop (suc k) (h ∷ l) r o = once_drop k l r (and_parts (not (occurs h.slot (slots (l ++ r)))) (once (slots (l ++ r))) o).1

-- ---- waiting segments become ready

module _ (m : ℕ) (pool : List ℕ) where
  advance_listed : (n : ℕ) (r : List Held) (l : List Waiting)
      → listed_in m pool (advance n r l) ≡ list_advance n (map (piece_in m pool) r) (map (numbered_in m pool) l)
  unfolding advance list_advance
  advance_listed n r [] = refl
  advance_listed n r (w ∷ l) = rw (length-map r (piece_in m pool))
      (go (is_next n w && ltb (length r) receive_window) (advance_listed (plus n 1) (r ++ (w.held ∷ [])) l))
    where
      go : (b : Bool) → listed_in m pool (advance (plus n 1) (r ++ (w.held ∷ [])) l) ≡ list_advance (plus n 1)
          (map (piece_in m pool) (r ++ (w.held ∷ []))) (map (numbered_in m pool) l)
          → listed_in m pool (cond b (advance (plus n 1) (r ++ (w.held ∷ [])) l) (record { next = n; ready = r; waiting = w ∷ l }))
          ≡ cond b
          (list_advance (plus n 1) (map (piece_in m pool) r ++ (piece_in m pool w.held ∷ [])) (map (numbered_in m pool) l))
          (record { next = n; ready = map (piece_in m pool) r; waiting = numbered_in m pool w ∷ map (numbered_in m pool) l })
      go true i = rw (map-append (piece_in m pool) r (w.held ∷ [])) at i
      go false i = refl

  advance_settled : (n : ℕ) (r : List Held) (l : List Waiting) → Sound m pool (record { next = n; ready = r; waiting = l })
      → Settled m pool (advance n r l)
  unfolding advance starts_at
  advance_settled n r [] s = record { sound = s; settled = refl }
  advance_settled n r (w ∷ l) s = go (is_next n w && ltb (length r) receive_window) refl (advance_settled (plus n 1) (r ++ (w.held ∷ [])) l)
    where
      go : (b : Bool) → (is_next n w && ltb (length r) receive_window) ≡ b
          → (Sound m pool (record { next = plus n 1; ready = r ++ (w.held ∷ []); waiting = l })
          → Settled m pool (advance (plus n 1) (r ++ (w.held ∷ [])) l))
          → Settled m pool (cond b (advance (plus n 1) (r ++ (w.held ∷ [])) l) (record { next = n; ready = r; waiting = w ∷ l }))
      go false e rest = record { sound = s; settled = e }
      go true e rest =
          let b = and_parts (is_next n w) (ltb (length r) receive_window) e in
          let z : minus w.number n ≡ 0 = eqb-true (minus w.number n) 0 b.0 in
          let f = ascending_first (waiting_offset n) 0 receive_window w l s.window in
          rest
          (record {
            pool_long = s.pool_long;
            held = rw (append_snoc r w.held (map waiting_held l)) s.held;
            slots_once = rw (append_snoc r w.held (map waiting_held l)) s.slots_once;
            few_ready = simp length-append (omega (arith, ltb-true (length r) receive_window b.1));
            next_small = omega arith;
            numbers_small = s.numbers_small.1;
            window = window_step n l s.next_small (rw z at f.later);
          })

-- ---- a payload stored in a slot that is not used

-- entries of other slots stand for what they stood for
unmoved : {A B : Type 0} (held : A → Held) (make : A → Piece → B) (m : ℕ) (pool payload : List ℕ) (slot : ℕ) → slot * m
    + length payload ≤ length pool → length payload ≤ m
    → (l : List A) → All (λ (a : A). HeldFits m (held a)) l → occurs slot (map (λ (a : A). (held a).slot) l) ≡ false
    → map (λ a. make a (piece_in m (sets pool (slot * m) payload) (held a))) l ≡ map (λ a. make a (piece_in m pool (held a))) l
unmoved held make m pool payload slot room u [] f e = refl
unmoved {A} {B} held make m pool payload slot room u (a ∷ l) f e =
    let others : List ℕ = map (λ (a : A). (held a).slot) l in
    let p = other_slot m pool payload slot (held a).slot (held a).len room u f.0.short
    (λ i. not_first slot (held a).slot others e (sym i)) in
    ap₂ {C = List B} (λ (x : List ℕ) (r : List B). make a (record { fragment = (held a).fragment; payload = x }) ∷ r) p
    (unmoved held make m pool payload slot room u l f.1 (not_later slot (held a).slot others e))

-- ---- a push

-- a receiving half with its pool, valid and in range
pub record Good (m : ℕ) (x : Receiver) : Type 0 where
  pub settles : Settled m x.pool (received x.half)
  pub few_acks_lem : length x.half.acks ≤ acks_most

-- y is x after a push: it stands for the lists after the push, and is as good
pub record Pushed (m : ℕ) (x : Receiver) (sn : ℕ) (q : Piece) (y : Receiver) : Type 0 where
  pub listed : listed_by m y ≡ list_push (listed_by m x) sn q
  pub good : Good m y

noted_few : (r : Receiving) (h : Header) → length r.acks ≤ acks_most → length (noted r h) ≤ acks_most
noted_few r h a = go (ltb (length r.acks) acks_most) refl
  where
    go : (b : Bool) → ltb (length r.acks) acks_most ≡ b
        → length (cond b (r.acks ++ (record { sn = h.sn; ts = h.ts } ∷ [])) r.acks) ≤ acks_most
    go true e = simp length-append (omega (arith, ltb-true (length r.acks) acks_most e))
    go false e = a

module _ (m : ℕ) (x : Receiver) (g : Segment) (good : Good m x) (fits : SegmentFits m g) (is_push : g.header.cmd ≡ push) where
  abbrev sn : ℕ
  sn = g.header.sn

  abbrev next : ℕ
  next = x.half.next

  -- offsets from rcv_nxt
  abbrev offset : Waiting → ℕ
  offset = waiting_offset x.half.next

  abbrev shown : Numbered → ℕ
  shown = numbered_offset x.half.next

  -- one that is not new
  old_push : (l : List Ack) → length l ≤ acks_most
      → list_kept (listed_by m x) sn (piece_of g) ≡ map (numbered_in m x.pool) x.half.waiting
      → Pushed m x sn (piece_of g) (moved_up_in (with_acks l x))
  old_push l a same = record {
    listed = advance_listed m x.pool next x.half.ready x.half.waiting ∙ ap
        (list_advance next (map (piece_in m x.pool) x.half.ready)) (sym same);
    good = record { settles = advance_settled m x.pool next x.half.ready x.half.waiting good.settles.sound; few_acks_lem = a };
  }

  new_push : is_before sn (plus next receive_window) ≡ true → is_before sn next ≡ false
      → is_held offset (minus sn next) x.half.waiting ≡ false
      → Pushed m x sn (piece_of g) (moved_up_in (kept m (with_acks (noted x.half g.header) x) g))
  new_push p q h = record {
    listed =
        advance_listed m pool' next ready (insert offset w waiting)
        ∙ rw (p, q) (ap₂ (list_advance next) old_ready
        (map_insert (numbered_in m pool') offset shown (λ v. refl) w waiting ∙ ap₂ (insert shown) new old_waiting));
    good = record {
      settles = advance_settled m pool' next ready (insert offset w waiting) sound';
      few_acks_lem = noted_few x.half g.header good.few_acks_lem;
    };
  }
    where
      sound : Sound m x.pool (received x.half)
      sound = good.settles.sound

      ready : List Held
      ready = x.half.ready

      waiting : List Waiting
      waiting = x.half.waiting

      all : List Held
      all = ready ++ map waiting_held waiting

      slot : ℕ
      slot = lowest_free (slots all) receive_slots

      w : Waiting
      w = record { number = sn; held = record { slot = slot; len = g.header.len; fragment = g.header.frg } }

      pool' : List ℕ
      pool' = sets x.pool (slot * m) g.payload

      short : length g.payload ≤ m
      short = omega (arith, fits.payload, fits.push_length is_push)

      i : Between w waiting (insert offset w waiting)
      i = insert_between offset w waiting h

      whole : Between w.held all (ready ++ map waiting_held (insert offset w waiting))
      whole = between_behind ready (between_map waiting_held i)

      ascends : ascending offset 0 receive_window (insert offset w waiting) ≡ true
      ascends = insert_ascending offset w 0 receive_window waiting zero-le (in_window_lem next sn sound.next_small fits.fields.sn p q)
          sound.window

      few : length (slots all) < receive_slots
      few = simp (length-map, length-append) (omega
          (arith, sound.few_ready, between_length i, ascending_length offset 0 receive_window _ zero-le ascends))

      found : Free (slots all) receive_slots
      found = free (slots all) receive_slots few

      room : slot * m + length g.payload ≤ length x.pool
      room = omega (arith, short, sound.pool_long, mul-le-mul_right m found.low)

      sound' : Sound m pool' (record { next = next; ready = ready; waiting = insert offset w waiting })
      sound' = record {
        pool_long = rw (length-sets x.pool (slot * m) g.payload) sound.pool_long;
        held = all_between (HeldFits m) whole sound.held
            (record { short = fits.push_length is_push; fragment = fits.push_fragment is_push; low = found.low });
        slots_once = once_between (between_map (λ (d : Held). d.slot) whole) sound.slots_once found.unused;
        few_ready = sound.few_ready;
        next_small = sound.next_small;
        numbers_small = all_between (λ (v : Waiting). v.number < 2 ^ 32) i sound.numbers_small fits.fields.sn;
        window = ascends;
      }

      apart : (occurs slot (slots ready) ≡ false) × (occurs slot (slots (map waiting_held waiting)) ≡ false)
      apart = occurs_apart slot (slots ready) (slots (map waiting_held waiting))
          (sym (ap (occurs slot) (map-append (λ (d : Held). d.slot) ready (map waiting_held waiting))) ∙ found.unused)

      old_ready : map (piece_in m pool') ready ≡ map (piece_in m x.pool) ready
      old_ready = unmoved (λ (d : Held). d) (λ (d : Held) (y : Piece). y) m x.pool g.payload slot room short ready
          (all_left (HeldFits m) ready (map waiting_held waiting) sound.held) apart.0

      old_waiting : map (numbered_in m pool') waiting ≡ map (numbered_in m x.pool) waiting
      old_waiting = unmoved waiting_held (λ (v : Waiting) (y : Piece). record { number = v.number; piece = y }) m x.pool g.payload
          slot room short waiting (all_unmapped (HeldFits m) waiting_held waiting
          (all_right (HeldFits m) ready (map waiting_held waiting) sound.held))
          (sym (ap (occurs slot) (map-map (λ (d : Held). d.slot) waiting_held waiting)) ∙ apart.1)

      new : numbered_in m pool' w ≡ record { number = sn; piece = piece_of g }
      new =
          let e : take g.header.len (drop (slot * m) pool') ≡ g.payload =
          rw fits.payload at (stored x.pool (slot * m) g.payload room) in
          ap (λ (y : List ℕ). record { number = sn; piece = record { fragment = g.header.frg; payload = y } }) e

  -- A PUSH ON THE HALF AND ITS POOL is a push on the lists that they stand for
  pub push_listed : Pushed m x g.header.sn (piece_of g) (pushed m x g)
  unfolding pushed
  push_listed = go (is_before sn (plus next receive_window)) (is_before sn next) (is_held offset (minus sn next) x.half.waiting) refl refl
      refl
    where
      noted' : length (noted x.half g.header) ≤ acks_most
      noted' = noted_few x.half g.header good.few_acks_lem

      held_already : is_held offset (minus sn next) x.half.waiting ≡ true
          → insert shown (record { number = sn; piece = piece_of g }) (map (numbered_in m x.pool) x.half.waiting)
          ≡ map (numbered_in m x.pool) x.half.waiting
      held_already h =
          insert_held shown (record { number = sn; piece = piece_of g }) 0 receive_window (map (numbered_in m x.pool) x.half.waiting)
          (map_ascending (numbered_in m x.pool) offset shown (λ v. refl) 0 receive_window x.half.waiting ∙ good.settles.sound.window)
          (map_held (numbered_in m x.pool) offset shown (λ v. refl) (minus sn next) x.half.waiting ∙ h)

      go : (a b c : Bool) → is_before sn (plus next receive_window) ≡ a → is_before sn next ≡ b
          → is_held offset (minus sn next) x.half.waiting ≡ c
          → Pushed m x sn (piece_of g) (pushed m x g)
      go true false false p q h = rw (p, q, h) (new_push p q h)
      go true false true p q h = rw (p, q, h) (old_push (noted x.half g.header) noted' (rw (p, q) (held_already h)))
      go true true c p q h = rw (p, q) (old_push (noted x.half g.header) noted' (rw (p, q)))
      go false b c p q h = rw p (old_push x.half.acks good.few_acks_lem (rw p))

-- ---- a datagram's segments

-- y is x after these pushes
pub record Took (m : ℕ) (x : Receiver) (ps : List Segment) (y : Receiver) : Type 0 where
  pub listed : listed_by m y ≡ list_pushes (listed_by m x) ps
  pub good : Good m y

pub took_all : (m : ℕ) (gs : List Segment) (x : Receiver) → All (SegmentFits m) gs → Good m x → Took m x (pushes gs) (all_by_receiving m x gs)
unfolding all_by_receiving heard_by_receiving pushes list_pushes
took_all m [] x f good = record { listed = refl; good = good }
took_all m (g ∷ gs) x f good = go (eqb g.header.cmd push) (eqb g.header.cmd window_ask) refl (λ y. took_all m gs y f.1)
  where
    go : (a b : Bool) → eqb g.header.cmd push ≡ a → ((y : Receiver) → Good m y → Took m y (pushes gs) (all_by_receiving m y gs))
        → Took m x (cond a (g ∷ pushes gs) (pushes gs)) (all_by_receiving m (cond a (pushed m x g) (cond b (asked x) x)) gs)
    go true b e rest =
        let p = push_listed m x g good f.0 (eqb-true g.header.cmd push e) in
        let r = rest (pushed m x g) p.good in
        record { listed = r.listed ∙ ap (λ (y : Listed). list_pushes y (pushes gs)) p.listed; good = r.good }
    go false true e rest = let r = rest (asked x) (record { settles = good.settles; few_acks_lem = good.few_acks_lem }) in
        record { listed = r.listed; good = r.good }
    go false false e rest = rest x good

-- the pool is as long as before, whatever the segments
pushed_pool : (m : ℕ) (x : Receiver) (g : Segment) → length (pushed m x g).pool ≡ length x.pool
unfolding pushed
pushed_pool m x g = go (in_window x.half g.header.sn) (is_new x.half g.header.sn)
  where
    y : Receiver
    y = with_acks (noted x.half g.header) x

    go : (a b : Bool) → length (moved_up_in (cond a (cond b (kept m y g) y) x)).pool ≡ length x.pool
    go true true = length-sets x.pool _ g.payload
    go true false = refl
    go false b = refl

pub took_pool : (m : ℕ) (gs : List Segment) (x : Receiver) → length (all_by_receiving m x gs).pool ≡ length x.pool
unfolding all_by_receiving heard_by_receiving
took_pool m [] x = refl
took_pool m (g ∷ gs) x = took_pool m gs (heard_by_receiving m x g) ∙ go (eqb g.header.cmd push) (eqb g.header.cmd window_ask)
  where
    go : (a b : Bool) → length (cond a (pushed m x g) (cond b (asked x) x)).pool ≡ length x.pool
    go true b = pushed_pool m x g
    go false true = refl
    go false false = refl

-- ---- a read

module _ (m : ℕ) (pool : List ℕ) where
  joined_in_lem : (l : List Held) → joined_in m pool l ≡ joined (map (piece_in m pool) l)
  unfolding joined_in joined
  joined_in_lem [] = refl
  joined_in_lem (h ∷ l) = rw (joined_in_lem l)

  -- the size of a message is its length
  joined_length : (l : List Held) → receive_slots * m ≤ length pool → All (HeldFits m) l
      → length (joined (map (piece_in m pool) l)) ≡ length_of l
  unfolding joined length_of
  joined_length [] long f = refl
  joined_length (h ∷ l) long f =
      let e : length (payload_in m pool h) ≡ h.len =
      simp (length-take, length-drop) (omega (arith, f.0.short, mul-le-mul_right m f.0.low)) in
      simp length-append (omega (arith, e, joined_length l long f.1))

  -- what is ready behind the message at the front
  rest_listed : (r : List Held) → map (piece_in m pool) (drop (front_count r) r) ≡ list_rest (map (piece_in m pool) r)
  rest_listed [] = refl
  rest_listed (h ∷ r) = map_drop (piece_in m pool) (h.fragment + 1) (h ∷ r)

  drop_sound : (k n : ℕ) (r : List Held) (l : List Waiting) → Sound m pool (record { next = n; ready = r; waiting = l })
      → Sound m pool (record { next = n; ready = drop k r; waiting = l })
  drop_sound k n r l s = record {
    pool_long = s.pool_long;
    held = all_append (HeldFits m) (drop k r) (map waiting_held l)
        (all_drop (HeldFits m) k r (all_left (HeldFits m) r (map waiting_held l) s.held))
        (all_right (HeldFits m) r (map waiting_held l) s.held);
    slots_once = once_drop k r (map waiting_held l) s.slots_once;
    few_ready = simp length-drop (omega (arith, s.few_ready));
    next_small = s.next_small;
    numbers_small = s.numbers_small;
    window = s.window;
  }

-- x after its front message is read
abbrev pub read_from : Receiver → Receiver
read_from x = record { half = after_read x.half; pool = x.pool }

pub read_listed : (m : ℕ) (x : Receiver)
    → listed_by m (read_from x) ≡ list_advance x.half.next (list_rest (map (piece_in m x.pool) x.half.ready))
    (map (numbered_in m x.pool) x.half.waiting)
unfolding after_read
read_listed m x =
    advance_listed m x.pool x.half.next (drop (front_count x.half.ready) x.half.ready) x.half.waiting
    ∙ ap (λ (r : List Piece). list_advance x.half.next r (map (numbered_in m x.pool) x.half.waiting))
    (rest_listed m x.pool x.half.ready)

pub read_good : (m : ℕ) (x : Receiver) → Good m x → Good m (read_from x)
unfolding after_read
read_good m x good = record {
  settles = advance_settled m x.pool x.half.next (drop (front_count x.half.ready) x.half.ready) x.half.waiting
      (drop_sound m x.pool (front_count x.half.ready) x.half.next x.half.ready x.half.waiting good.settles.sound);
  few_acks_lem = good.few_acks_lem;
}

-- a < b fails where b <= a holds
turned : (n room : ℕ) (a b : Found) → cond (ltb room n) a b ≡ cond (leb n room) b a
turned n room a b = go (leb n room) refl
  where
    go : (t : Bool) → leb n room ≡ t → cond (ltb room n) a b ≡ cond t b a
    go true e = rw (le-ltb room n (leb-true n room e))
    go false e = rw (lt-ltb room n (leb-false n room e))

-- what a read finds, by the entries
pub answer_listed : (m : ℕ) (pool : List ℕ) (room : ℕ) (l : List Held) → receive_slots * m ≤ length pool → All (HeldFits m) l
    → list_answer (map (piece_in m pool) l) room
    ≡ cond (readable l) (cond (leb (length_of (take (front_count l) l)) room) (Found.message (joined_in m pool (take (front_count l) l)))
    Found.short) Found.nothing
answer_listed m pool room [] long f = refl
answer_listed m pool room (h ∷ l) long f =
    let t : List Held = take (h.fragment + 1) (h ∷ l) in
    let e : joined (take (h.fragment + 1) (map (piece_in m pool) (h ∷ l))) ≡ joined_in m pool t =
    ap joined (sym (map_take (piece_in m pool) (h.fragment + 1) (h ∷ l))) ∙ sym (joined_in_lem m pool t) in
    let n : length (joined_in m pool t) ≡ length_of t =
    ap length (joined_in_lem m pool t) ∙ joined_length m pool t long (all_take (HeldFits m) (h.fragment + 1) (h ∷ l) f) in
    rw (length-map l (piece_in m pool), e, n, turned (length_of t) room Found.short (Found.message (joined_in m pool t)))
