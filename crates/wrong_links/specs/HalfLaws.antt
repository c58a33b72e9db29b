-- A link that takes datagrams and does nothing: whatever block a link that keeps its promises has, an accepted datagram leaves no number
-- outstanding that one of its acks names, and each of its pushes that is new is held, in its turn.
-- Assumes nothing.
use Rattle.std.proofs.Math.Path.{◌≡◌, refl, ap}
use Rattle.std.proofs.Common.{sym, ◌∙◌, arith, length-append, eqb-true, eq-eqb, Err, Ok}
use Rattle.std.specs.Prelude.{Bool, cond, not, ◌&&◌, ◌||◌, ℕ, suc, ◌+◌, eqb, ltb, length}
use Rattle.std.proofs.Math.Bool.{true, false}
use mathlib.Core.List.{List, [], ◌∷◌, map}
use Rattle.std.proofs.lemmas.List.{length-map}
use Rattle.protocol.specs.Protocol.{push, ack, window_ask, receive_slots}
use Rattle.protocol.specs.Ranges.{mss}
use Rattle.protocol.specs.Serial.{minus, is_before}
use Rattle.protocol.specs.declared.Refusal.{Refusal}
use Rattle.protocol.specs.declared.Settings.{Settings}
use Rattle.wire.specs.declared.Header.{Header}
use Rattle.datagram.specs.Datagrams.{Segment, Parsed, parse}
use Rattle.lists.specs.declared.Sent.{Sent}
use Rattle.lists.specs.declared.Waiting.{Waiting}
use Rattle.lists.specs.declared.Acknowledges.TheVariants as by
use Rattle.lists.specs.Acknowledging.{select, skip_before}
use Rattle.lists.proofs.AcknowledgingLaws.{skip_number}
use Rattle.lists.specs.Orders.{waiting_offset, is_held, insert}
use Rattle.lists.specs.ReceivingLaws.{advance_held}
use Rattle.session.specs.Decides.{or_parts}
use Rattle.session.specs.Slots.{occurs, lowest_free}
use Rattle.session.specs.State.{State, Sending, Receiving, receive_held, slots, with_window, with_outstanding}
use Rattle.session.specs.Input.{
  acknowledged,
  sampled_by,
  heard_by_sending,
  all_by_sending,
  ack_numbers,
  skipped,
  skipped_by_all,
  furthest,
  Receiver,
  kept,
  with_acks,
  noted,
  moved_up,
  in_window,
  is_new,
  pushed,
  asked,
  heard_by_receiving,
  all_by_receiving,
  applied,
  taking,
  input,
}
use Rattle.sizes.specs.Sizes.{enough}
use Rattle.control.specs.Views.{state_of}
use Rattle.control.specs.declared.Link.{Link}
use Rattle.promises.specs.Parts.{Parts, lengths_of, state_in, is_made}
use Rattle.promises.specs.Outcomes.{checked, takes_in_with}
use Rattle.promises.specs.Answers.{Accepts}
use Rattle.promises.specs.Promises.{TookIn, InputPromise, InputLeaves}
use Rattle.wrong_links.specs.Halves.{outstanding_numbers, held_count, is_kept, kept_of}
use Rattle.answers.specs.Answers.{Answer}

-- ---- the sending half

abbrev Gone : ℕ → List Sent → Type 0
Gone n l = occurs n (map (λ (x : Sent). x.record.number) l) ≡ false

-- what is gone stays gone
select_gone : (n : ℕ) (test : Sent → Bool) (l : List Sent) → Gone n l → Gone n (select test l)
unfolding occurs select
select_gone n test [] h = h
select_gone n test (x ∷ l) h =
    let p = or_parts (eqb n x.record.number) (occurs n (map (λ (x : Sent). x.record.number) l)) h in
    go (test x) p.0 (select_gone n test l p.1)
  where
    go : (b : Bool) → eqb n x.record.number ≡ false → Gone n (select test l) → Gone n (cond b (x ∷ select test l) (select test l))
    go true e r = rw (e, r)
    go false e r = r

-- an ack's number is gone
ack_gone : (n : ℕ) (l : List Sent) → Gone n (select (λ (x : Sent). not (eqb x.record.number n)) l)
unfolding occurs select
ack_gone n [] = refl
ack_gone n (x ∷ l) = go (eqb x.record.number n) refl (ack_gone n l)
  where
    turned : eqb x.record.number n ≡ false → eqb n x.record.number ≡ false
    turned e = flip (eqb n x.record.number) refl
      where
        flip : (b : Bool) → eqb n x.record.number ≡ b → b ≡ false
        flip false f = refl
        flip true f =
            let s : eqb x.record.number n ≡ true = eq-eqb x.record.number n (sym (eqb-true n x.record.number f)) in
            absurd (let z : ◌≡◌ {A = ℕ} 0 1 = cc in omega arith)

    go : (b : Bool) → eqb x.record.number n ≡ b → Gone n (select (λ (x : Sent). not (eqb x.record.number n)) l)
        → Gone n (cond (not b) (x ∷ select (λ (x : Sent). not (eqb x.record.number n)) l)
        (select (λ (x : Sent). not (eqb x.record.number n)) l))
    go true e r = r
    go false e r = rw (turned e, r)

module _ (c : Settings) (current n : ℕ) where
  heard_gone : (s : Sending) (h : Header) → Gone n s.outstanding → Gone n (heard_by_sending c current s h).outstanding
  unfolding heard_by_sending acknowledged sampled_by
  heard_gone s h g = go (eqb h.cmd ack)
    where
      passed : Sending
      passed = acknowledged (by.Una h.una) (with_window h.wnd s)

      go : (b : Bool) → Gone n (cond b (acknowledged (by.Ack h.sn) (sampled_by c current h.ts passed)) passed).outstanding
      go true = select_gone n _ _ (select_gone n _ _ g)
      go false = select_gone n _ _ g

  acked_gone : (s : Sending) (h : Header) → eqb h.cmd ack ≡ true → h.sn ≡ n → Gone n (heard_by_sending c current s h).outstanding
  unfolding heard_by_sending acknowledged sampled_by
  acked_gone s h e f = rw (e, f) (ack_gone n _)

  all_gone : (gs : List Segment) (s : Sending) → Gone n s.outstanding → Gone n (all_by_sending c current s gs).outstanding
  unfolding all_by_sending
  all_gone [] s g = g
  all_gone (x ∷ gs) s g = all_gone gs (heard_by_sending c current s x.header) (heard_gone s x.header g)

  -- a number that one of the acks names
  all_acked : (gs : List Segment) (s : Sending) → occurs n (ack_numbers gs) ≡ true → Gone n (all_by_sending c current s gs).outstanding
  unfolding all_by_sending ack_numbers occurs
  all_acked [] s h = absurd (let z : ◌≡◌ {A = ℕ} 0 1 = cc in omega arith)
  all_acked (x ∷ gs) s h = go (eqb x.header.cmd ack) refl h (λ q. all_acked gs (heard_by_sending c current s x.header) q)
    where
      there : Sending
      there = heard_by_sending c current s x.header

      go : (b : Bool) → eqb x.header.cmd ack ≡ b → occurs n (cond b (x.header.sn ∷ ack_numbers gs) (ack_numbers gs)) ≡ true
          → (occurs n (ack_numbers gs) ≡ true → Gone n (all_by_sending c current there gs).outstanding)
          → Gone n (all_by_sending c current there gs).outstanding
      go false e h later = later h
      go true e h later = one (eqb n x.header.sn) refl h
        where
          one : (b : Bool) → eqb n x.header.sn ≡ b → (b || occurs n (ack_numbers gs)) ≡ true
              → Gone n (all_by_sending c current there gs).outstanding
          one true f h = all_gone gs there (acked_gone s x.header e (sym (eqb-true n x.header.sn f)))
          one false f h = later h

skip_numbers : (k : ℕ) (l : List Sent)
    → map (λ (x : Sent). x.record.number) (map (skip_before k) l) ≡ map (λ (x : Sent). x.record.number) l
skip_numbers k [] = refl
skip_numbers k (x ∷ l) = rw (skip_number k x, skip_numbers k l)

skips_gone : (n : ℕ) (s : Sending) (l : List ℕ) → Gone n s.outstanding → Gone n (skipped_by_all s l).outstanding
unfolding skipped
skips_gone n s [] h = h
skips_gone n s (k ∷ l) h = go (not (is_before (furthest k l) s.una) && is_before (furthest k l) s.next)
  where
    go : (b : Bool)
        → Gone n (cond b (with_outstanding s s.una (map (skip_before (furthest k l)) s.outstanding)) s).outstanding
    go true = rw (skip_numbers (furthest k l) s.outstanding) h
    go false = h

applied_gone : (s : State) (pool : List ℕ) (gs : List Segment) (n : ℕ) → occurs n (ack_numbers gs) ≡ true
    → occurs n (outstanding_numbers (applied s pool gs).state.sending) ≡ false
unfolding applied
applied_gone s pool gs n h =
    skips_gone n (all_by_sending s.settings s.current s.sending gs) (ack_numbers gs)
    (all_acked s.settings s.current n gs s.sending h)

-- ---- the receiving half

held_sum : (r : Receiving) → held_count r ≡ length r.ready + length r.waiting
held_sum r = omega (
  arith,
  length-append r.ready (map (λ (w : Waiting). w.held) r.waiting),
  length-map r.waiting (λ (w : Waiting). w.held),
)

moved_held : (r : Receiving) → held_count (moved_up r) ≡ held_count r
moved_held r = ap length (advance_held r.next r.ready r.waiting)

insert_length : (offset : Waiting → ℕ) (a : Waiting) (l : List Waiting) → is_held offset (offset a) l ≡ false
    → length (insert offset a l) ≡ suc (length l)
unfolding is_held insert
insert_length offset a [] h = refl
insert_length offset a (x ∷ l) h =
    let p = or_parts (eqb (offset x) (offset a)) (is_held offset (offset a) l) h in
    rw p.0 (go (ltb (offset a) (offset x)) (insert_length offset a l p.1))
  where
    go : (b : Bool) → length (insert offset a l) ≡ suc (length l)
        → length (cond b (a ∷ x ∷ l) (x ∷ insert offset a l)) ≡ suc (length (x ∷ l))
    go true e = refl
    go false e = ap suc e

new_free : (r : Receiving) (sn : ℕ) → is_new r sn ≡ true → is_held (waiting_offset r.next) (minus sn r.next) r.waiting ≡ false
new_free r sn = go (not (is_before sn r.next)) (is_held (waiting_offset r.next) (minus sn r.next) r.waiting)
  where
    go : (a b : Bool) → (a && not b) ≡ true → b ≡ false
    go a false e = refl
    go true true e = absurd (let z : ◌≡◌ {A = ℕ} 0 1 = cc in omega arith)
    go false true e = absurd (let z : ◌≡◌ {A = ℕ} 0 1 = cc in omega arith)

kept_held : (m : ℕ) (x : Receiver) (g : Segment) → is_new x.half g.header.sn ≡ true
    → held_count (kept m x g).half ≡ suc (held_count x.half)
kept_held m x g h =
    let r = x.half in
    let slot = lowest_free (slots (receive_held r)) receive_slots in
    let w : Waiting = record { number = g.header.sn; held = record { slot = slot; len = g.header.len; fragment = g.header.frg } } in
    omega (
      arith,
      held_sum (kept m x g).half,
      held_sum r,
      insert_length (waiting_offset r.next) w r.waiting (new_free r g.header.sn h),
    )

push_held : (m : ℕ) (x : Receiver) (g : Segment)
    → held_count (pushed m x g).half ≡ cond (in_window x.half g.header.sn && is_new x.half g.header.sn) 1 0
    + held_count x.half
unfolding pushed
push_held m x g = go (in_window x.half g.header.sn) (is_new x.half g.header.sn) refl
  where
    y : Receiver
    y = with_acks (noted x.half g.header) x

    go : (a b : Bool) → is_new x.half g.header.sn ≡ b
        → held_count (moved_up (cond a (cond b (kept m y g) y) x).half) ≡ cond (a && b) 1 0 + held_count x.half
    go true true e = moved_held (kept m y g).half ∙ omega (arith, kept_held m y g e)
    go true false e = moved_held y.half ∙ omega arith
    go false b e = moved_held x.half ∙ omega arith

heard_held : (m : ℕ) (x : Receiver) (g : Segment) → held_count (heard_by_receiving m x g).half ≡ cond (is_kept x.half g) 1 0
    + held_count x.half
unfolding heard_by_receiving
heard_held m x g = go (eqb g.header.cmd push) (eqb g.header.cmd window_ask)
  where
    go : (a b : Bool)
        → held_count (cond a (pushed m x g) (cond b (asked x) x)).half ≡ cond
        (a && (in_window x.half g.header.sn && is_new x.half g.header.sn)) 1 0 + held_count x.half
    go true b = push_held m x g
    go false true = omega arith
    go false false = omega arith

all_held : (m : ℕ) (gs : List Segment) (x : Receiver) → held_count (all_by_receiving m x gs).half ≡ kept_of m x gs + held_count x.half
unfolding all_by_receiving kept_of
all_held m [] x = omega arith
all_held m (g ∷ gs) x = omega (arith, all_held m gs (heard_by_receiving m x g), heard_held m x g)

-- ---- from the promise

not_accepted : {A : Type 0} {r : Refusal} → ◌≡◌ {A = Answer} (Ok tt) (Err r) → A
not_accepted e = absurd (let z : ◌≡◌ {A = ℕ} 0 1 = cc in omega arith)

module _ (l : Link) (p : Parts) (l' : Link) (p' : Parts) (d : List ℕ) (gs : List Segment)
    (is : parse l.settings.conv (mss l.settings) d ≡ Parsed.segments gs) (h : InputPromise d l p (Ok tt) l' p') where
  -- the state after an accepted datagram is that of its segments applied
  pub input_applied : state_in l' p' ≡ (applied (state_in l p) p.receive_pool gs).state
  unfolding takes_in_with input state_of
  input_applied = go (enough (mss l.settings) (lengths_of p)) (is_made l p) h.answer h.leaves
    where
      go : (long made : Bool) → Accepts (Ok tt)
          (checked long made (taking (state_in l p) p.receive_pool (parse l.settings.conv (mss l.settings) d)))
          → InputLeaves (checked long made (taking (state_in l p) p.receive_pool (parse l.settings.conv (mss l.settings) d))) l l' p
          p'
          → state_in l' p' ≡ (applied (state_in l p) p.receive_pool gs).state
      go true true a q = let t : TookIn (applied (state_in l p) p.receive_pool gs) l' p p' = rw is at q in t.stands.state
      go true false a q = not_accepted a
      go false made a q = not_accepted a

  -- a number that one of its acks names is not outstanding any more
  pub acks_remove : (n : ℕ) → occurs n (ack_numbers gs) ≡ true → occurs n (outstanding_numbers (state_in l' p').sending) ≡ false
  acks_remove n e = rw input_applied (applied_gone (state_in l p) p.receive_pool gs n e)

  -- each of its pushes that is new is held, in its turn
  pub pushes_kept : held_count (state_in l' p').receiving ≡ kept_of (mss l.settings)
      (record { half = (state_in l p).receiving; pool = p.receive_pool }) gs + held_count (state_in l p).receiving
  unfolding applied state_of
  pushes_kept =
      ap (λ (s : State). held_count s.receiving) input_applied ∙ all_held (mss l.settings) gs
      (record { half = (state_in l p).receiving; pool = p.receive_pool })
