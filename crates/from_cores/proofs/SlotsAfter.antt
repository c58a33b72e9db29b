-- The send slots of the outstanding segments after a flush and after an input: each below 128, and none twice, where the state
-- before was valid. A flush holds the same segments; an input leaves some of those that were outstanding, in their order.
-- Assumes nothing.
use mathlib.Core.Path.{◌≡◌, refl}
use mathlib.Core.Bool.{Bool, true, false, cond, not, ◌&&◌}
use mathlib.Core.List.{List, [], ◌∷◌, ◌++◌, map, map-append, append_assoc}
use Prim.Native.Nat.{ℕ, zero, suc, ◌<◌}
use native.Mathlib.Omega.{arith}
use lib.Dec.{eqb}
use lib.ListN.{take, drop, take-append-drop}
use Rattle.protocol.specs.Protocol.{send_slots, ack}
use Rattle.protocol.specs.Serial.{plus, is_before}
use Rattle.protocol.specs.declared.Settings.{Settings}
use Rattle.wire.specs.declared.Header.{Header}
use Rattle.datagram.specs.Datagrams.{Segment}
use Rattle.lists.specs.Acknowledging.{select, skip_before}
use Rattle.lists.proofs.AcknowledgingLaws.{skip_held}
use Rattle.lists.specs.declared.Held.{Held}
use Rattle.lists.specs.declared.Sent.{Sent}
use Rattle.lists.specs.declared.Acknowledges.{Acknowledges}
use Rattle.lists.specs.declared.Acknowledges.TheVariants as by
use Rattle.session.specs.State.{State, Sending, send_held, slots, with_window, with_outstanding}
use Rattle.session.specs.Slots.{occurs}
use Rattle.session.specs.Valid.{valid}
use Rattle.session.specs.Decides.{All, or_parts}
use Rattle.session.specs.AllLaws.{all_mapped}
use Rattle.session.specs.Once.{Distinct, once_distinct, distinct_once}
use Rattle.session.proofs.ValidDecides.{valid_decides}
use Rattle.session.specs.Flushing.{numbered, window_of, numbered_count, with_numbered, flushing}
use Rattle.session.specs.MapLaws.{map_unchanged}
use Rattle.session.specs.RuleLaws.{after_unchanged}
use Rattle.session.specs.Input.{acknowledged, sampled_by, heard_by_sending, all_by_sending, furthest, skipped, skipped_by_all, ack_numbers, applied}
use Rattle.records.specs.TableLaws.{AllBelow}
use Rattle.from_cores.proofs.Scattered.{SlotsFit, slots_of}

-- ---- some of a list, in its order

data Some {A : Type 0} : List A → List A → Type 0 where
  none : {l : List A} → Some [] l
  with_first : {x : A} {k l : List A} → Some k l → Some (x ∷ k) (x ∷ l)
  skip : {x : A} {k l : List A} → Some k l → Some k (x ∷ l)

module _ {A : Type 0} where
  some_first : (k r : List A) → Some k (k ++ r)
  some_first [] r = none
  some_first (x ∷ k) r = with_first (some_first k r)

  some_selected : (test : A → Bool) (l : List A) → Some (select test l) l
  unfolding select
  some_selected test [] = none
  some_selected test (x ∷ l) = go (test x) (some_selected test l)
    where
      go : (b : Bool) → Some (select test l) l → Some (cond b (x ∷ select test l) (select test l)) (x ∷ l)
      go true s = with_first s
      go false s = skip s

  all_some : (P : A → Type 0) {k l : List A} → Some k l → All P l → All P k
  all_some P none h = tt
  all_some P (with_first s) h = (h.0, all_some P s h.1)
  all_some P (skip s) h = all_some P s h.1

some_mapped : {A B : Type 0} (f : A → B) {k l : List A} → Some k l → Some (map f k) (map f l)
some_mapped f none = none
some_mapped f (with_first s) = with_first (some_mapped f s)
some_mapped f (skip s) = skip (some_mapped f s)

some_absent : (n : ℕ) {k l : List ℕ} → Some k l → occurs n l ≡ false → occurs n k ≡ false
unfolding occurs
some_absent n none e = refl
some_absent n (with_first {x} {k} {l} s) e = let h = or_parts (eqb n x) (occurs n l) e in rw (h.0, some_absent n s h.1)
some_absent n (skip {x} {k} {l} s) e = some_absent n s (or_parts (eqb n x) (occurs n l) e).1

some_distinct : {k l : List ℕ} → Some k l → Distinct l → Distinct k
some_distinct none d = tt
some_distinct (with_first {x} s) d = (some_absent x s d.0, some_distinct s d.1)
some_distinct (skip s) d = some_distinct s d.1

-- ---- slots that fit, as proofs go through a list

record Fit (l : List ℕ) : Type 0 where
  distinct : Distinct l
  below : All (λ (n : ℕ). n < send_slots) l

fit_some : {k l : List ℕ} → Some k l → Fit l → Fit k
fit_some s f = record { distinct = some_distinct s f.distinct; below = all_some (λ (n : ℕ). n < send_slots) s f.below }

each_below : (n : ℕ) (l : List ℕ) → All (λ (k : ℕ). k < n) l → AllBelow n l
each_below n [] a i h = absurd (omega arith)
each_below n (x ∷ l) a zero h = a.0
each_below n (x ∷ l) a (suc i) h = each_below n l a.1 i (omega arith)

fit : (l : List ℕ) → Fit l → SlotsFit l
fit l f = record {
  once = λ i j h m e. let same : i ≡ j = distinct_once l f.distinct i j (omega arith) m e in omega arith;
  below = each_below send_slots l f.below;
}

-- those of a valid state
held_fit : (s : State) → valid s ≡ true → Fit (slots (send_held s.sending))
held_fit s v =
    let i = ((valid_decides s).holds v).sending in
    record {
      distinct = once_distinct (slots (send_held s.sending)) i.slots_once;
      below = all_mapped (λ (n : ℕ). n < send_slots) (λ (h : Held). h.slot) (send_held s.sending) i.slots_below;
    }

-- ---- a flush

abbrev sent_slots : List Sent → List ℕ
sent_slots l = map (λ (x : Sent). x.held.slot) l

slots_append : (l r : List Held) → slots (l ++ r) ≡ slots l ++ slots r
slots_append l r = map-append (λ (h : Held). h.slot) l r

sent_slots_lem : (l : List Sent) → slots (map (λ (x : Sent). x.held) l) ≡ sent_slots l
sent_slots_lem [] = refl
sent_slots_lem (x ∷ l) = rw (sent_slots_lem l)

numbered_slots : (n : ℕ) (q : List Held) → sent_slots (numbered n q) ≡ slots q
unfolding numbered
numbered_slots n [] = refl
numbered_slots n (h ∷ q) = rw (numbered_slots (plus n 1) q)

flushed_slots : (s : Sending) (k : ℕ) → sent_slots (with_numbered s k) ++ slots (drop k s.queued) ≡ slots (send_held s)
unfolding with_numbered
flushed_slots s k =
    let q = s.queued in
    rw (
      map-append (λ (x : Sent). x.held.slot) s.outstanding (numbered s.next (take k q)),
      numbered_slots s.next (take k q),
      append_assoc (sent_slots s.outstanding) (slots (take k q)) (slots (drop k q)),
      ← slots_append (take k q) (drop k q),
      take-append-drop k q,
      slots_append (map (λ (x : Sent). x.held) s.outstanding) q,
      sent_slots_lem s.outstanding,
    )

pub flush_slots : (s : State) (t : ℕ) (pool : List ℕ) → valid s ≡ true → SlotsFit (slots_of (flushing s t pool).state)
unfolding flushing
flush_slots s t pool v =
    let d = s.sending in
    let k = numbered_count (window_of s) d in
    let some : Some (sent_slots (with_numbered d k)) (slots (send_held d)) =
    rw (← flushed_slots d k) (some_first (sent_slots (with_numbered d k)) (slots (drop k d.queued))) in
    let same = after_unchanged s.settings d.round_trip.timeout t (λ (x : Sent). x.held.slot) (λ x. refl) (with_numbered d k) in
    rw same (fit (sent_slots (with_numbered d k)) (fit_some some (held_fit s v)))

-- ---- an input

abbrev OutFit : Sending → Type 0
OutFit s = Fit (sent_slots s.outstanding)

fit_acknowledged : (arrival : Acknowledges) (s : Sending) → OutFit s → OutFit (acknowledged arrival s)
unfolding acknowledged
fit_acknowledged arrival s f = fit_some (some_mapped (λ (x : Sent). x.held.slot) (some_selected _ s.outstanding)) f

fit_heard : (c : Settings) (current : ℕ) (s : Sending) (h : Header) → OutFit s → OutFit (heard_by_sending c current s h)
unfolding heard_by_sending sampled_by
fit_heard c current s h f = go (eqb h.cmd ack) (fit_acknowledged (by.Una h.una) (with_window h.wnd s) f)
  where
    passed : Sending
    passed = acknowledged (by.Una h.una) (with_window h.wnd s)

    go : (b : Bool) → OutFit passed → OutFit (cond b (acknowledged (by.Ack h.sn) (sampled_by c current h.ts passed)) passed)
    go true k = fit_acknowledged (by.Ack h.sn) (sampled_by c current h.ts passed) k
    go false k = k

fit_all : (c : Settings) (current : ℕ) (s : Sending) (gs : List Segment) → OutFit s → OutFit (all_by_sending c current s gs)
unfolding all_by_sending
fit_all c current s [] f = f
fit_all c current s (g ∷ gs) f = fit_all c current (heard_by_sending c current s g.header) gs (fit_heard c current s g.header f)

fit_skipped : (s : Sending) (n : ℕ) → OutFit s → OutFit (skipped s n)
unfolding skipped
fit_skipped s n f = go (not (is_before n s.una) && is_before n s.next)
  where
    more : Sending
    more = with_outstanding s s.una (map (skip_before n) s.outstanding)

    go : (b : Bool) → OutFit (cond b more s)
    go true = rw (map_unchanged (λ (x : Sent). x.held.slot) (skip_before n) (λ x. rw (skip_held n x)) s.outstanding) f
    go false = f

fit_skips : (s : Sending) (l : List ℕ) → OutFit s → OutFit (skipped_by_all s l)
fit_skips s [] f = f
fit_skips s (n ∷ l) f = fit_skipped s (furthest n l) f

pub input_slots : (s : State) (pool : List ℕ) (gs : List Segment) → valid s ≡ true → SlotsFit (slots_of (applied s pool gs).state)
unfolding applied
input_slots s pool gs v =
    let d = s.sending in
    let held = held_fit s v in
    let first : Some (sent_slots d.outstanding) (slots (send_held d)) =
    rw (slots_append (map (λ (x : Sent). x.held) d.outstanding) d.queued, sent_slots_lem d.outstanding)
    (some_first (sent_slots d.outstanding) (slots d.queued)) in
    fit _ (fit_skips _ (ack_numbers gs) (fit_all s.settings s.current d gs (fit_some first held)))
