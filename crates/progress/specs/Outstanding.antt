-- The sending half by numbers alone: which are outstanding after taking in, and after a flush that numbers any count of queued segments.
-- A proof layer: no statement cites it.
-- Assumes nothing.
use Rattle.std.specs.Prelude.{◌≡◌, ◌⊎◌, Bool, cond, not, ◌||◌, ◌&&◌, ℕ, suc, ◌+◌, ◌^◌, ◌≤◌, ◌<◌, ltb, length, take}
use Rattle.std.proofs.Math.Path.{refl, ap}
use Rattle.std.proofs.Common.{sym, ◌∙◌, inl, inr, arith, ltb-true, ltb-false, lt-ltb, le-ltb, eqb-true, length-take}
use Rattle.std.proofs.Math.Bool.{true, false}
use Rattle.std.proofs.lemmas.Bool.{false≢true, eqb-false}
use mathlib.Core.List.{List, [], ◌∷◌, ◌++◌, map}
use Rattle.std.proofs.Math.Dec.{eqb}
use Rattle.protocol.specs.Protocol.{ack}
use Rattle.protocol.specs.Serial.{plus, minus, is_before, is_after}
use Rattle.protocol.specs.declared.Settings.{Settings}
use Rattle.wire.specs.declared.Header.{Header}
use Rattle.datagram.specs.Datagrams.{Segment}
use Rattle.retransmission.specs.TransmissionLaws.{transmission_number}
use Rattle.lists.specs.declared.Held.{Held}
use Rattle.lists.specs.declared.Sent.{Sent}
use Rattle.lists.specs.Orders.{sent_offset}
use Rattle.lists.specs.Acknowledging.{select, filter, first_number_or, skip_before}
use Rattle.lists.proofs.AcknowledgingLaws.{skip_number}
use Rattle.session.specs.Slots.{occurs}
use Rattle.session.specs.State.{Sending, Receiving, with_outstanding}
use Rattle.session.specs.Input.{acknowledges, heard_by_sending, all_by_sending, furthest, skipped, skipped_by_all}
use Rattle.session.specs.Flushing.{numbered, with_numbered}
use Rattle.session.specs.Decides.{All, and_parts}
use Rattle.session.specs.AllLaws.{all_append, all_mapped, all_unmapped, all_weaker, all_select}
use Rattle.session.specs.MapLaws.{map-append, map_unchanged}
use Rattle.session.specs.RuleLaws.{after_unchanged}
use Rattle.session.specs.Ascending.{Ascends}
use Rattle.session.specs.SendOrder.{Numbers}
use Rattle.session.specs.HeardLaws.{heard_outstanding}
use Rattle.delivery.specs.FreeSlots.{occurs_append}
use Rattle.delivery.specs.SendingFlushes.{flushed_with}
use Rattle.delivery.proofs.FedLaws.{or-true, or_right}
use Rattle.progress.specs.SmallNumbers.{after_small, or_left, or_both}
use Rattle.progress.specs.Had.{has, waiting_numbers, Known, known_next}

abbrev pub numbers_of : List Sent → List ℕ
numbers_of l = map (λ (x : Sent). x.record.number) l

-- ---- those that pass a test taken out

module _ (test : ℕ → Bool) where
  abbrev left : List Sent → List Sent
  left l = filter (λ n. not (test n)) l

  -- what holds of all holds of those left
  all_staying : (P : ℕ → Type 0) (l : List Sent) → All P (numbers_of l) → All P (numbers_of (left l))
  all_staying P l a =
      all_mapped P (λ (x : Sent). x.record.number) (left l)
      (all_select (λ (x : Sent). not (test x.record.number)) (λ (x : Sent). P x.record.number) l
      (all_unmapped P (λ (x : Sent). x.record.number) l a))

  -- one that does not pass stays
  staying : (n : ℕ) (l : List Sent) → test n ≡ false → occurs n (numbers_of l) ≡ true → occurs n (numbers_of (left l)) ≡ true
  unfolding select occurs
  staying n [] e h = h
  staying n (x ∷ l) e h = go (eqb n x.record.number) refl (test x.record.number) refl h (staying n l e)
    where
      go : (a : Bool) → eqb n x.record.number ≡ a → (b : Bool) → test x.record.number ≡ b
          → (a || occurs n (numbers_of l)) ≡ true
          → (occurs n (numbers_of l) ≡ true → occurs n (numbers_of (left l)) ≡ true)
          → occurs n (numbers_of (cond (not b) (x ∷ left l) (left l))) ≡ true
      go a p false q h later =
          or_both a (occurs n (numbers_of l)) (eqb n x.record.number) (occurs n (numbers_of (left l))) (λ t. p ∙ t) later h
      go true p true q h later = absurd (false≢true (sym e ∙ ap test (eqb-true n x.record.number p) ∙ q))
      go false p true q h later = later h

  -- of those left the test fails
  all_failing : (P : ℕ → Type 0) (l : List Sent) → All (λ (n : ℕ). test n ≡ false → P n) (numbers_of l) → All P (numbers_of (left l))
  unfolding select
  all_failing P [] a = tt
  all_failing P (x ∷ l) a = go (test x.record.number) refl (all_failing P l a.1)
    where
      go : (b : Bool) → test x.record.number ≡ b → All P (numbers_of (left l)) → All P (numbers_of (cond (not b) (x ∷ left l) (left l)))
      go true e i = i
      go false e i = (a.0 e, i)

-- ---- taking in

-- una is not past rcv_nxt of the half that wrote it, and what it acknowledges is had there
abbrev pub Says : Receiving → Segment → Type 0
Says r g = (g.header.una ≤ r.next) × (g.header.cmd ≡ ack → has r g.header.sn ≡ true)

-- what such a segment acknowledges is had
said_had : (N next : ℕ) (r : Receiving) (g : Segment) → N ≤ 2 ^ 30 → Known N r → Says r g
    → (n : ℕ) → n < N → acknowledges next g.header n ≡ true → has r n ≡ true
said_had N next r g top k s n l e = go (or-true by_una by_ack e)
  where
    by_una : Bool
    by_una = not (is_after g.header.una next) && is_after g.header.una n

    by_ack : Bool
    by_ack = eqb g.header.cmd ack && eqb n g.header.sn

    go : (by_una ≡ true) ⊎ (by_ack ≡ true) → has r n ≡ true
    go (inl f) =
        let x = known_next N r k in
        let z = (and_parts (not (is_after g.header.una next)) (is_after g.header.una n) f).1 in
        let small = after_small g.header.una n (omega (arith, s.0, x)) (omega arith) in
        let under : n < g.header.una = ltb-true n g.header.una (sym small ∙ z) in
        or_left (ltb n r.next) (occurs n (waiting_numbers r.waiting)) (lt-ltb n r.next (omega (arith, under, s.0)))
    go (inr f) =
        let z = and_parts (eqb g.header.cmd ack) (eqb n g.header.sn) f in
        ap (has r) (eqb-true n g.header.sn z.1) ∙ s.1 (eqb-true g.header.cmd ack z.0)

-- neither of two tests passes, so the first does not
first_fails : (x y : Bool) → (x || y) ≡ false → x ≡ false
first_fails true y e = e
first_fails false y e = refl

module _ (c : Settings) (current : ℕ) where
  heard_numbers : (s : Sending) (h : Header) →
      numbers_of (heard_by_sending c current s h).outstanding ≡ numbers_of (filter (λ n. not (acknowledges s.next h n)) s.outstanding)
  heard_numbers s h = ap numbers_of (heard_outstanding c current s h)

  -- what holds of all outstanding numbers still does
  pub all_preserved : (P : ℕ → Type 0) (gs : List Segment) (s : Sending) →
      All P (numbers_of s.outstanding) → All P (numbers_of (all_by_sending c current s gs).outstanding)
  unfolding all_by_sending
  all_preserved P [] s a = a
  all_preserved P (g ∷ gs) s a =
      all_preserved P gs (heard_by_sending c current s g.header)
      (rw (heard_numbers s g.header) (all_staying (acknowledges s.next g.header) P s.outstanding a))

  -- what is outstanding no more is had by the other end
  pub all_gone : (N : ℕ) (r : Receiving) → N ≤ 2 ^ 30 → Known N r → (gs : List Segment) (s : Sending) → All (Says r) gs
      → ((n : ℕ) → n < N → (occurs n (numbers_of s.outstanding) || has r n) ≡ true)
      → (n : ℕ) → n < N → (occurs n (numbers_of (all_by_sending c current s gs).outstanding) || has r n) ≡ true
  unfolding all_by_sending
  all_gone N r top k [] s a g = g
  all_gone N r top k (h ∷ gs) s a g =
      all_gone N r top k gs (heard_by_sending c current s h.header) a.1 (λ n l. one n l (acknowledges s.next h.header n) refl)
    where
      s' : Sending
      s' = heard_by_sending c current s h.header

      one : (n : ℕ) → n < N → (b : Bool) → acknowledges s.next h.header n ≡ b
          → (occurs n (numbers_of s'.outstanding) || has r n) ≡ true
      one n l true e = or_right (occurs n (numbers_of s'.outstanding)) (has r n) (said_had N s.next r h top k a.0 n l e)
      one n l false e =
          or_both (occurs n (numbers_of s.outstanding)) (has r n) (occurs n (numbers_of s'.outstanding)) (has r n)
          (λ x. ap (occurs n) (heard_numbers s h.header) ∙ staying (acknowledges s.next h.header) n s.outstanding e x)
          (λ x. x)
          (g n l)

  -- a una v that is not past snd_nxt leaves nothing below it
  una_floor : (v : ℕ) (s : Sending) (g : Segment) → s.next ≤ 2 ^ 30 → v ≤ s.next → g.header.una ≡ v
      → All (λ (n : ℕ). n < s.next) (numbers_of s.outstanding)
      → All (λ (n : ℕ). v ≤ n) (numbers_of (heard_by_sending c current s g.header).outstanding)
  una_floor v s g top l e a =
      rw (heard_numbers s g.header)
      (all_failing (acknowledges s.next g.header) (λ (n : ℕ). v ≤ n) s.outstanding
      (all_weaker (λ (n : ℕ). n < s.next) (λ (n : ℕ). acknowledges s.next g.header n ≡ false → v ≤ n) at
      (numbers_of s.outstanding) a))
    where
      una : ℕ
      una = g.header.una

      -- it is not after snd_nxt, so it counts
      counts : is_after g.header.una s.next ≡ false
      counts =
          after_small g.header.una s.next (omega (arith, e)) (omega arith)
          ∙ le-ltb s.next g.header.una (omega (arith, e))

      at : (n : ℕ) → n < s.next → acknowledges s.next g.header n ≡ false → v ≤ n
      at n h q =
          let p : (not (is_after una s.next) && is_after una n) ≡ false =
          first_fails (not (is_after una s.next) && is_after una n) (eqb g.header.cmd ack && eqb n g.header.sn) q in
          let z : is_after una n ≡ false = rw counts at p in
          omega (arith, e, ltb-false n una (sym (after_small una n (omega (arith, e)) (omega arith)) ∙ z))

  pub floor_all : (v : ℕ) (gs : List Segment) (s : Sending) → 0 < length gs → s.next ≤ 2 ^ 30 → v ≤ s.next
      → All (λ (g : Segment). g.header.una ≡ v) gs
      → All (λ (n : ℕ). n < s.next) (numbers_of s.outstanding)
      → All (λ (n : ℕ). v ≤ n) (numbers_of (all_by_sending c current s gs).outstanding)
  unfolding all_by_sending
  floor_all v [] s some top l a u = absurd (omega arith)
  floor_all v (g ∷ gs) s some top l a u =
      all_preserved (λ (n : ℕ). v ≤ n) gs (heard_by_sending c current s g.header) (una_floor v s g top l a.0 u)

-- skips change no number
skipped_numbers : (s : Sending) (n : ℕ) → numbers_of (skipped s n).outstanding ≡ numbers_of s.outstanding
unfolding skipped
skipped_numbers s n = go (not (is_before n s.una) && is_before n s.next)
  where
    go : (b : Bool) →
        numbers_of (cond b (with_outstanding s s.una (map (skip_before n) s.outstanding)) s).outstanding ≡ numbers_of s.outstanding
    go true = map_unchanged (λ (x : Sent). x.record.number) (skip_before n) (skip_number n) s.outstanding
    go false = refl

pub skips_numbers : (s : Sending) (l : List ℕ) → numbers_of (skipped_by_all s l).outstanding ≡ numbers_of s.outstanding
skips_numbers s [] = refl
skips_numbers s (n ∷ l) = skipped_numbers s (furthest n l)

-- ---- a flush that numbers k queued segments

numbered_under : (n : ℕ) (q : List Held) → n + length q ≤ 2 ^ 30 → All (λ (m : ℕ). m < n + length q) (numbers_of (numbered n q))
unfolding numbered
numbered_under n [] h = tt
numbered_under n (x ∷ q) h =
    let z : plus n 1 ≡ suc n = omega arith in (
      omega arith,
      all_weaker (λ (m : ℕ). m < plus n 1 + length q) (λ (m : ℕ). m < n + suc (length q)) (λ m i. omega (arith, z))
          (numbers_of (numbered (plus n 1) q))
          (numbered_under (plus n 1) q (omega (arith, z))),
    )

numbered_has : (n : ℕ) (q : List Held) → n + length q ≤ 2 ^ 30 → (m : ℕ) → n ≤ m → m < n + length q
    → occurs m (numbers_of (numbered n q)) ≡ true
unfolding numbered occurs
numbered_has n [] h m a b = absurd (omega arith)
numbered_has n (x ∷ q) h m a b =
    let z : plus n 1 ≡ suc n = omega arith in
    go (eqb m n) refl (λ i j. numbered_has (plus n 1) q (omega (arith, z)) m (omega (arith, z)) (omega (arith, z)))
  where
    go : (t : Bool) → eqb m n ≡ t → (suc n ≤ m → m < suc n + length q → occurs m (numbers_of (numbered (plus n 1) q)) ≡ true)
        → (t || occurs m (numbers_of (numbered (plus n 1) q))) ≡ true
    go true e later = refl
    go false e later = later (omega (arith, eqb-false m n e)) (omega arith)

module _ (c : Settings) (t k : ℕ) (s : Sending) (few : k ≤ length s.queued) (top : s.next + k ≤ 2 ^ 30) where
  abbrev new : List Sent
  new = numbered s.next (take k s.queued)

  count : length (take k s.queued) ≡ k
  count = simp length-take (omega arith)

  flush_numbers : numbers_of (flushed_with c t k s).outstanding ≡ numbers_of s.outstanding ++ numbers_of new
  unfolding with_numbered
  flush_numbers =
      after_unchanged c s.round_trip.timeout t (λ (x : Sent). x.record.number)
      (λ x. transmission_number c s.round_trip.timeout t x.transmissions x.record)
      (s.outstanding ++ new)
      ∙ map-append (λ (x : Sent). x.record.number) s.outstanding new

  -- all outstanding are below snd_nxt + k
  pub flush_under : All (λ (n : ℕ). n < s.next) (numbers_of s.outstanding)
      → All (λ (n : ℕ). n < s.next + k) (numbers_of (flushed_with c t k s).outstanding)
  flush_under a =
      rw flush_numbers
      (all_append (λ (n : ℕ). n < s.next + k) (numbers_of s.outstanding) (numbers_of new)
      (all_weaker (λ (n : ℕ). n < s.next) (λ (n : ℕ). n < s.next + k) (λ n i. omega arith) (numbers_of s.outstanding) a)
      (rw count at (numbered_under s.next (take k s.queued) (rw count top))))

  -- a new number is outstanding, and so is each that was
  pub flush_has : (n : ℕ) → s.next ≤ n → n < s.next + k → occurs n (numbers_of (flushed_with c t k s).outstanding) ≡ true
  flush_has n a b =
      ap (occurs n) flush_numbers
      ∙ occurs_append n (numbers_of s.outstanding) (numbers_of new)
      ∙ or_right (occurs n (numbers_of s.outstanding)) (occurs n (numbers_of new))
      (numbered_has s.next (take k s.queued) (rw count top) n a (rw count b))

  pub flush_old : (n : ℕ) → occurs n (numbers_of s.outstanding) ≡ true → occurs n (numbers_of (flushed_with c t k s).outstanding) ≡ true
  flush_old n e =
      ap (occurs n) flush_numbers
      ∙ occurs_append n (numbers_of s.outstanding) (numbers_of new)
      ∙ or_left (occurs n (numbers_of s.outstanding)) (occurs n (numbers_of new)) e

-- ---- snd_una is the lowest of them

pub una_least : (una next r : ℕ) (l : List Sent) → una ≤ 2 ^ 30 → All (λ (n : ℕ). n < 2 ^ 30) (numbers_of l) → Numbers una next l
    → occurs r (numbers_of l) ≡ true → una ≤ r
unfolding occurs
una_least una next r l u a h = go 0 l a h.ascends
  where
    go : (least : ℕ) (l : List Sent) → All (λ (n : ℕ). n < 2 ^ 30) (numbers_of l) → Ascends (sent_offset una) least (minus next una) l
        → occurs r (numbers_of l) ≡ true → una ≤ r
    go least [] a i e = absurd (false≢true e)
    go least (x ∷ l) a i e = at (eqb r x.record.number) refl e (go (sent_offset una x + 1) l a.1 i.2)
      where
        at : (b : Bool) → eqb r x.record.number ≡ b → (b || occurs r (numbers_of l)) ≡ true
            → (occurs r (numbers_of l) ≡ true → una ≤ r) → una ≤ r
        at true f e later = omega (arith, eqb-true r x.record.number f, i.1, a.0, h.apart)
        at false f e later = later e

-- what holds of all outstanding numbers and of snd_nxt holds of snd_una
pub una_is : (P : ℕ → Type 0) (una next : ℕ) (l : List Sent) → Numbers una next l → All P (numbers_of l) → P next → P una
unfolding first_number_or
una_is P una next l h a p = rw (← h.first) (go l a)
  where
    go : (l : List Sent) → All P (numbers_of l) → P (first_number_or l next)
    go [] a = p
    go (x ∷ l) a = a.0
