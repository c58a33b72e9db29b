-- DEMAND 3 THROUGH PARITY: a datagram that the reader returns from frames of one group, as the writer made it from the sender's datagrams,
-- is one of the sender's (`recovered_sent`); so demand 3 holds of receivers that are fed the sender's datagrams as they come or by way of
-- the reader (`FedThrough`), all else being as there. From the promises of both, and of the link.
-- Assumes nothing.
use Rattle.std.specs.Prelude.{◌≡◌, refl, Bool, true, false, cond, ◌&&◌, not, ℕ, zero, suc, ◌+◌, ◌*◌, ◌≤◌, ◌<◌, ltb, leb, get_or}
use Rattle.std.proofs.Common.{sym, ap, ◌∙◌, ⊎_elim, leb-true, ltb-false}
use Rattle.std.proofs.Math.Path.{subst}
use mathlib.Core.List.Memᴰ
use mathlib.Core.List.{
  List,
  [],
  ◌∷◌,
  map,
  Memᴰ,
}
use Rattle.std.proofs.Math.Nat.{mul-le-mul_right}
use native.Mathlib.Omega.{arith}
use Rattle.std.proofs.Math.ListN.{length}
use Rattle.protocol.specs.declared.Settings.{Settings}
use Rattle.wire.specs.LittleEndian.{AllBytes}
use Rattle.session.specs.Decides.{All}
use Rattle.session.specs.Calls.{Call, Event, datagrams_by}
use Rattle.delivery.specs.Accepted.{accepted_for}
use Rattle.delivery.specs.Hearing.{FewPushes, FedWith, HearsMore}
use Rattle.demands.specs.Steps.{Endpoint, SinceOpening}
use Rattle.delivery.specs.Claims.{Delivered}
use Rattle.demands.specs.Claims.{observed}
use Rattle.demands.proofs.Demand3.{demand_3}
use Rattle.frames.specs.declared.Refusal.{Refusal}
use Rattle.frames.specs.declared.Refusal.TheVariants.{ShortPart, SettingOutOfRange, NotAGroup, TooFewFrames}
use Rattle.frames.specs.Lists.{listed, joined, parts, add_up, lengths_of, every, different}
use Rattle.frames.specs.Frames.{frame_at, group}
use Rattle.frames.specs.Outcomes.{Outcome, refused, wrote, settings_ok, lent_ok, lengths_ok, write_of}
use Rattle.frames.specs.Reading.{sequence_of, frame_ok, first_group, held_shard, found, holds, read_group, read_frames, read_of}
use Rattle.frames.specs.PlaceLaws.{length_listed, listed_get_d}
use Rattle.frames.specs.OutcomeLaws.{and_left, and_right}
use Rattle.recovery.specs.RoundTrip.{Given, none, more, Accepted, accepted, frame_most, count_is, written, round_trip, wrote_group}
use Rattle.parity_delivery.specs.Recovered.{Recovered, FedThrough}
use Rattle.parity_delivery.specs.PackedLaws.{joined_most, saw, seen_parts}

-- ---- frames that the writer wrote are frames of the group

record AtPlace {A : Type 0} (f : ℕ → A) (n : ℕ) (x : A) : Type 0 where
  place : ℕ
  below : place < n
  is : x ≡ f place

listed_place : (f : ℕ → List ℕ) (n : ℕ) (x : List ℕ) → Memᴰ x (listed f n) → AtPlace f n x
unfolding listed
listed_place f zero x m = absurd (Memᴰ.not-nil m)
listed_place f (suc n) x m =
    ⊎_elim
    (λ l. let a = listed_place f n x l in record { place = a.place; below = omega (arith, a.below); is = a.is })
    (λ r. record { place = n; below = omega arith; is = Memᴰ.eq_of_singleton r }) (Memᴰ.append_cases (listed f n) m)

given_of_lem : (s : ℕ) (ds fs : List (List ℕ)) → All (λ (f : List ℕ). Memᴰ f (group s ds)) fs → Given s ds fs
unfolding group
given_of_lem s ds [] h = none
given_of_lem s ds (f ∷ fs) h =
    let a = listed_place (frame_at s ds) (length ds + 2) f h.0 in
    subst (λ (x : List ℕ). Given s ds (x ∷ fs)) (sym a.is) (more a.place a.below (given_of_lem s ds fs h.1))

-- ---- a call that is not refused

lent_parts_lem : (size : ℕ) (ns : List ℕ) (n each room slots : ℕ) → lent_ok size ns n each room slots ≡ true → (n * each ≤ room) × (n ≤ slots)
lent_parts_lem size ns n each room slots e = (
  leb-true (n * each) room (and_right (leb (add_up ns) size) (leb (n * each) room)
      (and_left (leb (add_up ns) size && leb (n * each) room) (leb n slots) e)),
  leb-true n slots (and_right (leb (add_up ns) size && leb (n * each) room) (leb n slots) e),
)

record Answered (k mtu : ℕ) (s ns : List ℕ) (room slots : ℕ) (l : List (List ℕ)) : Type 0 where
  lent : lent_ok (length s) ns 10 mtu room slots ≡ true
  enough : k ≤ different (map sequence_of (parts s ns))
  frames : read_frames k mtu (parts s ns) ≡ wrote l

no : {A : Type 0} {r : Refusal} {l : List (List ℕ)} → refused r ≡ wrote l → A
no e = let z : ◌≡◌ {A = ℕ} 0 1 = cc in absurd (omega arith)

answered : (k mtu : ℕ) (s ns : List ℕ) (room slots : ℕ) (l : List (List ℕ)) → read_of k mtu s ns room slots ≡ wrote l
    → Answered k mtu s ns room slots l
unfolding read_of read_frames read_group
answered k mtu s ns room slots l e =
    go (lent_ok (length s) ns 10 mtu room slots) refl (settings_ok k mtu) (every (frame_ok k mtu (first_group k (parts s ns))) (parts s ns))
    refl
    (ltb (different (map sequence_of (parts s ns))) k) refl e
  where
    rest : Bool → Outcome
    rest d =
        cond d (refused TooFewFrames)
        (cond (not (lengths_ok mtu (lengths_of (found k (held_shard k (parts s ns))))
        && every (holds k (first_group k (parts s ns) * (k + 2)) (found k (held_shard k (parts s ns)))) (parts s ns))) (refused NotAGroup)
        (wrote (found k (held_shard k (parts s ns)))))

    go : (a : Bool) → lent_ok (length s) ns 10 mtu room slots ≡ a → (b c : Bool)
        → every (frame_ok k mtu (first_group k (parts s ns))) (parts s ns) ≡ c → (d : Bool)
        → ltb (different (map sequence_of (parts s ns))) k ≡ d →
        cond (not a) (refused ShortPart) (cond (not b) (refused SettingOutOfRange) (cond (not c) (refused NotAGroup) (rest d))) ≡ wrote l →
        Answered k mtu s ns room slots l
    go false ea b c ec d ed h = no h
    go true ea false c ec d ed h = no h
    go true ea true false ec d ed h = no h
    go true ea true true ec true ed h = no h
    go true ea true true ec false ed h =
        record { lent = ea; enough = ltb-false (different (map sequence_of (parts s ns))) k ed; frames = rw (ec, ed) h }

all_mem : (sent l : List (List ℕ)) (d : List ℕ) → All (λ (x : List ℕ). Memᴰ x sent) l → Memᴰ d l → Memᴰ d sent
all_mem sent [] d h m = absurd (Memᴰ.not-nil m)
all_mem sent (x ∷ l) d h m =
    ⊎_elim (λ e. subst (λ (y : List ℕ). Memᴰ y sent) (sym e) h.0) (λ r. all_mem sent l d h.1 r) (Memᴰ.cases_cons m)

-- ---- room

-- what the writer wrote had room
module _ (n k mtu : ℕ) (s ns : List ℕ) (room slots : ℕ) (by : AllBytes s) (a : Accepted n k mtu s ns room slots) where
  few_parts : length (parts s ns) ≤ 10
  few_parts = (written n k mtu s ns room slots by a).few

  group_room : (length (joined (group (n * (k + 2)) (parts s ns))) ≤ room) × (length (group (n * (k + 2)) (parts s ns)) ≤ slots)
  unfolding group
  group_room =
      let q = count_is n k mtu s ns room slots by a in
      let f : (p : ℕ) → p < length (parts s ns) + 2 → length (frame_at (n * (k + 2)) (parts s ns) p) ≤ mtu + 8 = λ p l.
      subst (λ (m : ℕ). length (frame_at (n * (m + 2)) (parts s ns) p) ≤ mtu + 8) q
      (frame_most n mtu (parts s ns) (written n k mtu s ns room slots by a) p l) in
      let j = joined_most (frame_at (n * (k + 2)) (parts s ns)) (mtu + 8) (length (parts s ns) + 2) f in
      let m : (length (parts s ns) + 2) * (mtu + 8) ≤ 12 * (mtu + 8) = mul-le-mul_right (mtu + 8) (omega (arith, few_parts)) in
      let r = lent_parts_lem (length s) ns 12 (mtu + 8) room slots a.lent in (
        omega (arith, j, m, r.0),
        omega (
          arith,
          length_listed (frame_at (n * (k + 2)) (parts s ns)) (length (parts s ns) + 2),
          few_parts,
          r.1,
        ),
      )

  -- and so has what the reader writes
  parts_room : (size back slots' : ℕ) (lens : List ℕ) → lent_ok size lens 10 mtu back slots' ≡ true
      → (length (joined (parts s ns)) ≤ back) × (length (parts s ns) ≤ slots')
  parts_room size back slots' lens e =
      let w = written n k mtu s ns room slots by a in
      let j = joined_most (λ p. get_or (parts s ns) p []) mtu (length (parts s ns)) w.most in
      let m : length (parts s ns) * mtu ≤ 10 * mtu = mul-le-mul_right mtu few_parts in
      let r = lent_parts_lem size lens 10 mtu back slots' e in (
        rw (listed_get_d (parts s ns)) at (let z : length (joined (listed (λ p. get_or (parts s ns) p []) (length (parts s ns)))) ≤
            back = omega
            (arith, j, m, r.0) in z),
        omega (arith, few_parts, r.1),
      )

-- ---- the theorem

pub recovered_sent : (sent : List (List ℕ)) (d : List ℕ) → Recovered sent d → Memᴰ d sent
recovered_sent sent d r =
    let w = saw (write_of r.group r.k r.mtu r.datagrams r.lengths (length r.out) (length r.out_lengths)) r.count
    r.writes.answer in
    let v = saw (read_of r.k r.mtu r.frames r.frame_lengths (length r.back) (length r.back_lengths)) r.back_count
    r.reads.answer in
    let l = wrote_group r.group r.k r.mtu r.datagrams r.lengths (length r.out) (length r.out_lengths) w.parts
    w.is in
    let e : write_of r.group r.k r.mtu r.datagrams r.lengths (length r.out) (length r.out_lengths) ≡ wrote
    (group (r.group * (r.k + 2)) (parts r.datagrams r.lengths)) =
    w.is ∙ ap wrote l in
    let c = accepted r.group r.k r.mtu r.datagrams r.lengths (length r.out) (length r.out_lengths) w.parts w.is in
    let m = group_room r.group r.k r.mtu r.datagrams r.lengths (length r.out) (length r.out_lengths) r.bytes c in
    let a = answered r.k r.mtu r.frames r.frame_lengths (length r.back) (length r.back_lengths) v.parts v.is in
    let g = given_of_lem (r.group * (r.k + 2)) (parts r.datagrams r.lengths) (parts r.frames r.frame_lengths)
    (subst (λ (x : List (List ℕ)). All (λ (f : List ℕ). Memᴰ f x) (parts r.frames r.frame_lengths))
    (seen_parts _ (group (r.group * (r.k + 2)) (parts r.datagrams r.lengths)) r.count r.out r.out_lengths r.out'
    r.out_lengths' r.writes e m.0 m.1) r.given) in
    let t = round_trip r.group r.k r.mtu r.datagrams r.lengths (length r.out) (length r.out_lengths) w.parts
    (parts r.frames r.frame_lengths)
    r.bytes w.is g a.enough in
    let u = parts_room r.group r.k r.mtu r.datagrams r.lengths (length r.out) (length r.out_lengths) r.bytes c
    (length r.frames) (length r.back) (length r.back_lengths) r.frame_lengths a.lent in
    let b : read_of r.k r.mtu r.frames r.frame_lengths (length r.back) (length r.back_lengths) ≡ wrote
    (parts r.datagrams r.lengths) =
    v.is ∙ sym a.frames ∙ t in
    all_mem sent (parts r.datagrams r.lengths) d r.theirs
    (subst (λ (x : List (List ℕ)). Memᴰ d x)
    (seen_parts _ (parts r.datagrams r.lengths) r.back_count r.back r.back_lengths r.back' r.back_lengths' r.reads b
    u.0 u.1) r.among)

fed_with : (sent : List (List ℕ)) (xs : List Call) → FedThrough sent xs → FedWith sent xs
fed_with sent [] f = tt
fed_with sent (Call.take_in d ∷ xs) f = (⊎_elim (λ m. m) (λ r. recovered_sent sent d r) f.0, fed_with sent xs f.1)
fed_with sent (Call.send m ∷ xs) f = fed_with sent xs f
fed_with sent (Call.flush t ∷ xs) f = fed_with sent xs f
fed_with sent (Call.update t ∷ xs) f = fed_with sent xs f
fed_with sent (Call.check t ∷ xs) f = fed_with sent xs f
fed_with sent (Call.read room ∷ xs) f = fed_with sent xs f

-- one sender and two receivers, as in demand 3, the receivers fed with or without parity
pub demand_3_through_parity :
    (c : Settings) (calls firsts seconds : List Call) (events heard₁ heard₂ : List Event) (sender first second : Endpoint) →
    SinceOpening c calls events sender →
    SinceOpening c firsts heard₁ first →
    SinceOpening c seconds heard₂ second →
    FewPushes c (datagrams_by events) →
    FedThrough (datagrams_by events) firsts →
    FedThrough (datagrams_by events) seconds →
    HearsMore firsts seconds →
    Delivered c (accepted_for c events) (observed firsts heard₁ first) (observed seconds heard₂ second)
demand_3_through_parity c calls firsts seconds events heard₁ heard₂ sender first second h h₁ h₂ few fed₁ fed₂ hears =
    demand_3 c calls firsts seconds events heard₁ heard₂ sender first second h h₁ h₂ few
    (fed_with (datagrams_by events) firsts fed₁) (fed_with (datagrams_by events) seconds fed₂) hears
