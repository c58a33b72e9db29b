-- The tests of the two halves, as the code takes them, are the session's.
-- Assumes nothing.
use mathlib.Core.Path.{◌≡◌, refl, sym, ap, ◌∙◌}
use mathlib.Core.Bool.{Bool, true, not, ◌&&◌, and_assoc}
use mathlib.Core.List.{List, [], ◌∷◌, ◌++◌}
use Prim.Native.Nat.{ℕ, ◌≤◌, ◌<◌, ◌^◌}
use native.Mathlib.Omega.{arith}
use borrow.Author.Tests.{le-leb}
use lib.Dec.{leb, ltb, eqb}
use lib.ListN.{length, take, length-map}
use lib.Seq.{length-take-le}
use Rattle.protocol.specs.Protocol.{send_slots, receive_slots, send_window}
use Rattle.protocol.specs.Ranges.{mss}
use Rattle.protocol.specs.Serial.{minus}
use Rattle.protocol.specs.declared.Settings.{Settings}
use Rattle.timing.specs.declared.Record.{Record}
use Rattle.lists.specs.declared.Held.{Held}
use Rattle.lists.specs.declared.Outstanding.{Outstanding}
use Rattle.lists.specs.Views.{outstanding_part, waiting_part}
use Rattle.lists.specs.Joining.{joined}
use Rattle.lists.specs.JoiningLaws.{joined_held}
use Rattle.lists.specs.Orders.{ascending, sent_offset}
use Rattle.slots.specs.Slots.{slots_of, all_below, once}
use Rattle.slots.specs.SlotLaws.{slots_append}
use Rattle.slots.specs.Agree.{distinct_agrees}
use Rattle.session.specs.Decides.{and_parts}
use Rattle.session.specs.State.{Ack, Sending, Receiving, send_held, receive_held, slots}
use Rattle.session.specs.Valid.{
  all,
  held_fits,
  sent_fits,
  slots_fit,
  round_trip_fits,
  numbers_fit,
  waiting_fits,
  settled,
  sending_valid,
  receiving_valid,
}
use Rattle.words.specs.Words.{unpack, held_in, waiting_at, outstanding_at, outstanding_in}
use Rattle.words.proofs.Pairs.{paired_length}
use Rattle.control.specs.declared.Flight.{Flight}
use Rattle.control.specs.declared.Arrival.{Arrival}
use Rattle.control.specs.Views.{sending_of, receiving_of}
use Rattle.checking.specs.Tests.{records_fit, first_of, flight_fits, send_slots_in, sending_fits, receive_slots_in, receiving_fits}
use Rattle.checking.proofs.Ascents.{same, both, off, begins, ahead_ascending, paired_ascending, paired_starts}
use Rattle.checking.proofs.Joins.{few, words_all, send_words_all, paired_words, paired_few, both_low, records_joined, first_joined}

all_append : {A : Type 0} (test : A → Bool) (l r : List A) → all test (l ++ r) ≡ (all test l && all test r)
all_append test [] r = refl
all_append test (x ∷ l) r = rw (all_append test l r) (sym (and_assoc (test x) (all test l) (all test r)))

below_append : (n : ℕ) (l r : List ℕ) → all_below n (l ++ r) ≡ (all_below n l && all_below n r)
unfolding all_below
below_append n [] r = refl
below_append n (x ∷ l) r = rw (below_append n l r) (sym (and_assoc (ltb x n) (all_below n l) (all_below n r)))

-- ---- sending

module _ (f : Flight) (queued outstanding transmissions : List ℕ) (rs : List Record)
    (long : f.outstanding ≤ length outstanding) (side : f.outstanding ≤ length transmissions) (many : f.outstanding ≤ length rs) where
  abbrev os : List Outstanding
  os = outstanding_in outstanding transmissions f.outstanding

  abbrev sends : Sending
  sends = sending_of f queued outstanding transmissions rs

  even : length (take f.outstanding outstanding) ≡ length (take f.outstanding transmissions)
  even = length-take-le f.outstanding outstanding long ∙ sym (length-take-le f.outstanding transmissions side)

  count : length os ≡ f.outstanding
  count =
      paired_length outstanding_at (take f.outstanding outstanding) (take f.outstanding transmissions) f.outstanding
      (length-take-le f.outstanding outstanding long)
      (length-take-le f.outstanding transmissions side)

  room : length os ≤ length rs
  room = omega (arith, count)

  held_parts : send_held sends ≡ held_in outstanding f.outstanding ++ held_in queued f.queued
  held_parts =
      ap (λ (l : List Held). l ++ held_in queued f.queued)
      (joined_held os rs room ∙ paired_words outstanding_at outstanding_part unpack (λ w n. refl) (take f.outstanding outstanding)
      (take f.outstanding transmissions) even)

  pub send_slots_lem : slots (send_held sends) ≡ send_slots_in (take f.queued queued) (take f.outstanding outstanding)
  send_slots_lem = ap slots held_parts ∙ slots_append (held_in outstanding f.outstanding) (held_in queued f.queued)

  module _ (c : Settings) where
    abbrev h₁ : Bool
    h₁ = all (held_fits (mss c)) (held_in outstanding f.outstanding)

    abbrev h₂ : Bool
    h₂ = all (held_fits (mss c)) (held_in queued f.queued)

    abbrev b₁ : Bool
    b₁ = all_below send_slots (slots_of (held_in outstanding f.outstanding))

    abbrev b₂ : Bool
    b₂ = all_below send_slots (slots_of (held_in queued f.queued))

    abbrev o : Bool
    o = once (send_slots_in (take f.queued queued) (take f.outstanding outstanding))

    held_all : all (held_fits (mss c)) (send_held sends) ≡ (h₁ && h₂)
    held_all = ap (all (held_fits (mss c))) held_parts ∙ all_append (held_fits (mss c)) (held_in outstanding f.outstanding)
        (held_in queued f.queued)

    slots_all : slots_fit send_slots (send_held sends) ≡ (b₁ && b₂ && o)
    slots_all =
        sym (distinct_agrees send_slots (send_held sends))
        ∙ ap (λ (l : List ℕ). all_below send_slots l && once l) send_slots_lem
        ∙ ap (λ (b : Bool). b && o) (below_append send_slots (slots_of (held_in outstanding f.outstanding))
        (slots_of (held_in queued f.queued)))

    pub sending_checked : (sending_fits (mss c) (take f.queued queued) (take f.outstanding outstanding) (take f.outstanding transmissions)
        && flight_fits c.mode f.una f.next (take f.outstanding rs) && round_trip_fits c.mode f.rtt)
        ≡ sending_valid c sends
    unfolding sending_valid numbers_fit
    sending_checked =
        let joins = (rw count at (records_joined c.mode f.una (minus f.next f.una) 0 os rs room)) in
        let first = (rw count at (first_joined os rs f.next room)) in
        rw (
          held_all,
          slots_all,
          first,
          send_words_all (mss c) (take f.queued queued),
          send_words_all (mss c) (take f.outstanding outstanding),
          ← paired_few (take f.outstanding outstanding) (take f.outstanding transmissions) even,
        )
        (turn h₁ h₂ b₁ b₂ o (all few os) (records_fit c.mode f.una (minus f.next f.una) 0 (take f.outstanding rs))
        (ascending (sent_offset f.una) 0 (minus f.next f.una) (joined os rs)) (all (sent_fits c.mode) (joined os rs))
        (leb (minus f.next f.una) send_window) (eqb (first_of (take f.outstanding rs) f.next) f.una)
        (round_trip_fits c.mode f.rtt) joins)
      where
        turn : (h₁ h₂ b₁ b₂ o t r a s w g z : Bool) → (t && r) ≡ (a && s)
            → (h₂ && b₂ && (h₁ && b₁) && t && o && (w && g && r) && z) ≡ (h₁ && h₂ && (b₁ && b₂ && o) && (a && w && g) && s && z)
        turn h₁ h₂ b₁ b₂ o t r a s w g z e = same _ _ there back
          where
            there : (h₂ && b₂ && (h₁ && b₁) && t && o && (w && g && r) && z) ≡ true
                → (h₁ && h₂ && (b₁ && b₂ && o) && (a && w && g) && s && z) ≡ true
            there q =
                let p₁ = and_parts (h₂ && b₂ && (h₁ && b₁) && t && o && (w && g && r)) z q in
                let p₂ = and_parts (h₂ && b₂ && (h₁ && b₁) && t && o) (w && g && r) p₁.0 in
                let p₃ = and_parts (w && g) r p₂.1 in
                let p₄ = and_parts w g p₃.0 in
                let p₅ = and_parts (h₂ && b₂ && (h₁ && b₁) && t) o p₂.0 in
                let p₆ = and_parts (h₂ && b₂ && (h₁ && b₁)) t p₅.0 in
                let p₇ = and_parts (h₂ && b₂) (h₁ && b₁) p₆.0 in
                let p₈ = and_parts h₂ b₂ p₇.0 in
                let p₉ = and_parts h₁ b₁ p₇.1 in
                let i = and_parts a s (sym e ∙ both t r p₆.1 p₃.1) in
                both _ _ (both _ _ (both _ _ (both _ _ (both h₁ h₂ p₉.0 p₈.0) (both _ _ (both b₁ b₂ p₉.1 p₈.1) p₅.1))
                (both _ _ (both a w i.0 p₄.0) p₄.1)) i.1) p₁.1

            back : (h₁ && h₂ && (b₁ && b₂ && o) && (a && w && g) && s && z) ≡ true
                → (h₂ && b₂ && (h₁ && b₁) && t && o && (w && g && r) && z) ≡ true
            back q =
                let p₁ = and_parts (h₁ && h₂ && (b₁ && b₂ && o) && (a && w && g) && s) z q in
                let p₂ = and_parts (h₁ && h₂ && (b₁ && b₂ && o) && (a && w && g)) s p₁.0 in
                let p₃ = and_parts (h₁ && h₂ && (b₁ && b₂ && o)) (a && w && g) p₂.0 in
                let p₄ = and_parts (a && w) g p₃.1 in
                let p₅ = and_parts a w p₄.0 in
                let p₆ = and_parts (h₁ && h₂) (b₁ && b₂ && o) p₃.0 in
                let p₇ = and_parts h₁ h₂ p₆.0 in
                let p₈ = and_parts (b₁ && b₂) o p₆.1 in
                let p₉ = and_parts b₁ b₂ p₈.0 in
                let i = and_parts t r (e ∙ both a s p₅.0 p₂.1) in
                both _ _ (both _ _ (both _ _ (both _ _ (both _ _ (both h₂ b₂ p₇.1 p₉.1) (both h₁ b₁ p₇.0 p₉.0)) i.0) p₈.1)
                (both _ _ (both w g p₅.1 p₄.1) i.1)) p₁.1

-- ---- receiving

module _ (a : Arrival) (ready waiting numbers : List ℕ) (long : a.ready ≤ length ready) (wide : a.waiting ≤ length waiting)
    (side : a.waiting ≤ length numbers) (acks : List Ack) where
  abbrev takes : Receiving
  takes = receiving_of a ready waiting numbers acks

  level : length (take a.waiting waiting) ≡ length (take a.waiting numbers)
  level = length-take-le a.waiting waiting wide ∙ sym (length-take-le a.waiting numbers side)

  got_parts : receive_held takes ≡ held_in ready a.ready ++ held_in waiting a.waiting
  got_parts = ap (λ (l : List Held). held_in ready a.ready ++ l)
      (paired_words waiting_at waiting_part unpack (λ w n. refl) (take a.waiting waiting) (take a.waiting numbers) level)

  pub receive_slots_lem : slots (receive_held takes) ≡ receive_slots_in (take a.ready ready) (take a.waiting waiting)
  receive_slots_lem = ap slots got_parts ∙ slots_append (held_in ready a.ready) (held_in waiting a.waiting)

  module _ (c : Settings) (few : a.ready ≤ 128) (most : a.waiting ≤ 128) (noted : length acks ≤ 256) (fits : a.expected < 2 ^ 32) where
    abbrev g₁ : Bool
    g₁ = all (held_fits (mss c)) (held_in ready a.ready)

    abbrev g₂ : Bool
    g₂ = all (held_fits (mss c)) (held_in waiting a.waiting)

    abbrev u : Bool
    u = once (receive_slots_in (take a.ready ready) (take a.waiting waiting))

    got_all : all (held_fits (mss c)) (receive_held takes) ≡ (g₁ && g₂)
    got_all = ap (all (held_fits (mss c))) got_parts ∙ all_append (held_fits (mss c)) (held_in ready a.ready) (held_in waiting a.waiting)

    got_slots : slots_fit receive_slots (receive_held takes) ≡ u
    got_slots =
        sym (distinct_agrees receive_slots (receive_held takes))
        ∙ ap (λ (l : List ℕ). all_below receive_slots l && once l) receive_slots_lem
        ∙ ap (λ (b : Bool). b && u) (both_low (take a.ready ready) (take a.waiting waiting))

    pub receiving_checked : receiving_fits (mss c) a.expected (take a.ready ready) (take a.waiting waiting) (take a.waiting numbers)
        ≡ receiving_valid c takes
    unfolding receiving_valid waiting_fits settled
    receiving_checked =
        let count : length (held_in ready a.ready) ≡ a.ready =
        length-map (take a.ready ready) unpack ∙ length-take-le a.ready ready long in
        rw (
          words_all (mss c) (take a.ready ready),
          words_all (mss c) (take a.waiting waiting),
          got_all,
          got_slots,
          count,
          le-leb a.ready 128 few,
          le-leb (length acks) 256 noted,
          length-take-le a.ready ready long,
          ahead_ascending a.expected fits a.ready (take a.waiting numbers) (omega (arith, length-take-le a.waiting numbers side)),
          paired_ascending a.expected 0 128 (take a.waiting waiting) (take a.waiting numbers) level,
          paired_starts a.expected fits (take a.waiting waiting) (take a.waiting numbers) level,
        )
        (turn u g₁ g₂ (ascending (off a.expected fits) 0 128 (take a.waiting numbers))
        (not (begins a.expected fits (take a.waiting numbers) && ltb a.ready 128)))
      where
        turn : (u g₁ g₂ x y : Bool) → (u && (g₁ && g₂ && (x && y))) ≡ (g₁ && g₂ && u && true && x && y && true)
        turn u g₁ g₂ x y = same _ _ there back
          where
            there : (u && (g₁ && g₂ && (x && y))) ≡ true → (g₁ && g₂ && u && true && x && y && true) ≡ true
            there q =
                let p₁ = and_parts u (g₁ && g₂ && (x && y)) q in
                let p₂ = and_parts (g₁ && g₂) (x && y) p₁.1 in
                let p₃ = and_parts x y p₂.1 in
                both _ _ (both _ _ (both _ _ (both _ _ (both (g₁ && g₂) u p₂.0 p₁.0) refl) p₃.0) p₃.1) refl

            back : (g₁ && g₂ && u && true && x && y && true) ≡ true → (u && (g₁ && g₂ && (x && y))) ≡ true
            back q =
                let p₁ = and_parts (g₁ && g₂ && u && true && x && y) true q in
                let p₂ = and_parts (g₁ && g₂ && u && true && x) y p₁.0 in
                let p₃ = and_parts (g₁ && g₂ && u && true) x p₂.0 in
                let p₄ = and_parts (g₁ && g₂ && u) true p₃.0 in
                let p₅ = and_parts (g₁ && g₂) u p₄.0 in
                both _ _ p₅.1 (both _ _ p₅.0 (both x y p₃.1 p₂.1))
