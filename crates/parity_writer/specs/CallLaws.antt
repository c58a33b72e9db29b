-- The writer's tests in turn.
-- Assumes nothing.
use Rattle.std.specs.Prelude.{◌≡◌, true, false, ◌&&◌, List, ℕ, ◌+◌, ◌*◌, ◌≤◌, ◌<◌, eqb, leb}
use Rattle.std.proofs.Math.Path.{sym}
use Rattle.std.proofs.Common.{◌∙◌, mul-le-mul_right, arith}
use borrow.Author.Tests.{leb-true, eqb-true, eq-eqb, ne_eqb, le-leb, lt-leb}
use Rattle.std.proofs.Math.ListN.{length}
use Rattle.frames.specs.declared.Refusal.TheVariants.{ShortPart, SettingOutOfRange, NotAGroup, LateGroup}
use Rattle.frames.specs.Lists.{parts, add_up, largest}
use Rattle.frames.specs.Frames.{frame_at, group}
use Rattle.frames.specs.Outcomes.{refused, wrote, settings_ok, lent_ok, lengths_ok, write_of}
use Rattle.frames.specs.PlaceLaws.{length_listed}
use Rattle.frames.specs.PartLaws.{length_parts}
use Rattle.frames.specs.OutcomeLaws.{and_left, and_right, add_up_most}
use Rattle.parity_writer.specs.Room.{Fits}

pub product_fits : (a b : ℕ) → a < 4294967296 → b < 4294967298 → a * b < 18446744073709551616
product_fits a b ha hb =
    let l : a ≤ 4294967295 = omega arith in
    omega (arith, mul-le-mul_right b l)

-- as many lengths as k, each right
module _ (ns : List ℕ) (j k m mtu : ℕ) (ek : j ≡ k) (em : m ≡ mtu) where
  pub right : length ns ≡ j → true ≡ lengths_ok m ns → (eqb (length ns) k && lengths_ok mtu ns) ≡ true
  right e f = rw (← em, ← f, ← ek, eq-eqb (length ns) j e)

  pub wrong_count : (length ns ≡ j → ⊥) → (eqb (length ns) k && lengths_ok mtu ns) ≡ false
  wrong_count d = rw (← ek, ne_eqb (length ns) j d)

  pub wrong_lengths : length ns ≡ j → false ≡ lengths_ok m ns → (eqb (length ns) k && lengths_ok mtu ns) ≡ false
  wrong_lengths e f = rw (← em, ← f, ← ek, eq-eqb (length ns) j e)

module _ (n k mtu : ℕ) (s ns : List ℕ) (room slots : ℕ) where
  pub write_7 : lent_ok (length s) ns 12 (mtu + 8) room slots ≡ false → write_of n k mtu s ns room slots ≡ refused ShortPart
  unfolding write_of
  write_7 a = rw a

  pub write_12 : lent_ok (length s) ns 12 (mtu + 8) room slots ≡ true → settings_ok k mtu ≡ false
      → write_of n k mtu s ns room slots ≡ refused SettingOutOfRange
  unfolding write_of
  write_12 a b = rw (a, b)

  pub write_21 : lent_ok (length s) ns 12 (mtu + 8) room slots ≡ true → settings_ok k mtu ≡ true
      → (eqb (length ns) k && lengths_ok mtu ns) ≡ false
      → write_of n k mtu s ns room slots ≡ refused NotAGroup
  unfolding write_of
  write_21 a b c = rw (a, b, c)

  pub write_23 : lent_ok (length s) ns 12 (mtu + 8) room slots ≡ true → settings_ok k mtu ≡ true
      → (eqb (length ns) k && lengths_ok mtu ns) ≡ true
      → 4294967284 ≤ n * (k + 2) → write_of n k mtu s ns room slots ≡ refused LateGroup
  unfolding write_of
  write_23 a b c d = rw (a, b, c, le-leb 4294967284 (n * (k + 2)) d)

  pub write_all : lent_ok (length s) ns 12 (mtu + 8) room slots ≡ true → settings_ok k mtu ≡ true
      → (eqb (length ns) k && lengths_ok mtu ns) ≡ true
      → n * (k + 2) < 4294967284 → write_of n k mtu s ns room slots ≡ wrote (group (n * (k + 2)) (parts s ns))
  unfolding write_of
  write_all a b c d = rw (a, b, c, lt-leb 4294967284 (n * (k + 2)) d)

  pub count_right : (eqb (length ns) k && lengths_ok mtu ns) ≡ true → length ns ≡ k
  count_right c = eqb-true (length ns) k (and_left (eqb (length ns) k) (lengths_ok mtu ns) c)

  pub group_count : (eqb (length ns) k && lengths_ok mtu ns) ≡ true → k + 2 ≡ length (group (n * (k + 2)) (parts s ns))
  unfolding group
  group_count c =
      let e : length ns ≡ k = count_right c in
      let l : length (parts s ns) ≡ length ns = length_parts s ns in
      sym (length_listed (frame_at (n * (k + 2)) (parts s ns)) (length (parts s ns) + 2) ∙ omega arith)

  pub fits_all : (start : ℕ) → start < 4294967284 → lent_ok (length s) ns 12 (mtu + 8) room slots ≡ true → settings_ok k mtu ≡ true
      → (eqb (length ns) k && lengths_ok mtu ns) ≡ true
      → Fits start s ns room slots
  fits_all start d a b c =
      let e : length ns ≡ k = count_right c in
      let few : k ≤ 10 = leb-true k 10 (and_right (leb 1 k) (leb k 10)
      (and_left (leb 1 k && leb k 10) (leb 50 mtu) (and_left (leb 1 k && leb k 10 && leb 50 mtu) (leb mtu 1400) b))) in
      let m : mtu ≤ 1400 = leb-true mtu 1400 (and_right (leb 1 k && leb k 10 && leb 50 mtu) (leb mtu 1400) b) in
      let w : add_up ns ≤ length s = leb-true (add_up ns) (length s)
      (and_left (leb (add_up ns) (length s)) (leb (12 * (mtu + 8)) room)
      (and_left (leb (add_up ns) (length s) && leb (12 * (mtu + 8)) room) (leb 12 slots) a)) in
      let r : 12 * (mtu + 8) ≤ room =
      leb-true (12 * (mtu + 8)) room (and_right (leb (add_up ns) (length s)) (leb (12 * (mtu + 8)) room)
      (and_left (leb (add_up ns) (length s) && leb (12 * (mtu + 8)) room) (leb 12 slots) a)) in
      let t : 12 ≤ slots = leb-true 12 slots (and_right (leb (add_up ns) (length s) && leb (12 * (mtu + 8)) room) (leb 12 slots) a) in
      let u : (add_up ns ≤ length ns * mtu) × (largest ns ≤ mtu) = add_up_most mtu ns (and_right (eqb (length ns) k) (lengths_ok mtu ns) c) in
      let v : length ns * mtu ≤ 10 * mtu = mul-le-mul_right mtu (omega arith) in
      record { whole = w; bytes = omega (arith, u.0, u.1); lengths = omega arith; small = omega (arith, u.1); numbers = omega arith }
