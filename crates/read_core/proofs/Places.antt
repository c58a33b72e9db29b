-- Where the front segment's payload lies, as what showing gives.
-- Assumes nothing.
use mathlib.Core.Path.{◌≡◌, refl, sym, ◌∙◌}
use mathlib.Core.Bool.{Bool, true, false, false≢true}
use mathlib.Core.List.{List, [], ◌∷◌}
use Prim.Native.Nat.{ℕ, ◌+◌, ◌*◌, ◌≤◌, ◌<◌, ◌^◌}
use native.Mathlib.Nat.{mul-le-mul_right}
use native.Mathlib.Decide.{dec_lt}
use native.Mathlib.Omega.{arith}
use lib.ListN.{length, take, drop, get_or}
use lib.Seq.{get_or-take, length-take-le}
use Rattle.protocol.specs.Protocol.{receive_slots}
use Rattle.protocol.specs.Ranges.{mss}
use Rattle.protocol.specs.declared.Refusal.{Refusal}
use Rattle.timing.specs.declared.Record.{Record}
use Rattle.lists.specs.declared.Held.{Held}
use Rattle.session.specs.State.{Outcome, refused, done}
use Rattle.session.specs.Reading.{Part, readable, front_part, showing}
use Rattle.words.specs.Words.{unpack, held_in}
use Rattle.control.specs.Views.{state_of}
use Rattle.control.specs.declared.Link.{Link}
use Rattle.promises.specs.Promises.{shown, place_of, LiesAt, ShowsPart}
use Rattle.deliver.specs.Messages.{InSlots}
use Rattle.deliver.proofs.Fronts.{rest, rest_next}
use Rattle.deliver.proofs.Copies.{in_slot}
use Rattle.read_core.specs.declared.Place.{Place}
use Rattle.read_core.specs.Messages.{Readable}
use Rattle.read_core.specs.Places.{front_outcome, PlaceIs}

-- ---- the front segment

-- slots are below 256
pub slot_fits : (mss s : ℕ) → s < 256 → mss < 2 ^ 16 → s * mss < 2 ^ 64
slot_fits mss s h g = omega (arith, mul-le-mul_right {m = s} {n = 256} mss (omega arith))

-- its payload ends within the slots
part_low : (m : ℕ) (l : List Held) → InSlots m l → (front_part m l).start + (front_part m l).count ≤ receive_slots * m
part_low m [] i = omega arith
part_low m (h ∷ l) i = in_slot m h.slot h.len (receive_slots * m) i.slots.0 i.lengths.0 (omega arith)

-- n words
module _ (m : ℕ) (ws : List ℕ) (n : ℕ) (b : Bool) (e : b ≡ readable (held_in ws n)) where
  -- where a message can be read, there is a front segment
  some : b ≡ true → n ≤ length ws → held_in ws n ≡ unpack (get_or ws 0 0) ∷ rest (take n ws) 1
  some t g = go (dec_lt 0 n)
    where
      go : Dec (0 < n) → held_in ws n ≡ unpack (get_or ws 0 0) ∷ rest (take n ws) 1
      go (yes h) =
          let size : length (take n ws) ≡ n = length-take-le n ws g in
          rest_next (take n ws) 0 (omega arith) ∙ rw (get_or-take n ws 0 0 h)
      go (no h) = let z : n ≡ 0 = omega arith in absurd (false≢true (sym (rw z at e) ∙ t))

  pub front_placed : b ≡ true → n ≤ length ws → InSlots m (held_in ws n)
      → PlaceIs (place_of (front_outcome m (held_in ws n))) (receive_slots * m)
      (record { start = (unpack (get_or ws 0 0)).slot * m; count = (unpack (get_or ws 0 0)).len })
  unfolding front_outcome place_of
  front_placed t g i =
      let low = rw (some t g) at (part_low m (held_in ws n) i) in
      rw (sym e ∙ t, some t g) (record { start = refl; count = refl; within = low })

  pub front_unplaced : b ≡ false → PlaceIs (place_of (front_outcome m (held_in ws n))) (receive_slots * m) (record { start = 0; count = 0 })
  unfolding front_outcome place_of
  front_unplaced f = rw (sym e ∙ f) (record { start = refl; count = refl; within = omega arith })

-- ---- over a block that has passed the checks, and where showing is refused

pub placed : (l : Link) (records : List Record) (acks pool : List ℕ) → Readable l pool → (m : ℕ) → m ≡ mss l.settings → (r : Place)
    → PlaceIs (place_of (front_outcome m (held_in l.ready l.arrival.ready))) (receive_slots * m) r
    → PlaceIs (place_of (showing (state_of l records acks))) (length pool) r
unfolding showing state_of front_outcome place_of
placed l records acks pool ok m e r h =
    let q = rw e at h in record { start = q.start; count = q.count; within = omega (arith, q.within, ok.inside.whole) }

pub unplaced : (o : Outcome Part) (q : Refusal) → o ≡ refused q → (size : ℕ) → PlaceIs (place_of o) size (record { start = 0; count = 0 })
unfolding place_of
unplaced o q e size = rw e (record { start = refl; count = refl; within = omega arith })

-- ---- the part itself

pub shows_part : (o : Outcome Part) (pool : List ℕ) (p : Place) → PlaceIs (place_of o) (length pool) p
    → (address address' : ℕ × ℕ) (part : List ℕ) → LiesAt p.start address address'
    → part ≡ take p.count (drop p.start pool) → ShowsPart o address pool address' part
unfolding place_of
shows_part o pool p q address address' part at b = record { place = rw q.start at at; bytes = b ∙ rw (q.start, q.count) (go o) }
  where
    go : (o : Outcome Part) → take (place_of o).count (drop (place_of o).start pool) ≡ shown o pool
    go (refused r) = refl
    go (done x) = refl
