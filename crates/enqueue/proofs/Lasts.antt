-- The last queued segment in the array of words: its room, and a word put in its place.
-- Assumes nothing.
use mathlib.Core.Path.{◌≡◌, refl, sym, ap, ◌∙◌}
use mathlib.Core.Bool.{Bool, true, false}
use mathlib.Core.List.{List, [], ◌∷◌, ◌++◌}
use Prim.Native.Nat.{ℕ, zero, suc, ◌+◌, ◌-◌, ◌*◌, ◌≤◌, ◌<◌, min}
use native.Mathlib.Omega.{arith}
use lib.ListN.{length, take, drop, set, get_or, length-map, length-set}
use lib.Seq.{sets, length-take-le}
use Rattle.pools.specs.Parts.{part}
use Rattle.protocol.specs.Protocol.{send_slots}
use Rattle.lists.specs.declared.Held.{Held}
use Rattle.session.specs.Decides.{All}
use Rattle.session.specs.Sending.{filled}
use Rattle.session.specs.FillLaws.{room_of, filled_none, filled_some}
use Rattle.words.specs.Words.{unpack, held_in}
use Rattle.enqueue.specs.Enqueueing.{Fills}
use Rattle.enqueue.proofs.Payloads.{slot_end}

length_held : (ws : List ℕ) (n : ℕ) → n ≤ length ws → length (held_in ws n) ≡ n
length_held ws n h = length-map (take n ws) unpack ∙ length-take-le n ws h

-- the last of n + 1
last_at : (ws : List ℕ) (n : ℕ) → n < length ws → drop n (held_in ws (suc n)) ≡ unpack (get_or ws n 0) ∷ []
last_at [] n h = absurd (omega arith)
last_at (w ∷ ws) zero h = refl
last_at (w ∷ ws) (suc n) h = last_at ws n (omega arith)

put_at : (ws : List ℕ) (n w : ℕ) → n < length ws → held_in (set ws n w) (suc n) ≡ take n (held_in ws (suc n)) ++ (unpack w ∷ [])
put_at [] n w h = absurd (omega arith)
put_at (v ∷ ws) zero w h = refl
put_at (v ∷ ws) (suc n) w h = ap {B = List Held} (λ (l : List Held). unpack v ∷ l) (put_at ws n w (omega arith))

module _ (ws : List ℕ) (n : ℕ) (some : 0 < n) (most : n ≤ length ws) where
  one_less : suc (n - 1) ≡ n
  one_less = omega arith

  pub last_word : drop (length (held_in ws n) - 1) (held_in ws n) ≡ unpack (get_or ws (n - 1) 0) ∷ []
  last_word = rw (length_held ws n most) (rw one_less at (last_at ws (n - 1) (omega arith)))

  pub put_last : (w : ℕ) → held_in (set ws (n - 1) w) n ≡ take (length (held_in ws n) - 1) (held_in ws n) ++ (unpack w ∷ [])
  put_last w = rw (length_held ws n most) (rw one_less at (put_at ws (n - 1) w (omega arith)))

all_at : (P : Held → Type 0) (ws : List ℕ) (n i : ℕ) → i < n → n ≤ length ws → All P (held_in ws n) → P (unpack (get_or ws i 0))
all_at P ws zero i h g a = absurd (omega arith)
all_at P [] (suc n) i h g a = absurd (omega arith)
all_at P (w ∷ ws) (suc n) zero h g a = a.0
all_at P (w ∷ ws) (suc n) (suc i) h g a = all_at P ws n i (omega arith) (omega arith) a.1

-- its slot is one of the pool
pub last_low : (ws : List ℕ) (n : ℕ) → 0 < n → n ≤ 128 → length ws ≡ 128 → All (λ (h : Held). h.slot < send_slots) (held_in ws n)
    → (unpack (get_or ws (n - 1) 0)).slot < send_slots
last_low ws n some most whole a = all_at (λ (h : Held). h.slot < send_slots) ws n (n - 1) (omega arith) (omega (arith, whole)) a

-- ---- its room

pub room_off : (stream : Bool) → stream ≡ false → (m : ℕ) (q : List Held) → room_of stream m q ≡ 0
unfolding room_of
room_off stream e m q = rw e

pub room_none : (stream : Bool) (m : ℕ) (ws : List ℕ) (n : ℕ) → n ≡ 0 → room_of stream m (held_in ws n) ≡ 0
unfolding room_of
room_none stream m ws n e = rw e (go stream)
  where
    go : (b : Bool) → room_of b m [] ≡ 0
    go true = refl
    go false = refl

pub room_some : (stream : Bool) → stream ≡ true → (m : ℕ) (ws : List ℕ) (n : ℕ) → 0 < n → n ≤ length ws
    → room_of stream m (held_in ws n) ≡ m - (unpack (get_or ws (n - 1) 0)).len
unfolding room_of
room_some stream e m ws n some most = rw (e, last_word ws n some most)

-- where there is room, one is queued, and has it
pub has_room : (stream : Bool) (m : ℕ) (ws : List ℕ) (n : ℕ) → n ≤ length ws → 0 < room_of stream m (held_in ws n)
    → (0 < n) × ((unpack (get_or ws (n - 1) 0)).len + room_of stream m (held_in ws n) ≤ m)
has_room stream m ws zero most h = absurd (omega (arith, room_none stream m ws 0 refl))
has_room false m ws (suc n) most h = absurd (omega (arith, room_off false refl m (held_in ws (suc n))))
has_room true m ws (suc n) most h = (omega arith, omega (arith, room_some true refl m ws (suc n) (omega arith) most))

-- ---- filling

module _ (m : ℕ) (ws : List ℕ) (n room : ℕ) (pool message : List ℕ) (whole : length ws ≡ 128) (most : n ≤ 128) where
  pub fills_none : room ≡ 0 → (stream : Bool) → room ≡ room_of stream m (held_in ws n)
      → Fills (filled stream m (held_in ws n) pool message) n ws pool
  fills_none z stream e = rw (filled_none m (held_in ws n) pool message stream (omega arith))
      (record { whole = whole; list = refl; pool_is = refl })

  -- the word w is put in place of the last one, h, and k bytes are stored behind its payload
  pub fills_some : (h : Held) (w k : ℕ) (pool' : List ℕ) → 0 < n → 0 < room → k ≡ min (length message) room → h ≡ unpack (get_or ws (n - 1) 0)
      → unpack w ≡ record { slot = h.slot; len = h.len + k; fragment = 0 }
      → pool' ≡ sets pool (h.slot * m + h.len) (part message 0 k)
      → (stream : Bool) → room ≡ room_of stream m (held_in ws n)
      → Fills (filled stream m (held_in ws n) pool message) n (set ws (n - 1) w) pool'
  fills_some h w k pool' some has e x u g stream r =
      let last = unpack (get_or ws (n - 1) 0) in
      let f = filled_some m (held_in ws n) pool message stream last [] (last_word ws n some (omega arith)) (omega arith) in
      let bytes : min (length message) (room_of stream m (held_in ws n)) ≡ k = rw (← r) (sym e) in
      rw (f.1, bytes)
      (record {
        whole = length-set ws (n - 1) w ∙ whole;
        list =
            put_last ws n some (omega arith) w
            ∙ ap {B = List Held} (λ (y : Held). take (length (held_in ws n) - 1) (held_in ws n) ++ (y ∷ []))
            (u ∙ ap (λ (y : Held). record { slot = y.slot; len = y.len + k; fragment = 0 }) x);
        pool_is = g ∙ ap (λ (y : Held). sets pool (y.slot * m + y.len) (take k message)) x;
      })

-- what is filled lies within the slot, and so within the pool
pub fill_end : {h : Held} (w m room k size : ℕ) → h ≡ unpack w → (unpack w).slot < 128 → (unpack w).len + room ≤ m → k ≤ room → 128 * m ≤ size
    → (h.slot * m + m ≤ size) × (h.len + k ≤ m)
fill_end {h} w m room k size e low short few long = rw e (slot_end (unpack w).slot m size low long, omega arith)
