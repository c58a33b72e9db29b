-- The reader returns what the writer was given, from any k frames of the group.
-- Assumes nothing.
use Rattle.std.specs.Prelude.{◌≡◌, ◌⊎◌, Bool, cond, ◌&&◌, ◌||◌, not, ℕ, zero, suc, ◌+◌, ◌-◌, ◌*◌, ◌/◌, ◌%◌, ◌≤◌, ◌<◌, take, drop}
use Rattle.std.proofs.Math.Path.{refl, ap, ap₂}
use Rattle.std.proofs.Common.{sym, ◌∙◌, subst, not-suc-le-zero}
use Rattle.std.proofs.Math.Logic.{inl, inr}
use Rattle.std.proofs.Math.Bool.{true, false}
use mathlib.Core.List.{List, [], ◌∷◌, map}
use Rattle.std.proofs.Math.Nat.{add_comm, zero-add, mul-add-mod_self_right, add-mul-div_right, mod-eq_of_lt, div-eq_of_lt}
use native.Mathlib.Omega.{arith}
use borrow.Author.Tests.{leb-true, leb-false, eqb-true, ltb-true, le-ltb, le-leb, eq-eqb}
use Rattle.std.proofs.Math.Dec.{eqb, ltb, leb}
use Rattle.std.proofs.Math.ListN.{length, get_or}
use Rattle.wire.specs.LittleEndian.{number_at, AllBytes}
use Rattle.frames.specs.declared.Refusal.TheVariants.{ShortPart, SettingOutOfRange, NotAGroup, LateGroup}
use Rattle.frames.specs.Lists.{listed, lengths_of, parts, add_up, largest, count, every, different}
use Rattle.frames.specs.Frames.{shard, parity_shard, type_at, shard_at, frame_at, group}
use Rattle.frames.specs.Outcomes.{refused, wrote, settings_ok, lent_ok, length_ok, lengths_ok, write_of}
use Rattle.frames.specs.Reading.{
  sequence_of,
  group_of,
  place_of,
  frame_ok,
  first_group,
  held_shard,
  has,
  byte_at,
  len_at,
  datagram_at,
  found,
  holds,
  read_group,
  read_frames,
}
use Rattle.frames.specs.PlaceLaws.{listed_same, listed_get_d, listed_bytes, count_none}
use Rattle.frames.specs.PartLaws.{parts_bytes, length_parts, part_at, add_up_next, add_up_le, length_part, largest_le, largest_ge}
use Rattle.frames.specs.FrameLaws.{
  length_shard,
  shard_at_data,
  seq_of,
  len_shard,
  behind,
  shard_bytes,
  length_parity_shard,
  length_frame_at,
  drop_frame_at,
  type_at_lem,
  len_at_lem,
}
use Rattle.frames.specs.OutcomeLaws.{and_left, and_right, same_self, lengths_at}
use Rattle.recovery.specs.Recovery.{Held, recovered}
use Rattle.recovery.specs.ReadingLaws.{places_held}

-- frames of the group of ds that starts at s: any of them, in any order, with repeats
pub data Given (s : ℕ) (ds : List (List ℕ)) : List (List ℕ) → Type 0 where
  none : Given s ds []
  more : {fs : List (List ℕ)} (p : ℕ) → p < length ds + 2 → Given s ds fs → Given s ds (frame_at s ds p ∷ fs)

-- what the writer takes: group n of 1 to 10 datagrams, each of 24 to mtu bytes
pub record Writable (n mtu : ℕ) (ds : List (List ℕ)) : Type 0 where
  pub some : 1 ≤ length ds
  pub few : length ds ≤ 10
  pub small : mtu ≤ 1400
  pub least : (p : ℕ) → p < length ds → 24 ≤ length (get_or ds p [])
  pub most : (p : ℕ) → p < length ds → length (get_or ds p []) ≤ mtu
  pub bytes : (p x : ℕ) → get_or (get_or ds p []) x 0 < 256
  pub low : n * (length ds + 2) < 4294967284

-- the five tests of a frame
all_five : (mtu : ℕ) {g n t u : ℕ} {o : Bool} (l : ℕ) → 32 ≤ l → l ≤ mtu + 8 → g ≡ n → t ≡ u → o ≡ true
    → (leb 32 l && leb l (mtu + 8) && eqb g n && eqb t u && o) ≡ true
all_five mtu {g} {n} {t} {u} {o} l a b c d e =
    rw (le-leb 32 l a, le-leb l (mtu + 8) b, eq-eqb g n c, eq-eqb t u d, e)

module _ (n mtu : ℕ) (ds : List (List ℕ)) (w : Writable n mtu ds) where
  -- ---- the frame at a place, read

  seq_at : (p : ℕ) → p < length ds + 2 → number_at 4 (frame_at (n * (length ds + 2)) ds p) 0 ≡ n * (length ds + 2) + p
  unfolding frame_at
  seq_at p h =
      let a : n * (length ds + 2) < 4294967284 = w.low in
      let b : length ds ≤ 10 = w.few in
      seq_of (n * (length ds + 2) + p) (type_at (length ds) p) (shard_at ds p) (omega arith)

  place_at : (p : ℕ) → p < length ds + 2 → place_of (length ds) (frame_at (n * (length ds + 2)) ds p) ≡ p
  unfolding place_of
  place_at p h =
      ap (λ (s : ℕ). s % (length ds + 2)) (seq_at p h) ∙ mul-add-mod_self_right n (length ds + 2) p ∙ mod-eq_of_lt h

  group_at : (p : ℕ) → p < length ds + 2 → group_of (length ds) (frame_at (n * (length ds + 2)) ds p) ≡ n
  unfolding group_of
  group_at p h =
      let pos : 0 < length ds + 2 = omega arith in
      ap (λ (s : ℕ). s / (length ds + 2)) (seq_at p h ∙ add_comm (n * (length ds + 2)) p)
      ∙ add-mul-div_right p n pos ∙ ap (λ (q : ℕ). q + n) (div-eq_of_lt h) ∙ zero-add n

  length_shard_at : (p : ℕ) → p < length ds + 2 → (26 ≤ length (shard_at ds p)) × (length (shard_at ds p) ≤ mtu + 2)
  unfolding shard_at
  length_shard_at p h = go (ltb p (length ds)) refl
    where
      top : largest (lengths_of ds) ≤ mtu
      top = largest_le mtu ds w.most

      base : 24 ≤ largest (lengths_of ds)
      base = largest_ge 24 ds w.some w.least

      go : (b : Bool) → ltb p (length ds) ≡ b
          → (26 ≤ length (cond b (shard (get_or ds p [])) (parity_shard (p - length ds) ds))) ×
          (length (cond b (shard (get_or ds p [])) (parity_shard (p - length ds) ds)) ≤ mtu + 2)
      go true e =
          let l : p < length ds = ltb-true p (length ds) e in
          let a : 24 ≤ length (get_or ds p []) = w.least p l in
          let b : length (get_or ds p []) ≤ mtu = w.most p l in
          rw (length_shard (get_or ds p [])) (omega arith, omega arith)
      go false e = rw (length_parity_shard (p - length ds) ds) (omega (arith, base), omega (arith, top))

  ok_at : (p : ℕ) → p < length ds + 2 → frame_ok (length ds) mtu n (frame_at (n * (length ds + 2)) ds p) ≡ true
  unfolding frame_ok
  ok_at p h =
      let c : (26 ≤ length (shard_at ds p)) × (length (shard_at ds p) ≤ mtu + 2) = length_shard_at p h in
      let f : length (frame_at (n * (length ds + 2)) ds p) ≡ 6 + length (shard_at ds p) = length_frame_at (n * (length ds + 2)) ds p in
      all_five mtu (length (frame_at (n * (length ds + 2)) ds p))
      (omega (arith, c.0)) (omega (arith, c.1)) (group_at p h)
      (type_at_lem (n * (length ds + 2)) ds p ∙ ap (type_at (length ds)) (sym (place_at p h)))
      (last p h)
    where
      last : (p : ℕ) → p < length ds + 2 → (leb (length ds) (place_of (length ds) (frame_at (n * (length ds + 2)) ds p))
          || eqb (number_at 2 (frame_at (n * (length ds + 2)) ds p) 6) (length (frame_at (n * (length ds + 2)) ds p) - 6)) ≡ true
      last p h = rw (place_at p h) (go (leb (length ds) p) refl)
        where
          go : (b : Bool) → leb (length ds) p ≡ b
              → (b || eqb (number_at 2 (frame_at (n * (length ds + 2)) ds p) 6) (length (frame_at (n * (length ds + 2)) ds p) - 6)) ≡ true
          go true e = refl
          go false e =
              let l : p < length ds = leb-false (length ds) p e in
              let m : length (get_or ds p []) ≤ mtu = w.most p l in
              let z : mtu ≤ 1400 = w.small in
              let t : number_at 2 (frame_at (n * (length ds + 2)) ds p) 6 ≡ length (get_or ds p []) + 2 =
              len_at_lem (n * (length ds + 2)) ds p l (omega arith) in
              let f : length (frame_at (n * (length ds + 2)) ds p) ≡ 6 + length (shard_at ds p) = length_frame_at (n * (length ds + 2)) ds p in
              let g : length (shard_at ds p) ≡ length (get_or ds p []) + 2 = ap length (shard_at_data ds p l) ∙ length_shard (get_or ds p []) in
              eq-eqb (number_at 2 (frame_at (n * (length ds + 2)) ds p) 6) (length (frame_at (n * (length ds + 2)) ds p) - 6) (omega arith)

  pub frame_most : (p : ℕ) → p < length ds + 2 → length (frame_at (n * (length ds + 2)) ds p) ≤ mtu + 8
  frame_most p h = omega (arith, (length_shard_at p h).1, length_frame_at (n * (length ds + 2)) ds p)

  -- ---- what is held

  held_at : {fs : List (List ℕ)} → Given (n * (length ds + 2)) ds fs → (p : ℕ) → p < length ds + 2
      → (held_shard (length ds) fs p ≡ shard_at ds p) ⊎ (held_shard (length ds) fs p ≡ [])
  unfolding held_shard
  held_at none p h = inr refl
  held_at (more {fs} q l g) p h = rw (place_at q l) (go (held_shard (length ds) fs p) (eqb q p) refl (held_at g p h))
    where
      go : (c : List ℕ) (b : Bool) → eqb q p ≡ b → (c ≡ shard_at ds p) ⊎ (c ≡ [])
          → (cond b (drop 6 (frame_at (n * (length ds + 2)) ds q)) c ≡ shard_at ds p) ⊎
          (cond b (drop 6 (frame_at (n * (length ds + 2)) ds q)) c ≡ [])
      go c true e ih = inl (drop_frame_at (n * (length ds + 2)) ds q ∙ ap (shard_at ds) (eqb-true q p e))
      go c false e ih = ih

  module _ (fs : List (List ℕ)) (g : Given (n * (length ds + 2)) ds fs)
      (enough : length ds ≤ count (has (held_shard (length ds) fs)) (length ds + 2)) where
    held : Held ds (held_shard (length ds) fs)
    held = record {
      few = w.few;
      bytes = λ p x. shard_bytes (get_or ds p []) (w.bytes p) x;
      each = held_at g;
      enough = enough;
    }

    datagram : (i : ℕ) → i < length ds → datagram_at (length ds) (held_shard (length ds) fs) i ≡ get_or ds i []
    unfolding datagram_at len_at
    datagram i h =
        let m : length (get_or ds i []) ≤ mtu = w.most i h in
        let z : mtu ≤ 1400 = w.small in
        let e : byte_at (length ds) (held_shard (length ds) fs) i 0
        + 256 * byte_at (length ds) (held_shard (length ds) fs) i 1 - 2 ≡ length (get_or ds i []) =
        ap₂ (λ (a b : ℕ). a + 256 * b - 2) (recovered ds (held_shard (length ds) fs) held 0 i h)
        (recovered ds (held_shard (length ds) fs) held 1 i h)
        ∙ ap (λ (a : ℕ). a - 2) (len_shard (get_or ds i []) (omega arith)) ∙ omega arith in
        ap (listed (λ x. byte_at (length ds) (held_shard (length ds) fs) i (x + 2))) e
        ∙ listed_same (λ x. byte_at (length ds) (held_shard (length ds) fs) i (x + 2)) (λ x. get_or (get_or ds i []) x 0) (length (get_or ds i []))
        (λ x l. recovered ds (held_shard (length ds) fs) held (x + 2) i h ∙ behind (get_or ds i []) x)
        ∙ listed_bytes (get_or ds i [])

    found_is : found (length ds) (held_shard (length ds) fs) ≡ ds
    unfolding found
    found_is = listed_same (datagram_at (length ds) (held_shard (length ds) fs)) (λ p. get_or ds p []) (length ds) datagram ∙ listed_get_d ds

  every_given : {fs : List (List ℕ)} (t : List ℕ → Bool) → ((p : ℕ) → p < length ds + 2 → t (frame_at (n * (length ds + 2)) ds p) ≡ true)
      → Given (n * (length ds + 2)) ds fs → every t fs ≡ true
  unfolding every
  every_given t h none = refl
  every_given t h (more p l g) = rw (h p l) (every_given t h g)

  first_given : {fs : List (List ℕ)} → Given (n * (length ds + 2)) ds fs
      → length ds ≤ count (has (held_shard (length ds) fs)) (length ds + 2) → first_group (length ds) fs ≡ n
  unfolding first_group held_shard
  first_given none e =
      let z : count (λ p. ltb 0 0) (length ds + 2) ≡ 0 = count_none (λ p. ltb 0 0) (λ p. refl) (length ds + 2) in
      let s : 1 ≤ length ds = w.some in
      absurd (omega (arith, e, z))
  first_given (more p l g) e = group_at p l

  holds_at : (p : ℕ) → p < length ds + 2 → holds (length ds) (n * (length ds + 2)) ds (frame_at (n * (length ds + 2)) ds p) ≡ true
  unfolding holds
  holds_at p h = rw (place_at p h) (same_self (frame_at (n * (length ds + 2)) ds p))

  -- any of the group's frames, in any order, with repeats, of k different sequences
  pub returned : (fs : List (List ℕ)) → Given (n * (length ds + 2)) ds fs → length ds ≤ different (map sequence_of fs)
      → read_frames (length ds) mtu fs ≡ wrote ds
  unfolding read_frames read_group
  returned fs g e =
      let a = every_given (frame_ok (length ds) mtu n) ok_at g in
      let c : length ds ≤ count (has (held_shard (length ds) fs)) (length ds + 2) = rw (places_held (length ds) mtu n fs a) at e in
      rw (
        first_given g c,
        a,
        le-ltb (different (map sequence_of fs)) (length ds) e,
        found_is fs g c,
        lengths_at mtu ds w.least w.most,
        every_given (holds (length ds) (n * (length ds + 2)) ds) holds_at g,
      )

-- ---- from what the writer was given

-- what a call of the writer that is not refused was given
pub record Accepted (n k mtu : ℕ) (s ns : List ℕ) (room slots : ℕ) : Type 0 where
  pub lent : lent_ok (length s) ns 12 (mtu + 8) room slots ≡ true
  pub settings : settings_ok k mtu ≡ true
  pub right : (eqb (length ns) k && lengths_ok mtu ns) ≡ true
  pub early : leb 4294967284 (n * (k + 2)) ≡ false

pub accepted : (n k mtu : ℕ) (s ns : List ℕ) (room slots : ℕ) (l : List (List ℕ)) → write_of n k mtu s ns room slots ≡ wrote l
    → Accepted n k mtu s ns room slots
unfolding write_of
accepted n k mtu s ns room slots l e =
    go (lent_ok (length s) ns 12 (mtu + 8) room slots) refl (settings_ok k mtu) refl (eqb (length ns) k && lengths_ok mtu ns) refl
    (leb 4294967284 (n * (k + 2))) refl e
  where
    go : (a : Bool) → lent_ok (length s) ns 12 (mtu + 8) room slots ≡ a → (b : Bool) → settings_ok k mtu ≡ b
        → (c : Bool) → (eqb (length ns) k && lengths_ok mtu ns) ≡ c → (d : Bool) → leb 4294967284 (n * (k + 2)) ≡ d
        → cond (not a) (refused ShortPart) (cond (not b) (refused SettingOutOfRange)
        (cond (not c) (refused NotAGroup) (cond d (refused LateGroup) (wrote (group (n * (k + 2)) (parts s ns)))))) ≡ wrote l
        → Accepted n k mtu s ns room slots
    go false ea b eb c ec d ed e = let z : ◌≡◌ {A = ℕ} 0 1 = cc in absurd (omega arith)
    go true ea false eb c ec d ed e = let z : ◌≡◌ {A = ℕ} 0 1 = cc in absurd (omega arith)
    go true ea true eb false ec d ed e = let z : ◌≡◌ {A = ℕ} 0 1 = cc in absurd (omega arith)
    go true ea true eb true ec true ed e = let z : ◌≡◌ {A = ℕ} 0 1 = cc in absurd (omega arith)
    go true ea true eb true ec false ed e = record { lent = ea; settings = eb; right = ec; early = ed }

lengths_get : (mtu : ℕ) (ns : List ℕ) → lengths_ok mtu ns ≡ true → (p : ℕ) → p < length ns → (24 ≤ get_or ns p 0) × (get_or ns p 0 ≤ mtu)
unfolding lengths_ok
lengths_get mtu [] e p h = absurd (not-suc-le-zero h)
lengths_get mtu (n ∷ ns) e p h = go (length_ok mtu n) refl e p h (λ f q l. lengths_get mtu ns f q l)
  where
    go : (b : Bool) → length_ok mtu n ≡ b → cond b (lengths_ok mtu ns) false ≡ true → (p : ℕ) → p < suc (length ns)
        → (lengths_ok mtu ns ≡ true → (q : ℕ) → q < length ns → (24 ≤ get_or ns q 0) × (get_or ns q 0 ≤ mtu))
        → (24 ≤ get_or (n ∷ ns) p 0) × (get_or (n ∷ ns) p 0 ≤ mtu)
    go false q f p h ih = let z : ◌≡◌ {A = ℕ} 0 1 = cc in absurd (omega arith)
    go true q f zero h ih = (leb-true 24 n (and_left (leb 24 n) (leb n mtu) q), leb-true n mtu (and_right (leb 24 n) (leb n mtu) q))
    go true q f (suc p) h ih = ih f p (omega arith)

module _ (n k mtu : ℕ) (s ns : List ℕ) (room slots : ℕ) (by : AllBytes s) (a : Accepted n k mtu s ns room slots) where
  pub count_is : length (parts s ns) ≡ k
  count_is = length_parts s ns ∙ eqb-true (length ns) k (and_left (eqb (length ns) k) (lengths_ok mtu ns) a.right)

  whole : add_up ns ≤ length s
  whole = leb-true (add_up ns) (length s) (and_left (leb (add_up ns) (length s)) (leb (12 * (mtu + 8)) room)
      (and_left (leb (add_up ns) (length s) && leb (12 * (mtu + 8)) room) (leb 12 slots) a.lent))

  size_is : (p : ℕ) → p < length ns → length (get_or (parts s ns) p []) ≡ get_or ns p 0
  size_is p h =
      ap length (part_at s ns p h)
      ∙ length_part s (add_up (take p ns)) (get_or ns p 0) (omega (arith, add_up_next ns p h, add_up_le ns (p + 1), whole))

  pub written : Writable n mtu (parts s ns)
  written =
      let e : length (parts s ns) ≡ k = count_is in
      let f : (leb 1 k && leb k 10) ≡ true =
      and_left (leb 1 k && leb k 10) (leb 50 mtu) (and_left (leb 1 k && leb k 10 && leb 50 mtu) (leb mtu 1400) a.settings) in
      let o : 1 ≤ k = leb-true 1 k (and_left (leb 1 k) (leb k 10) f) in
      let t : k ≤ 10 = leb-true k 10 (and_right (leb 1 k) (leb k 10) f) in
      let r : lengths_ok mtu ns ≡ true = and_right (eqb (length ns) k) (lengths_ok mtu ns) a.right in
      record {
        some = omega arith;
        few = omega arith;
        small = leb-true mtu 1400 (and_right (leb 1 k && leb k 10 && leb 50 mtu) (leb mtu 1400) a.settings);
        least = λ p h. rw (size_is p (inside p h)) (lengths_get mtu ns r p (inside p h)).0;
        most = λ p h. rw (size_is p (inside p h)) (lengths_get mtu ns r p (inside p h)).1;
        bytes = parts_bytes s ns by;
        low = subst (λ (q : ℕ). n * (q + 2) < 4294967284) (sym e) (leb-false 4294967284 (n * (k + 2)) a.early);
      }
    where
      inside : (p : ℕ) → p < length (parts s ns) → p < length ns
      inside p h = rw (length_parts s ns) at h

-- THE THEOREM: a call of the writer that was not refused, and frames of that group, any of them, in any order, with repeats, of k
-- different sequences: the reader returns the datagrams as written
pub round_trip :
    (n k mtu : ℕ) (s ns : List ℕ) (room slots : ℕ) (l fs : List (List ℕ)) →
    AllBytes s →
    write_of n k mtu s ns room slots ≡ wrote l →
    Given (n * (k + 2)) (parts s ns) fs →
    k ≤ different (map sequence_of fs) →
    read_frames k mtu fs ≡ wrote (parts s ns)
round_trip n k mtu s ns room slots l fs by e g c =
    let a : Accepted n k mtu s ns room slots = accepted n k mtu s ns room slots l e in
    let q : length (parts s ns) ≡ k = count_is n k mtu s ns room slots by a in
    subst (λ (m : ℕ). read_frames m mtu fs ≡ wrote (parts s ns)) q
    (returned n mtu (parts s ns) (written n k mtu s ns room slots by a) fs
    (subst (λ (m : ℕ). Given (n * (m + 2)) (parts s ns) fs) (sym q) g)
    (subst (λ (m : ℕ). m ≤ different (map sequence_of fs)) (sym q) c))

-- a call of the writer that was not refused wrote the group
pub wrote_group : (n k mtu : ℕ) (s ns : List ℕ) (room slots : ℕ) (l : List (List ℕ)) → write_of n k mtu s ns room slots ≡ wrote l
    → l ≡ group (n * (k + 2)) (parts s ns)
unfolding write_of
wrote_group n k mtu s ns room slots l e =
    let a = accepted n k mtu s ns room slots l e in
    same_parts l (group (n * (k + 2)) (parts s ns)) (sym e ∙ rw (a.lent, a.settings, a.right, a.early))
  where
    same_parts : (x y : List (List ℕ)) → wrote x ≡ wrote y → x ≡ y
    same_parts x y h = cc
