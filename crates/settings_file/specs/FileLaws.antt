-- Laws of `Files`: the two round trips, and that one setting has one file.
-- Assumes nothing.
use Rattle.std.proofs.Math.Bool.{and-false}
use Rattle.std.proofs.lemmas.Bool.{and_parts}
use Rattle.std.proofs.lemmas.Slice.Eq.{bytes_eq-Decides}
use Rattle.std.specs.Prelude.{◌≡◌, Ok, Err, Bool, true, cond, ◌&&◌, leb, length, take, drop}
use Rattle.std.proofs.Math.Path.{refl, ap}
use Rattle.std.proofs.Common.{sym, ◌∙◌, take-add, take_all, drop-drop}
use Rattle.std.proofs.Math.Bool.{false}
use mathlib.Core.List.{List, ◌++◌}
use Prim.Native.Nat.{ℕ, ◌+◌, ◌^◌, ◌≤◌, ◌<◌}
use native.Mathlib.Omega.{arith}
use borrow.Author.Tests.{le-leb, lt-leb, leb-true, eq-eqb, ne_eqb, eqb-true}
use Rattle.std.proofs.Math.Dec.{eqb}
use Rattle.std.proofs.Math.ListN.{length-append}
use Rattle.std.proofs.Math.Seq.{take-append_seam}
use Rattle.std.proofs.lemmas.List.Edits.{sets, sets-eq}
use Rattle.protocol.specs.Ranges.{in_range}
use Rattle.protocol.specs.declared.Settings.{Settings}
use Rattle.wire.specs.LittleEndian.{bytes_of, number_at, AllBytes}
use Rattle.wire.specs.LittleEndianLaws.{number_of_bytes, bytes_of_number, length_bytes_of}
use Rattle.wire.specs.Stores.{sets_append}
use Rattle.settings_file.specs.Files.{
  fits_first,
  magic,
  front,
  back,
  added,
  first_of,
  second_of,
  file_of,
  write_into,
  Writes,
  has_magic,
  settings_at,
  read_first,
  read_second,
  read_from,
}
use Rattle.settings_file.specs.declared.FileRefusal.TheVariants.{
  ShortPart,
  SettingOutOfRange,
  NotSettings,
  UnknownVersion,
  NeedlessVersion,
}

-- each setting fits its bytes, as its type says
pub record SettingsFit (c : Settings) : Type 0 where
  pub conv : c.conv < 2 ^ 32
  pub mtu : c.mtu < 2 ^ 16
  pub mode : c.mode < 2 ^ 8
  pub interval : c.interval < 2 ^ 16
  pub threshold : c.threshold < 2 ^ 8
  pub stream : c.stream < 2 ^ 8
  pub congestion : c.congestion < 2 ^ 8

length_first : (c : Settings) → length (first_of c) ≡ 15
unfolding first_of front back bytes_of
length_first c = refl

length_second : (c : Settings) → length (second_of c) ≡ 17
unfolding second_of front back added bytes_of
length_second c = refl

-- the settings of a file's bytes are those that it was written from
settings_of_first : (c : Settings) → SettingsFit c → c.stream ≡ 0 → c.congestion ≡ 0 → settings_at (first_of c) 0 0 ≡ c
unfolding settings_at first_of front back bytes_of number_at
settings_of_first c r stream congestion = λ i. record {
  conv = number_of_bytes 4 c.conv r.conv i;
  mtu = number_of_bytes 2 c.mtu r.mtu i;
  mode = number_of_bytes 1 c.mode r.mode i;
  interval = number_of_bytes 2 c.interval r.interval i;
  threshold = number_of_bytes 1 c.threshold r.threshold i;
  stream = sym stream i;
  congestion = sym congestion i;
}

settings_of_second : (c : Settings) → SettingsFit c
    → settings_at (second_of c) (number_at 1 (second_of c) 15) (number_at 1 (second_of c) 16) ≡ c
unfolding settings_at second_of front back added bytes_of number_at
settings_of_second c r = λ i. record {
  conv = number_of_bytes 4 c.conv r.conv i;
  mtu = number_of_bytes 2 c.mtu r.mtu i;
  mode = number_of_bytes 1 c.mode r.mode i;
  interval = number_of_bytes 2 c.interval r.interval i;
  threshold = number_of_bytes 1 c.threshold r.threshold i;
  stream = number_of_bytes 1 c.stream r.stream i;
  congestion = number_of_bytes 1 c.congestion r.congestion i;
}

-- ---- stored one behind the other

pub front_stored : (v : ℕ) (l : List ℕ) {x y : List ℕ} → x ≡ sets l 0 magic → y ≡ sets x 3 (bytes_of 2 v) → y ≡ sets l 0 (front v)
unfolding front
front_stored v l p q = simp sets_append (cc)

pub back_stored :
    (c : Settings) (l : List ℕ) {x y z w v : List ℕ} →
    x ≡ sets l 5 (bytes_of 4 c.conv) →
    y ≡ sets x 9 (bytes_of 2 c.mtu) →
    z ≡ sets y 11 (bytes_of 1 c.mode) →
    w ≡ sets z 12 (bytes_of 2 c.interval) →
    v ≡ sets w 14 (bytes_of 1 c.threshold) →
    v ≡ sets l 5 (back c)
unfolding back
back_stored c l p q r s t = simp (sets_append, length-append, length_bytes_of) (cc)

pub added_stored : (c : Settings) (l : List ℕ) {x y : List ℕ} →
    x ≡ sets l 15 (bytes_of 1 c.stream) → y ≡ sets x 16 (bytes_of 1 c.congestion) → y ≡ sets l 15 (added c)
unfolding added
added_stored c l p q = simp (sets_append, length_bytes_of) (cc)

length_front : (v : ℕ) → length (front v) ≡ 5
unfolding front bytes_of
length_front v = refl

length_back : (c : Settings) → length (back c) ≡ 10
unfolding back bytes_of
length_back c = refl

module _ (c : Settings) (l : List ℕ) where
  -- what is put for settings that fit version 1, and for others
  pub first_put : {x y : List ℕ} → fits_first c ≡ true → x ≡ sets l 0 (front 1) → y ≡ sets x 5 (back c)
      → (15 ≡ length (file_of c)) × (y ≡ sets l 0 (file_of c))
  unfolding first_of
  first_put e p q = rw e (sym (length_first c), (rw (sets_append, length_front) (cc)))

  pub second_put : {x y z : List ℕ} → fits_first c ≡ false → x ≡ sets l 0 (front 2) → y ≡ sets x 5 (back c) → z ≡ sets y 15 (added c)
      → (17 ≡ length (file_of c)) × (z ≡ sets l 0 (file_of c))
  unfolding second_of
  second_put e p q r = rw e (sym (length_second c), (simp (sets_append, length-append, length_front, length_back) (cc)))

-- ---- the tests, in turn

ruleset tests = (eq-eqb, ne_eqb, le-leb, lt-leb)

module _ (c : Settings) (l : List ℕ) where
  pub no_room : length l < 17 → Writes c l (Err ShortPart) l
  unfolding write_into
  no_room a = record { answer = rw (lt-leb 17 (length l) a); leaves = refl }

  pub out_of_range : 17 ≤ length l → in_range c ≡ false → Writes c l (Err SettingOutOfRange) l
  unfolding write_into
  out_of_range a b = record { answer = rw (le-leb 17 (length l) a, b); leaves = refl }

  pub written : {n : ℕ} {m : List ℕ} → 17 ≤ length l → in_range c ≡ true → n ≡ length (file_of c) → m ≡ sets l 0 (file_of c)
      → Writes c l (Ok n) m
  unfolding write_into
  written a b p e = record { answer = ap Ok p ∙ rw (le-leb 17 (length l) a, b); leaves = e }

module _ (f : List ℕ) where
  pub short_file : length f < 5 → Err NotSettings ≡ read_from f
  unfolding read_from
  short_file a = rw (lt-leb 5 (length f) a)

  pub no_magic : has_magic f ≡ false → Err NotSettings ≡ read_from f
  unfolding read_from
  no_magic b = rw (b, and-false)

  pub other_version : 5 ≤ length f → has_magic f ≡ true → (number_at 2 f 3 ≡ 1 → ⊥) → (number_at 2 f 3 ≡ 2 → ⊥)
      → Err UnknownVersion ≡ read_from f
  unfolding read_from
  other_version a b d e = rw (le-leb 5 (length f) a, b, ne_eqb (number_at 2 f 3) 1 d, ne_eqb (number_at 2 f 3) 2 e)

  pub of_first : 5 ≤ length f → has_magic f ≡ true → number_at 2 f 3 ≡ 1 → read_first f ≡ read_from f
  unfolding read_from
  of_first a b d = rw (le-leb 5 (length f) a, b, d)

  pub of_second : 5 ≤ length f → has_magic f ≡ true → number_at 2 f 3 ≡ 2 → read_second f ≡ read_from f
  unfolding read_from
  of_second a b d = rw (le-leb 5 (length f) a, b, d)

-- ---- the round trips

first_magic : (c : Settings) → has_magic (first_of c) ≡ true
unfolding has_magic first_of front bytes_of
first_magic c = refl

first_version : (c : Settings) → number_at 2 (first_of c) 3 ≡ 1
unfolding first_of front bytes_of number_at
first_version c = refl

second_magic : (c : Settings) → has_magic (second_of c) ≡ true
unfolding has_magic second_of front bytes_of
second_magic c = refl

second_version : (c : Settings) → number_at 2 (second_of c) 3 ≡ 2
unfolding second_of front bytes_of number_at
second_version c = refl

-- settings in range that are written and read back are returned
pub read_written : (c : Settings) → SettingsFit c → in_range c ≡ true → read_from (file_of c) ≡ Ok c
read_written c r range = go (fits_first c) refl
  where
    go : (b : Bool) → fits_first c ≡ b → read_from (cond b (first_of c) (second_of c)) ≡ Ok c
    go true e =
        let off = and_parts _ (eqb c.congestion 0) e in
        let stream = eqb-true c.stream 0 (and_parts (leb c.mtu 512) (eqb c.stream 0) off.0).1 in
        sym (of_first (first_of c) (omega (arith, length_first c)) (first_magic c) (first_version c))
        ∙ rw (length_first c, settings_of_first c r stream (eqb-true c.congestion 0 off.1), range, e)
    go false e =
        sym (of_second (second_of c) (omega (arith, length_second c)) (second_magic c) (second_version c))
        ∙ rw (length_second c, settings_of_second c r, range, e)

-- the bytes of f from i on, a of them and then b
join : (a b i : ℕ) (f : List ℕ) → take a (drop i f) ++ take b (drop (i + a) f) ≡ take (a + b) (drop i f)
join a b i f = rw (take-add, drop-drop)

module _ (f : List ℕ) (b : AllBytes f) where
  -- the magic, where f begins with it, and its version
  front_of : (v : ℕ) → 5 ≤ length f → has_magic f ≡ true → number_at 2 f 3 ≡ v → front v ≡ take 5 f
  unfolding has_magic front
  front_of v long m e =
      ap (λ (l : List ℕ). l ++ bytes_of 2 v) ((bytes_eq-Decides magic (take 3 f)).0 m)
      ∙ rw (← e, bytes_of_number 2 f 3 b (omega arith), join 3 2 0)

  back_of : (stream congestion : ℕ) → 15 ≤ length f → back (settings_at f stream congestion) ≡ take 10 (drop 5 f)
  unfolding back settings_at
  back_of stream congestion long =
      rw (
        bytes_of_number 4 f 5 b (omega arith),
        bytes_of_number 2 f 9 b (omega arith),
        bytes_of_number 1 f 11 b (omega arith),
        bytes_of_number 2 f 12 b (omega arith),
        bytes_of_number 1 f 14 b (omega arith),
        join 4 2 5,
        join 6 1 5,
        join 7 2 5,
        join 9 1 5,
      )

  added_of : 17 ≤ length f → added (settings_at f (number_at 1 f 15) (number_at 1 f 16)) ≡ take 2 (drop 15 f)
  unfolding added settings_at
  added_of long = rw (bytes_of_number 1 f 15 b (omega arith), bytes_of_number 1 f 16 b (omega arith), join 1 1 15)

  first_of_lem : length f ≡ 15 → has_magic f ≡ true → number_at 2 f 3 ≡ 1 → first_of (settings_at f 0 0) ≡ f
  unfolding first_of
  first_of_lem long m v =
      rw (front_of 1 (omega (arith, long)) m v, back_of 0 0 (omega (arith, long)), join 5 10 0) (take_all 15 f (omega (arith, long)))

  second_of_lem : length f ≡ 17 → has_magic f ≡ true → number_at 2 f 3 ≡ 2
      → second_of (settings_at f (number_at 1 f 15) (number_at 1 f 16)) ≡ f
  unfolding second_of
  second_of_lem long m v =
      rw (
        front_of 2 (omega (arith, long)) m v,
        back_of (number_at 1 f 15) (number_at 1 f 16) (omega (arith, long)),
        join 5 10 0,
        added_of (omega (arith, long)),
        join 15 2 0,
      )
      (take_all 17 f (omega (arith, long)))

  -- a file of version 1 that is accepted is the one that writing gives
  first_read : (c : Settings) → has_magic f ≡ true → number_at 2 f 3 ≡ 1 → read_first f ≡ Ok c → f ≡ file_of c
  first_read c m v e = go (eqb (length f) 15) refl (in_range s && fits_first s) refl e
    where
      s : Settings
      s = settings_at f 0 0

      go : (d : Bool) → eqb (length f) 15 ≡ d → (g : Bool) → (in_range s && fits_first s) ≡ g
          → cond d (cond g (Ok s) (Err SettingOutOfRange)) (Err NotSettings) ≡ Ok c
          → f ≡ file_of c
      go true l true fit h =
          let same : s ≡ c = cc in
          let fits : fits_first c ≡ true = ap fits_first (sym same) ∙ (and_parts (in_range s) (fits_first s) fit).1 in
          rw fits (sym (first_of_lem (eqb-true (length f) 15 l) m v) ∙ ap first_of same)
      go true l false fit h = cc
      go false l g fit h = cc

  -- and so is one of version 2
  second_read : (c : Settings) → has_magic f ≡ true → number_at 2 f 3 ≡ 2 → read_second f ≡ Ok c → f ≡ file_of c
  second_read c m v e = go (eqb (length f) 17) refl (in_range s) refl (fits_first s) refl e
    where
      s : Settings
      s = settings_at f (number_at 1 f 15) (number_at 1 f 16)

      go : (d : Bool) → eqb (length f) 17 ≡ d → (g : Bool) → in_range s ≡ g → (n : Bool) → fits_first s ≡ n
          → cond d
          (cond g (cond n (Err NeedlessVersion) (Ok s)) (Err SettingOutOfRange))
          (Err NotSettings)
          ≡ Ok c
          → f ≡ file_of c
      go true l true range false fit h =
          let same : s ≡ c = cc in
          let fits : fits_first c ≡ false = ap fits_first (sym same) ∙ fit in
          rw fits (sym (second_of_lem (eqb-true (length f) 17 l) m v) ∙ ap second_of same)
      go true l true range true fit h = cc
      go true l false range n fit h = cc
      go false l g range n fit h = cc

-- each file that is accepted is the one that writing gives
pub written_read : (f : List ℕ) (c : Settings) → AllBytes f → read_from f ≡ Ok c → f ≡ file_of c
unfolding read_from
written_read f c b e = go (leb 5 (length f) && has_magic f) refl (eqb (number_at 2 f 3) 1) refl (eqb (number_at 2 f 3) 2) refl e
  where
    go : (a : Bool) → (leb 5 (length f) && has_magic f) ≡ a
        → (p : Bool) → eqb (number_at 2 f 3) 1 ≡ p
        → (q : Bool) → eqb (number_at 2 f 3) 2 ≡ q
        → cond a (cond p (read_first f) (cond q (read_second f) (Err UnknownVersion))) (Err NotSettings)
        ≡ Ok c
        → f ≡ file_of c
    go true m true v q w h = first_read f b c (and_parts (leb 5 (length f)) (has_magic f) m).1 (eqb-true (number_at 2 f 3) 1 v) h
    go true m false v true w h = second_read f b c (and_parts (leb 5 (length f)) (has_magic f) m).1 (eqb-true (number_at 2 f 3) 2 w) h
    go true m false v false w h = cc
    go false m p v q w h = cc

-- one setting has one file
pub one_file : (f g : List ℕ) (c : Settings) → AllBytes f → AllBytes g
    → read_from f ≡ Ok c → read_from g ≡ Ok c → f ≡ g
one_file f g c a b p q = written_read f c a p ∙ sym (written_read g c b q)

-- ---- the round trips, of the part that writing leaves

-- what was written is the file of settings in range
pub record Wrote (c : Settings) (before after : List ℕ) (n : ℕ) : Type 0 where
  pub room : 17 ≤ length before
  pub range : in_range c ≡ true
  pub file : take n after ≡ file_of c

decides : (c : Settings) (n k : ℕ) → Ok n ≡ write_into c k → (17 ≤ k) × (in_range c ≡ true) × (n ≡ length (file_of c))
unfolding write_into
decides c n k e = go (leb 17 k) refl (in_range c) refl e
  where
    go : (a : Bool) → leb 17 k ≡ a → (b : Bool) → in_range c ≡ b
        → Ok n
        ≡ cond a (cond b (Ok (length (file_of c))) (Err SettingOutOfRange)) (Err ShortPart)
        → (17 ≤ k) × (in_range c ≡ true) × (n ≡ length (file_of c))
    go true p true q h = (leb-true 17 k p, q, cc)
    go true p false q h = cc
    go false p b q h = cc

-- a file has at most 17 bytes
pub file_short : (c : Settings) → length (file_of c) ≤ 17
file_short c = go (fits_first c)
  where
    go : (b : Bool) → length (cond b (first_of c) (second_of c)) ≤ 17
    go true = omega (arith, length_first c)
    go false = omega (arith, length_second c)

stored_front : (f l : List ℕ) → length f ≤ length l → take (length f) (sets l 0 f) ≡ f
stored_front f l h = rw (sets-eq f l 0 (omega arith)) (take-append_seam f (drop (0 + length f) l))

wrote : (c : Settings) (before after : List ℕ) (n : ℕ) → Writes c before (Ok n) after → Wrote c before after n
wrote c before after n w =
    let d = decides c n (length before) w.answer in
    record {
      room = d.0;
      range = d.1;
      file = rw (d.2, w.leaves) (stored_front (file_of c) before (omega (arith, d.0, file_short c)));
    }

-- what `write` counts is at most 17 bytes
pub wrote_short : (c : Settings) (before after : List ℕ) (n : ℕ) → Writes c before (Ok n) after → n ≤ 17
wrote_short c before after n w = omega (arith, (decides c n (length before) w.answer).2, file_short c)

-- the part that `write` leaves begins with a file that is read as these settings
pub write_then_read : (c : Settings) (before after : List ℕ) (n : ℕ) → SettingsFit c → Writes c before (Ok n) after
    → read_from (take n after) ≡ Ok c
write_then_read c before after n fit w =
    let h = wrote c before after n w in
    rw h.file (read_written c fit h.range)

-- a file that is accepted is the one that `write` leaves for its settings
pub read_then_write : (f : List ℕ) (c : Settings) (before after : List ℕ) (n : ℕ) → AllBytes f → read_from f ≡ Ok c
    → Writes c before (Ok n) after → take n after ≡ f
read_then_write f c before after n b e w = (wrote c before after n w).file ∙ sym (written_read f c b e)
