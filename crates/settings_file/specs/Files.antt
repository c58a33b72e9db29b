-- A settings file: what is written, and what a file is read as. Definitions.
-- Assumes nothing.
use Rattle.std.specs.List.{starts_with}
use Rattle.std.specs.Prelude.{nat_eq, Result, Ok, Err, ◌≡◌, Bool, cond, ◌&&◌, List, [], ◌∷◌, ◌++◌, ℕ, leb, eqb, length}
use Rattle.std.proofs.lemmas.List.Edits.{sets}
use Rattle.protocol.specs.Ranges.{in_range}
use Rattle.protocol.specs.Refusals as link
use Rattle.protocol.specs.declared.Refusal.TheVariants as linkRefusal
use Rattle.protocol.specs.declared.Settings.{Settings}
use Rattle.wire.specs.LittleEndian.{bytes_of, number_at}
use Rattle.settings_file.specs.declared.FileRefusal.{FileRefusal}
use Rattle.settings_file.specs.declared.FileRefusal.TheVariants.{
  ShortPart,
  SettingOutOfRange,
  NotSettings,
  UnknownVersion,
  NeedlessVersion,
}

-- the numbers of the refusals: 7 and 12 are the link's
abbrev pub number_of : FileRefusal → ℕ
number_of ShortPart = link.number_of linkRefusal.ShortPart
number_of SettingOutOfRange = link.number_of linkRefusal.SettingOutOfRange
-- under 5 bytes, another magic, or another length than the version has
number_of NotSettings = 15
-- another version than 1 and 2
number_of UnknownVersion = 16
-- version 2, with settings that fit version 1
number_of NeedlessVersion = 20

-- ---- the two versions

-- version 1 has 15 bytes, version 2 has 17
abbrev pub first_size : ℕ
first_size = 15

abbrev pub second_size : ℕ
second_size = 17

-- the settings that fit version 1: mtu up to 512, stream and congestion off
abbrev pub fits_first : Settings → Bool
fits_first c = leb c.mtu 512 && eqb c.stream 0 && eqb c.congestion 0

-- ---- writing

-- the three letters KLS, first in every file
abbrev pub magic : List ℕ
magic = 75 ∷ 76 ∷ 83 ∷ []

-- magic, and the version in 16 bits
unfoldable pub front : ℕ → List ℕ
front version = magic ++ bytes_of 2 version

-- conversation 4 bytes, mtu 2, mode 1, interval 2, threshold 1
unfoldable pub back : Settings → List ℕ
back c = bytes_of 4 c.conv ++ bytes_of 2 c.mtu ++ bytes_of 1 c.mode ++ bytes_of 2 c.interval ++ bytes_of 1 c.threshold

-- what version 2 adds: one byte each for stream and congestion
unfoldable pub added : Settings → List ℕ
added c = bytes_of 1 c.stream ++ bytes_of 1 c.congestion

unfoldable pub first_of : Settings → List ℕ
first_of c = front 1 ++ back c

unfoldable pub second_of : Settings → List ℕ
second_of c = (front 2 ++ back c) ++ added c

-- the file of these settings: version 1 exactly when they fit it
abbrev pub file_of : Settings → List ℕ
file_of c = cond (fits_first c) (first_of c) (second_of c)

-- writing into a part this long: 7 for one under 17 bytes, then 12; else how many bytes the file has
unfoldable pub write_into : Settings → ℕ → Result ℕ FileRefusal
write_into c n =
    cond (leb second_size n)
    (cond (in_range c) (Ok (length (file_of c))) (Err SettingOutOfRange))
    (Err ShortPart)

-- the part afterwards: the file at its start, which is as it was beyond it; refused, it is as it was
abbrev pub Leaves : Settings → Result ℕ FileRefusal → List ℕ → List ℕ → Type 0
Leaves c (Ok n) before after = after ≡ sets before 0 (file_of c)
Leaves c (Err r) before after = after ≡ before

pub record Writes (c : Settings) (before : List ℕ) (a : Result ℕ FileRefusal) (after : List ℕ) : Type 0 where
  pub answer : a ≡ write_into c (length before)
  pub leaves : Leaves c a before after

-- ---- reading

-- whether a file begins with the magic
unfoldable pub has_magic : List ℕ → Bool
has_magic f = starts_with nat_eq f magic

-- the settings of its bytes, in range or not, with this for stream and for congestion
unfoldable pub settings_at : List ℕ → ℕ → ℕ → Settings
settings_at f stream congestion =
    record {
      conv = number_at 4 f 5;
      mtu = number_at 2 f 9;
      mode = number_at 1 f 11;
      interval = number_at 2 f 12;
      threshold = number_at 1 f 14;
      stream = stream;
      congestion = congestion;
    }

-- version 1: stream and congestion are off; settings in range that fit it, or 12
abbrev pub first_ranged : Settings → Result Settings FileRefusal
first_ranged c = cond (in_range c && fits_first c) (Ok c) (Err SettingOutOfRange)

abbrev pub read_first : List ℕ → Result Settings FileRefusal
read_first f = cond (eqb (length f) first_size) (first_ranged (settings_at f 0 0)) (Err NotSettings)

-- version 2: stream, then congestion, at its end; 12 for settings out of range, then 20 for those that fit version 1
abbrev pub second_ranged : Settings → Result Settings FileRefusal
second_ranged c =
    cond (in_range c)
    (cond (fits_first c) (Err NeedlessVersion) (Ok c))
    (Err SettingOutOfRange)

abbrev pub read_second : List ℕ → Result Settings FileRefusal
read_second f =
    cond (eqb (length f) second_size)
    (second_ranged (settings_at f (number_at 1 f 15) (number_at 1 f 16)))
    (Err NotSettings)

-- 15 for under 5 bytes or a wrong magic, 16 for an unknown version, then by the version: 15 for a wrong length, then 12, then 20
unfoldable pub read_from : List ℕ → Result Settings FileRefusal
read_from f =
    cond (leb 5 (length f) && has_magic f)
    (cond (eqb (number_at 2 f 3) 1) (read_first f) (cond (eqb (number_at 2 f 3) 2) (read_second f) (Err UnknownVersion)))
    (Err NotSettings)
