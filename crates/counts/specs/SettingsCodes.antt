-- C's settings files: a number below zero exactly where the file is refused, and what was written is stored as it was given.
-- Assumes nothing.
use Rattle.std.specs.Prelude.{◌≡◌, Result, Ok, Err, refl, Bool, true, false, List, ℕ, min, ℤ, pos, take}
use Rattle.std.proofs.Common.{ap, subst, arith, le-ltb}
use Rattle.std.specs.Int.Signed.{lt_z}
use Rattle.protocol.specs.declared.Settings.{Settings}
use Rattle.codes.specs.Codes.{number_code}
use Rattle.settings_file.specs.Files.{number_of, Writes, read_from}
use Rattle.settings_file.specs.FileLaws.{SettingsFit, wrote_short, write_then_read}
use Rattle.settings_file.specs.declared.FileRefusal.{FileRefusal}
use Rattle.settings_file.specs.declared.FileRefusal.TheVariants.{
  ShortPart,
  SettingOutOfRange,
  NotSettings,
  UnknownVersion,
  NeedlessVersion,
}
use Rattle.settings_calls.specs.SettingsFiles.{writing_code, Numbers, numbers_of, Stores}

abbrev pub is_refused_writing : Result ℕ FileRefusal → Bool
is_refused_writing (Ok n) = false
is_refused_writing (Err r) = true

abbrev pub is_refused_reading : Result Settings FileRefusal → Bool
is_refused_reading (Ok c) = false
is_refused_reading (Err r) = true

refusal_below : (r : FileRefusal) → lt_z (number_code (number_of r)) (pos 0) ≡ true
refusal_below ShortPart = refl
refusal_below SettingOutOfRange = refl
refusal_below NotSettings = refl
refusal_below UnknownVersion = refl
refusal_below NeedlessVersion = refl

pub writing_below : (a : Result ℕ FileRefusal) → lt_z (writing_code a) (pos 0) ≡ is_refused_writing a
writing_below (Ok n) = le-ltb (min n 2147483647) 0 (omega arith)
writing_below (Err r) = refusal_below r

pub reading_below : (a : Result Settings FileRefusal) (r : ℤ) (before after : Numbers) → Stores a r before after
    → lt_z r (pos 0) ≡ is_refused_reading a
reading_below (Ok c) r before after h = rw h.0
reading_below (Err q) r before after h = rw h.0 (refusal_below q)

-- the count of a file that was written is told as it is
pub written_told : (c : Settings) (part part' : List ℕ) (n : ℕ) → Writes c part (Ok n) part'
    → writing_code (Ok n) ≡ pos n
written_told c part part' n w = ap pos (omega (arith, wrote_short c part part' n w))

-- the file that was written, read back: 0, and the seven settings
pub written_stored : (c : Settings) (part part' : List ℕ) (n : ℕ) (r : ℤ) (before after : Numbers) → SettingsFit c
    → Writes c part (Ok n) part'
    → Stores (read_from (take n part')) r before after
    → (r ≡ pos 0) × (after ≡ numbers_of c)
written_stored c part part' n r before after fit w h =
    subst (λ (a : Result Settings FileRefusal). Stores a r before after) (write_then_read c part part' n fit w) h
