-- Settings files as C sees them: codes, and the seven numbers that a file stores.
-- Assumes nothing.
use Rattle.std.specs.Prelude.{◌≡◌, Result, Ok, Err, ℕ, ℤ, pos}
use Rattle.protocol.specs.declared.Settings.{Settings}
use Rattle.codes.specs.Codes.{number_code, size_code}
use Rattle.settings_file.specs.Files.{number_of}
use Rattle.settings_file.specs.declared.FileRefusal.{FileRefusal}

-- the count of the file's bytes where it was written
abbrev pub writing_code : Result ℕ FileRefusal → ℤ
writing_code (Ok n) = size_code n
writing_code (Err r) = number_code (number_of r)

-- seven settings as numbers of one width
pub record Numbers : Type 0 where
  pub conv : ℕ
  pub mtu : ℕ
  pub mode : ℕ
  pub interval : ℕ
  pub threshold : ℕ
  pub stream : ℕ
  pub congestion : ℕ

abbrev pub numbers : ℕ → ℕ → ℕ → ℕ → ℕ → ℕ → ℕ → Numbers
numbers conv mtu mode interval threshold stream congestion =
    record {
      conv = conv;
      mtu = mtu;
      mode = mode;
      interval = interval;
      threshold = threshold;
      stream = stream;
      congestion = congestion;
    }

-- those of a link's settings
abbrev pub numbers_of : Settings → Numbers
numbers_of c = numbers c.conv c.mtu c.mode c.interval c.threshold c.stream c.congestion

-- a file that is read is told by 0, and its settings are stored; a refused one changes nothing
abbrev pub Stores : Result Settings FileRefusal → ℤ → Numbers → Numbers → Type 0
Stores (Ok c) r before after = (r ≡ pos 0) × (after ≡ numbers_of c)
Stores (Err q) r before after = (r ≡ number_code (number_of q)) × (after ≡ before)
