-- What a host is told of the archive: the bytes of a control block, and the version. Definitions.
-- Assumes nothing.
use Rattle.std.specs.Prelude.{ℕ}

abbrev pub block_size : ℕ
block_size = 2336

-- 10,000 for the first number of a version, 100 for the second, 1 for the third: 0.4.0
abbrev pub version_number : ℕ
version_number = 400
