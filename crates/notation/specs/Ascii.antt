-- Text as bytes. Definitions.
-- Assumes nothing.
use Rattle.std.specs.Prelude.{List, ℕ, codes}
use Prim.Native.String.{String}

-- the bytes of a text in ASCII
abbrev pub ascii : String → List ℕ
ascii = codes
