-- Segments joined to a datagram. Definitions.
-- Assumes nothing.
use Rattle.std.specs.Prelude.{◌≡◌, Ok, List, [], ◌∷◌, ◌++◌, ℕ, length}
use Rattle.wire.specs.Headers.{encode, FieldsFit}
use Rattle.datagram.specs.Datagrams.{Segment, Parsed, verdict, in_front}

-- a segment's bytes
unfoldable pub bytes : Segment → List ℕ
bytes g = encode g.header ++ g.payload

-- the bytes of segments, one behind the other
unfoldable pub joined : List Segment → List ℕ
joined [] = []
joined (g ∷ gs) = bytes g ++ joined gs

-- a segment that a link of this conversation and mss takes
pub record Valid (conv mss : ℕ) (g : Segment) : Type 0 where
  pub fits : FieldsFit g.header
  pub len : g.header.len ≡ length g.payload
  pub passes : verdict conv mss g.header.len g.header ≡ Ok tt

abbrev pub AllValid : ℕ → ℕ → List Segment → Type 0
AllValid conv mss [] = Unit {0}
AllValid conv mss (g ∷ gs) = Valid conv mss g × AllValid conv mss gs

-- segments that pass, in front of what the rest is
abbrev pub all_in_front : List Segment → Parsed → Parsed
all_in_front [] p = p
all_in_front (g ∷ gs) p = in_front (Ok tt) g (all_in_front gs p)
