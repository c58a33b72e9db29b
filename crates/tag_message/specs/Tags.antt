-- Names, values, and the numbers of the refusals. Definitions.
-- Assumes nothing.
use Rattle.std.specs.Prelude.{Bool, ◌&&◌, List, ℕ, leb, length}
use Rattle.std.specs.List.{list_all}
use Rattle.protocol.specs.Refusals as link
use Rattle.protocol.specs.declared.Refusal.TheVariants as linkRefusal
use Rattle.tag_message.specs.declared.TagRefusal.{TagRefusal}
use Rattle.tag_message.specs.declared.TagRefusal.TheVariants.{OtherSize, NotATag, Full, Absent, NotATable}

-- the numbers of the refusals: 7 is the link's
abbrev pub number_of : TagRefusal → ℕ
-- a table of another size, or a message writer's part under 98 bytes
number_of OtherSize = link.number_of linkRefusal.ShortPart
-- a message, name or value not of its form
number_of NotATag = 17
-- a new name in a full table
number_of Full = 18
-- an absent name is removed
number_of Absent = 19
-- a table with a length or byte outside of its rules, or a name twice
number_of NotATable = 24

-- bytes 33 to 126
abbrev pub is_printable : ℕ → Bool
is_printable b = leb 33 b && leb b 126

-- a name has 1 to 32 bytes, 33 to 126 each
unfoldable pub is_name : List ℕ → Bool
is_name l = leb 1 (length l) && leb (length l) 32 && list_all is_printable l

-- a value has up to 64 bytes, of any kind
abbrev pub is_value : List ℕ → Bool
is_value l = leb (length l) 64

-- a tag is a name and a value
unfoldable pub is_tag : List ℕ → List ℕ → Bool
is_tag name value = is_name name && is_value value
