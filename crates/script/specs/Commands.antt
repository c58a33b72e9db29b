-- A line of a script read as a command. Definitions.
-- Assumes nothing.
use Rattle.std.specs.Prelude.{◌≡◌, Bool, false, cond, Option, Some, None, ◌&&◌, ◌||◌, List, [], ◌∷◌, ℕ, ◌+◌, ◌*◌, leb, ltb, eqb, length, drop}
use Prim.Native.String.{String}
use Rattle.std.proofs.lemmas.List.Edits.{sets}
use Rattle.notation.specs.Ascii.{ascii}
use Rattle.notation.specs.Words.{number_of}
use Rattle.notation.specs.Hex.{bytes_of, is_bytes}
use Rattle.script.specs.declared.Command.{Command}
use Rattle.script.specs.declared.Command.TheVariants.{
  Open,
  Send,
  Input,
  Flush,
  Update,
  Check,
  Read,
  Size,
  Show,
  State,
  Held,
  Jump,
  Lend,
  Poke,
  Hold,
  Rec,
}

-- ---- words

-- up to a byte, which is left out, or the end
unfoldable pub up_to : ℕ → List ℕ → List ℕ
up_to stop [] = []
up_to stop (c ∷ l) = cond (eqb c stop) [] (c ∷ up_to stop l)

-- the first word of a line, and the first line of a script
abbrev pub word : List ℕ → List ℕ
word = up_to 32

abbrev pub first_line : List ℕ → List ℕ
first_line = up_to 10

-- what is behind it, from its space on
abbrev pub behind_word : List ℕ → List ℕ
behind_word l = drop (length (word l)) l

-- a letter in front of the first word
abbrev pub on_first : ℕ → List (List ℕ) → List (List ℕ)
on_first c [] = (c ∷ []) ∷ []
on_first c (w ∷ ws) = (c ∷ w) ∷ ws

-- the words of a line, parted by one space
unfoldable pub words : List ℕ → List (List ℕ)
words [] = [] ∷ []
words (c ∷ l) = cond (eqb c 32) ([] ∷ words l) (on_first c (words l))

-- the words behind a word, with one space in front of each
abbrev pub arguments : List ℕ → List (List ℕ)
arguments [] = []
arguments (c ∷ l) = words l

-- the numbers that words are, where each is one
abbrev pub one_more : Option ℕ → Option (List ℕ) → Option (List ℕ)
one_more (Some n) (Some ns) = Some (n ∷ ns)
one_more (Some n) None = None
one_more None ns = None

unfoldable pub numbers_of : List (List ℕ) → Option (List ℕ)
numbers_of [] = Some []
numbers_of (w ∷ ws) = one_more (number_of w) (numbers_of ws)

-- ---- names

-- a word as a number: a byte for each letter behind a number n; 0 from seven letters on
unfoldable pub letters : ℕ → List ℕ → ℕ
letters n [] = n
letters n (c ∷ w) = cond (leb 72057594037927936 (256 * n + c)) 0 (letters (256 * n + c) w)

-- no two words of at most six bytes have one number (`name_once`)
abbrev pub name_of : List ℕ → ℕ
name_of w = letters 1 w

-- the word is this name
abbrev pub named : ℕ → String → Bool
named name s = eqb name (name_of (ascii s))

-- ---- commands

abbrev pub is_one_of : ℕ → List ℕ → Bool
is_one_of n [] = false
is_one_of n (k ∷ ks) = eqb n k || is_one_of n ks

-- the fields of the control block that can be poked
abbrev pub is_field : ℕ → Bool
is_field field = leb field 25

-- the largest value of a field of the control block: 16 bits for mtu, interval, peer_window and acks, 8 for mode,
-- threshold, stream and congestion, 32 for the rest
unfoldable pub field_most : ℕ → ℕ
field_most field = cond (is_one_of field (1 ∷ 3 ∷ 9 ∷ 18 ∷ [])) 65535 (cond (is_one_of field (2 ∷ 4 ∷ 19 ∷ 20 ∷ [])) 255 4294967295)

-- four lists, and fields 0 slot, 1 len, 2 frg, and 3 transmissions (list 1) or number (list 3)
abbrev pub has_field : ℕ → ℕ → Bool
has_field list field = leb list 3 && leb field 3 && (ltb field 3 || eqb list 1 || eqb list 3)

-- 16 bits for len, 8 for slot, frg and transmissions, 32 for number
unfoldable pub held_most : ℕ → ℕ → ℕ
held_most list field = cond (eqb field 1) 65535 (cond (ltb field 3 || eqb list 1) 255 4294967295)

-- commands without a number, with one, two, four, five, six and seven
unfoldable pub of_none : ℕ → Option Command
of_none name =
    cond (named name "size") (Some Size)
    (cond (named name "show") (Some Show)
    (cond (named name "state") (Some State)
    (cond (named name "held") (Some Held) None)))

unfoldable pub of_one : ℕ → ℕ → Option Command
of_one name a =
    cond (named name "flush") (Some (Flush a))
    (cond (named name "update") (Some (Update a))
    (cond (named name "check") (Some (Check a))
    (cond (named name "read" && leb a 60000) (Some (Read a)) None)))

unfoldable pub of_two : ℕ → ℕ → ℕ → Option Command
of_two name a b =
    cond (named name "jump") (Some (Jump a b))
    (cond (named name "lend" && leb a 5) (Some (Lend a b))
    (cond (named name "poke" && is_field a && leb b (field_most a)) (Some (Poke a b)) None))

unfoldable pub of_four : ℕ → ℕ → ℕ → ℕ → ℕ → Option Command
of_four name list index field value =
    cond (named name "hold" && has_field list field && leb value (held_most list field)) (Some (Hold list index field value)) None

unfoldable pub of_five : ℕ → ℕ → ℕ → ℕ → ℕ → ℕ → Option Command
of_five name a b c d e =
    cond (named name "open") (Some (Open a b c d e 0 0))
    (cond (named name "rec" && ltb a 128 && leb e 65535) (Some (Rec a b c d e)) None)

unfoldable pub of_six : ℕ → ℕ → ℕ → ℕ → ℕ → ℕ → ℕ → Option Command
of_six name a b c d e f = cond (named name "open") (Some (Open a b c d e f 0)) None

unfoldable pub of_seven : ℕ → ℕ → ℕ → ℕ → ℕ → ℕ → ℕ → ℕ → Option Command
of_seven name a b c d e f g = cond (named name "open") (Some (Open a b c d e f g)) None

abbrev pub of_numbers : ℕ → List ℕ → Option Command
of_numbers name [] = of_none name
of_numbers name (a ∷ []) = of_one name a
of_numbers name (a ∷ b ∷ []) = of_two name a b
of_numbers name (a ∷ b ∷ c ∷ []) = None
of_numbers name (a ∷ b ∷ c ∷ d ∷ []) = of_four name a b c d
of_numbers name (a ∷ b ∷ c ∷ d ∷ e ∷ []) = of_five name a b c d e
of_numbers name (a ∷ b ∷ c ∷ d ∷ e ∷ f ∷ []) = of_six name a b c d e f
of_numbers name (a ∷ b ∷ c ∷ d ∷ e ∷ f ∷ g ∷ []) = of_seven name a b c d e f g
of_numbers name (a ∷ b ∷ c ∷ d ∷ e ∷ f ∷ g ∷ h ∷ ns) = None

abbrev pub with_numbers : ℕ → Option (List ℕ) → Option Command
with_numbers name None = None
with_numbers name (Some ns) = of_numbers name ns

-- commands with bytes, no more than there is room for: all that is behind one space
abbrev pub takes_bytes : ℕ → Bool
takes_bytes name = named name "send" || named name "input"

abbrev pub with_bytes : ℕ → List ℕ → ℕ → Option Command
with_bytes name [] room = None
with_bytes name (c ∷ w) room = cond (is_bytes w room) (cond (named name "send") (Some (Send (length (bytes_of w)))) (Some (Input (length (bytes_of w)))))
    None

-- the bytes of a command at the start of `was`
abbrev pub stored_bytes : List ℕ → List ℕ → List ℕ
stored_bytes [] was = was
stored_bytes (c ∷ w) was = cond (is_bytes w (length was)) (sets was 0 (bytes_of w)) was

-- ---- lines

-- a line of at most 65,000 characters
unfoldable pub command_of : List ℕ → ℕ → Option Command
command_of line room =
    cond (ltb 65000 (length line)) None
    (cond (takes_bytes (name_of (word line))) (with_bytes (name_of (word line)) (behind_word line) room)
    (with_numbers (name_of (word line)) (numbers_of (arguments (behind_word line)))))

unfoldable pub bytes_left : List ℕ → List ℕ → List ℕ
bytes_left line was =
    cond (ltb 65000 (length line)) was
    (cond (takes_bytes (name_of (word line))) (stored_bytes (behind_word line) was) was)

-- a line's command, and the lent buffer after it
pub record Parsed (line was : List ℕ) (r : Option Command) (is : List ℕ) : Type 0 where
  pub command : r ≡ command_of line (length was)
  pub bytes : is ≡ bytes_left line was
