-- What the writer and the reader answer, and what they leave. Definitions.
-- Assumes nothing.
use Rattle.std.specs.Prelude.{◌≡◌, Bool, true, false, cond, ◌&&◌, not, Result, Ok, Err, List, [], ◌∷◌, ℕ, ◌+◌, ◌*◌, leb, eqb, length}
use Rattle.std.proofs.lemmas.List.Edits.{sets}
use Rattle.protocol.specs.Protocol.{header_size, mtu_least, mtu_most}
use Rattle.protocol.specs.Refusals as link
use Rattle.protocol.specs.declared.Refusal.TheVariants as linkRefusal
use Rattle.frames.specs.declared.Refusal.{Refusal}
use Rattle.frames.specs.declared.Refusal.TheVariants.{ShortPart, SettingOutOfRange, NotAGroup, TooFewFrames, LateGroup}
use Rattle.frames.specs.Lists.{add_up, joined, lengths_of, parts}
use Rattle.frames.specs.Frames.{group}

-- the numbers of the refusals: 7 and 12 are the link's
abbrev pub number_of : Refusal → ℕ
number_of ShortPart = link.number_of linkRefusal.ShortPart
number_of SettingOutOfRange = link.number_of linkRefusal.SettingOutOfRange
number_of NotAGroup = 21
number_of TooFewFrames = 22
number_of LateGroup = 23

-- a call is refused, or it writes parts, packed, with their lengths
pub data Outcome : Type 0 where
  refused : Refusal → Outcome
  wrote : List (List ℕ) → Outcome

-- the refusal, or how many parts were written
abbrev pub answer_of : Outcome → Result ℕ Refusal
answer_of (refused r) = Err r
answer_of (wrote l) = Ok (length l)

-- the lent bytes, and the lent lengths, afterwards; refused, they stay
abbrev pub bytes_after : Outcome → List ℕ → List ℕ
bytes_after (refused r) bytes = bytes
bytes_after (wrote l) bytes = sets bytes 0 (joined l)

abbrev pub lengths_after : Outcome → List ℕ → List ℕ
lengths_after (refused r) lengths = lengths
lengths_after (wrote l) lengths = sets lengths 0 (lengths_of l)

-- a call with this outcome: its answer, and what it makes of the lent bytes and lengths
pub record Gives (o : Outcome) (out ns : List ℕ) (a : Result ℕ Refusal) (out' ns' : List ℕ) : Type 0 where
  pub answer : a ≡ answer_of o
  pub bytes : out' ≡ bytes_after o out
  pub lengths : ns' ≡ lengths_after o ns

-- ---- the tests that both have

abbrev pub data_most : ℕ
data_most = 10

-- 1 to 10 datagrams in a group, and a link's mtu
abbrev pub settings_ok : ℕ → ℕ → Bool
settings_ok k mtu = leb 1 k && leb k data_most && leb mtu_least mtu && leb mtu mtu_most

-- size packed bytes are as many as their lengths say, and there is room for n parts of each bytes, and for n lengths
abbrev pub lent_ok : ℕ → List ℕ → ℕ → ℕ → ℕ → ℕ → Bool
lent_ok size lengths n each room slots = leb (add_up lengths) size && leb (n * each) room && leb n slots

-- a datagram of n bytes, a header's size to mtu
abbrev pub length_ok : ℕ → ℕ → Bool
length_ok mtu n = leb header_size n && leb n mtu

unfoldable pub lengths_ok : ℕ → List ℕ → Bool
lengths_ok mtu [] = true
lengths_ok mtu (n ∷ ns) = cond (length_ok mtu n) (lengths_ok mtu ns) false

-- ---- the writer

-- no group starts at 2^32 - 12 or later
abbrev pub groups_end : ℕ
groups_end = 4294967284

-- group n of the k datagrams that the bytes s with these lengths are: 7, 12, 21, 23, or the group's frames
unfoldable pub write_of : ℕ → ℕ → ℕ → List ℕ → List ℕ → ℕ → ℕ → Outcome
write_of n k mtu s lengths room slots =
    cond (not (lent_ok (length s) lengths 12 (mtu + 8) room slots)) (refused ShortPart)
    (cond (not (settings_ok k mtu)) (refused SettingOutOfRange)
    (cond (not (eqb (length lengths) k && lengths_ok mtu lengths)) (refused NotAGroup)
    (cond (leb groups_end (n * (k + 2))) (refused LateGroup)
    (wrote (group (n * (k + 2)) (parts s lengths))))))
