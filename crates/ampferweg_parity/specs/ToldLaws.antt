-- Laws of what C is told: no group has more than 12 frames, so that a count is told as it is.
-- Assumes nothing.
use Rattle.std.specs.Prelude.{◌≡◌, refl, Bool, true, false, cond, ◌&&◌, not, Result, Ok, Err, List, map}
use Rattle.std.specs.Prelude.{ℕ, ◌+◌, ◌*◌, ◌≤◌, ◌<◌, ◌^◌, min, leb, ltb, eqb, ℤ, pos, length}
use Rattle.std.proofs.Common.{ap, ◌∙◌, arith, leb-true, eqb-true, SFits}
use Rattle.std.specs.Int.{w32}
use Rattle.codes.specs.Codes.{number_code}
use Rattle.codes.proofs.Signs.{negative_fits}
use Rattle.frames.specs.declared.Refusal.{Refusal}
use Rattle.frames.specs.declared.Refusal.TheVariants.{ShortPart, SettingOutOfRange, NotAGroup, TooFewFrames, LateGroup}
use Rattle.frames.specs.Lists.{parts, lengths_of, every, different}
use Rattle.frames.specs.Frames.{group, frame_at}
use Rattle.frames.specs.Outcomes.{Outcome, refused, wrote, number_of, answer_of, Gives, settings_ok, lent_ok, lengths_ok, groups_end, write_of}
use Rattle.frames.specs.Reading.{sequence_of, datagram_at, frame_ok, first_group, held_shard, found, holds, read_group, read_frames, read_of}
use Rattle.frames.specs.PlaceLaws.{length_listed}
use Rattle.frames.specs.PartLaws.{length_parts}
use Rattle.frames.specs.OutcomeLaws.{and_left, and_right}
use Rattle.ampferweg_parity.specs.Told.{count_code, answer_code, outcome_code, Told}

-- ---- codes fit 32 bits

number_small : (r : Refusal) → number_of r < 2 ^ 8
number_small ShortPart = omega arith
number_small SettingOutOfRange = omega arith
number_small NotAGroup = omega arith
number_small TooFewFrames = omega arith
number_small LateGroup = omega arith

pub refusal_fits : (r : Refusal) → SFits w32 (number_code (number_of r))
refusal_fits r = negative_fits (number_of r) (number_small r)

pub count_fits : (n : ℕ) → SFits w32 (count_code n)
count_fits n = record { sfits = omega arith }

pub answer_fits : (a : Result ℕ Refusal) → SFits w32 (answer_code a)
answer_fits (Ok n) = count_fits n
answer_fits (Err r) = refusal_fits r

-- ---- at most 12 parts

-- an outcome that is refused, or writes at most 12 parts
pub data Few : Outcome → Type 0 where
  none : {r : Refusal} → Few (refused r)
  some : {l : List (List ℕ)} → length l ≤ 12 → Few (wrote l)

settings_few : (k mtu : ℕ) → settings_ok k mtu ≡ true → k ≤ 10
settings_few k mtu b =
    leb-true k 10 (and_right (leb 1 k) (leb k 10)
    (and_left (leb 1 k && leb k 10) (leb 50 mtu) (and_left (leb 1 k && leb k 10 && leb 50 mtu) (leb mtu 1400) b)))

pub write_few : (n k mtu : ℕ) (s ns : List ℕ) (room slots : ℕ) → Few (write_of n k mtu s ns room slots)
unfolding write_of group
write_few n k mtu s ns room slots =
    go (lent_ok (length s) ns 12 (mtu + 8) room slots) (settings_ok k mtu) refl (eqb (length ns) k && lengths_ok mtu ns) refl
    (leb groups_end (n * (k + 2)))
  where
    go : (a b : Bool) → settings_ok k mtu ≡ b → (c : Bool) → (eqb (length ns) k && lengths_ok mtu ns) ≡ c → (d : Bool) →
        Few (cond (not a) (refused ShortPart) (cond (not b) (refused SettingOutOfRange)
        (cond (not c) (refused NotAGroup) (cond d (refused LateGroup) (wrote (group (n * (k + 2)) (parts s ns)))))))
    go false b eb c ec d = none
    go true false eb c ec d = none
    go true true eb false ec d = none
    go true true eb true ec true = none
    go true true eb true ec false =
        some {l = group (n * (k + 2)) (parts s ns)}
        (omega (
          arith,
          length_listed (frame_at (n * (k + 2)) (parts s ns)) (length (parts s ns) + 2),
          length_parts s ns,
          eqb-true (length ns) k (and_left (eqb (length ns) k) (lengths_ok mtu ns) ec),
          settings_few k mtu eb,
        ))

pub read_few : (k mtu : ℕ) (s ns : List ℕ) (room slots : ℕ) → Few (read_of k mtu s ns room slots)
unfolding read_of read_frames read_group found
read_few k mtu s ns room slots =
    go (lent_ok (length s) ns 10 mtu room slots) (settings_ok k mtu) refl (every (frame_ok k mtu (first_group k (parts s ns))) (parts s ns))
    (ltb (different (map sequence_of (parts s ns))) k)
    (lengths_ok mtu (lengths_of (found k (held_shard k (parts s ns))))
    && every (holds k (first_group k (parts s ns) * (k + 2)) (found k (held_shard k (parts s ns)))) (parts s ns))
  where
    go : (a b : Bool) → settings_ok k mtu ≡ b → (c d e : Bool) →
        Few (cond (not a) (refused ShortPart) (cond (not b) (refused SettingOutOfRange)
        (cond (not c) (refused NotAGroup) (cond d (refused TooFewFrames)
        (cond (not e) (refused NotAGroup) (wrote (found k (held_shard k (parts s ns)))))))))
    go false b eb c d e = none
    go true false eb c d e = none
    go true true eb false d e = none
    go true true eb true true e = none
    go true true eb true false false = none
    go true true eb true false true =
        some {l = found k (held_shard k (parts s ns))}
        (omega (arith, length_listed (datagram_at k (held_shard k (parts s ns))) k, settings_few k mtu eb))

-- ---- the number of an outcome

pub answer_told : (o : Outcome) → Few o → answer_code (answer_of o) ≡ outcome_code o
answer_told (refused r) few = refl
answer_told (wrote l) (some h) = let e : min (length l) 12 ≡ length l = omega arith in ap pos e

pub told : (o : Outcome) (out ns : List ℕ) (a : Result ℕ Refusal) (r : ℤ) (out' ns' : List ℕ) → Few o → r ≡ answer_code a → Gives o out ns a out' ns'
    → Told o out ns r out' ns'
told o out ns a r out' ns' few e g =
    record { number = e ∙ ap answer_code g.answer ∙ answer_told o few; bytes = g.bytes; lengths = g.lengths }
