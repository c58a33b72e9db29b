-- Outstanding segments: which are acknowledged, and which are skipped. Definitions.
-- Assumes nothing.
use Rattle.std.specs.Prelude.{Bool, cond, not, ◌&&◌, List, [], ◌∷◌, ℕ, eqb}
use Rattle.protocol.specs.Serial.{is_after, is_before}
use Rattle.retransmission.specs.Transmissions.{skipped}
use Rattle.lists.specs.declared.Sent.{Sent}
use Rattle.lists.specs.declared.Acknowledges.{Acknowledges}
use Rattle.lists.specs.declared.Acknowledges.TheVariants.{Una, Ack}

-- the rule, for every use: with snd_nxt as it is, a una acknowledges every number that it is after, unless it is after snd_nxt; an
-- ack acknowledges the number that it names
abbrev pub acknowledged : ℕ → Acknowledges → ℕ → Bool
acknowledged next (Una una) n = not (is_after una next) && is_after una n
acknowledged next (Ack sn) n = eqb n sn

-- the entries that pass a test
unfoldable pub select : {A : Type 0} → (A → Bool) → List A → List A
select test [] = []
select test (x ∷ l) = cond (test x) (x ∷ select test l) (select test l)

-- the segments whose number passes a test
abbrev pub filter : (ℕ → Bool) → List Sent → List Sent
filter test = select (λ s. test s.record.number)

-- the segments that an arrival does not acknowledge
abbrev pub removed : ℕ → Acknowledges → List Sent → List Sent
removed next arrival = filter (λ n. not (acknowledged next arrival n))

-- the first number, else another one
unfoldable pub first_number_or : List Sent → ℕ → ℕ
first_number_or [] other = other
first_number_or (s ∷ l) other = s.record.number

-- one skip more
abbrev pub one_skip : Sent → Sent
one_skip s = record { held = s.held; transmissions = s.transmissions; «record» = skipped s.record }

-- a segment before n gets one skip
unfoldable pub skip_before : ℕ → Sent → Sent
skip_before n s = cond (is_before s.record.number n) (one_skip s) s
