-- Laws of `Joining`: outstanding segments beside their records, as one list.
-- Assumes nothing.
use Rattle.std.specs.Prelude.{◌≡◌, refl, List, [], ◌∷◌, map, ℕ, zero, suc, ◌≤◌, ◌<◌, length, take, get_or, set}
use Rattle.std.proofs.Common.{sym, ap, ◌∙◌, arith}
use Rattle.lists.specs.declared.Held.{Held}
use Rattle.lists.specs.declared.Outstanding.{Outstanding}
use Rattle.lists.specs.declared.Listed.{Listed}
use Rattle.lists.specs.declared.Sent.{Sent}
use Rattle.timing.specs.declared.Record.{Record}
use Rattle.lists.specs.Views.{Holds, outstanding_part, sent_part}
use Rattle.lists.specs.Joining.{with_record, joined, record_of, JoinedIs}

-- the segments as the slots hold them, and the records of as many
pub joined_held : (l : List Outstanding) (rs : List Record) → length l ≤ length rs → map sent_part (joined l rs) ≡ map outstanding_part l
unfolding joined
joined_held [] rs h = refl
joined_held (o ∷ l) [] h = absurd (omega arith)
joined_held (o ∷ l) (r ∷ rs) h = ap (λ (k : List Held). o.held ∷ k) (joined_held l rs (omega arith))

pub joined_records : (l : List Outstanding) (rs : List Record) → length l ≤ length rs → map record_of (joined l rs) ≡ take (length l) rs
unfolding joined
joined_records [] rs h = refl
joined_records (o ∷ l) [] h = absurd (omega arith)
joined_records (o ∷ l) (r ∷ rs) h = ap (λ (k : List Record). r ∷ k) (joined_records l rs (omega arith))

-- ---- what is read and stored at the same index of both arrays

pub length_joined : (os : List Outstanding) (rs : List Record) (n : ℕ) → length os ≡ n → length rs ≡ n → length (joined os rs) ≡ n
unfolding joined
length_joined [] rs n e f = e
length_joined (o ∷ os) [] n e f = f
length_joined (o ∷ os) (r ∷ rs) n e f = ap suc (length_joined os rs (length os) refl (omega arith)) ∙ e

pub take_joined : (n : ℕ) (os : List Outstanding) (rs : List Record) → take n (joined os rs) ≡ joined (take n os) rs
unfolding joined
take_joined zero os rs = refl
take_joined (suc n) [] rs = refl
take_joined (suc n) (o ∷ os) [] = refl
take_joined (suc n) (o ∷ os) (r ∷ rs) = ap (λ (l : List Sent). with_record o r ∷ l) (take_joined n os rs)

pub get_joined : (os : List Outstanding) (rs : List Record) (i : ℕ) (o : Outstanding) (r : Record) → i < length (joined os rs)
    → get_or (joined os rs) i (with_record o r) ≡ with_record (get_or os i o) (get_or rs i r)
unfolding joined
get_joined [] rs i o r h = absurd (omega arith)
get_joined (p ∷ os) [] i o r h = absurd (omega arith)
get_joined (p ∷ os) (q ∷ rs) zero o r h = refl
get_joined (p ∷ os) (q ∷ rs) (suc i) o r h = get_joined os rs i o r (omega arith)

pub set_joined : (os : List Outstanding) (rs : List Record) (i : ℕ) (o : Outstanding) (r : Record)
    → set (joined os rs) i (with_record o r) ≡ joined (set os i o) (set rs i r)
unfolding joined
set_joined [] rs i o r = refl
set_joined (p ∷ os) [] i o r = go i
  where
    go : (i : ℕ) → [] ≡ joined (set (p ∷ os) i o) []
    go zero = refl
    go (suc i) = refl
set_joined (p ∷ os) (q ∷ rs) zero o r = refl
set_joined (p ∷ os) (q ∷ rs) (suc i) o r = ap (λ (l : List Sent). with_record p q ∷ l) (set_joined os rs i o r)

-- a list that stands in the front of both arrays
pub joined_is : (s : Listed Outstanding 32) (rs : List Record) (l : List Sent) → Holds 32 (joined s.at rs) s.count l → JoinedIs s rs l
joined_is s rs l h = record { fits = h.fits; list = sym (take_joined s.count s.at rs) ∙ h.list }
