-- Laws of `Sents`: words, transmissions and records side by side, as one list.
-- Assumes nothing.
use mathlib.Core.Path.{◌≡◌, sym, ap, ◌∙◌}
use mathlib.Core.List.{List}
use Prim.Native.Nat.{ℕ, ◌≤◌, ◌<◌}
use native.Mathlib.Omega.{arith}
use lib.ListN.{length, take, get_or, set}
use lib.Seq.{length-take-le}
use Rattle.timing.specs.declared.Record.{Record}
use Rattle.lists.specs.declared.Outstanding.{Outstanding}
use Rattle.lists.specs.declared.Sent.{Sent}
use Rattle.lists.specs.Views.{Holds}
use Rattle.lists.specs.Joining.{with_record, joined}
use Rattle.lists.specs.JoiningLaws.{length_joined, take_joined, get_joined, set_joined}
use Rattle.words.specs.Words.{paired, outstanding_at}
use Rattle.words.proofs.Pairs.{paired_take, paired_length, paired_set, paired_get}
use Rattle.numbering.specs.Sents.{sent_in, SentFront}

module _ (ws ts : List ℕ) (rs : List Record) where
  -- the whole arrays
  abbrev pub sents : List Sent
  sents = joined (paired outstanding_at ws ts) rs

  -- their front
  pub sents_take : (n : ℕ) → sent_in ws ts rs n ≡ take n sents
  sents_take n = ap (λ (os : List Outstanding). joined os rs) (paired_take outstanding_at n ws ts) ∙ sym
      (take_joined n (paired outstanding_at ws ts) rs)

  -- a store at the same index of each
  pub sents_set : (i w t : ℕ) (r : Record)
      → set sents i (with_record (outstanding_at w t) r) ≡ joined (paired outstanding_at (set ws i w) (set ts i t)) (set rs i r)
  sents_set i w t r = set_joined (paired outstanding_at ws ts) rs i (outstanding_at w t) r ∙ ap
      (λ (os : List Outstanding). joined os (set rs i r)) (paired_set outstanding_at ws ts i w t)

  module _ (e : length ws ≡ 32) (f : length ts ≡ 32) (g : length rs ≡ 32) where
    pub sents_length : length sents ≡ 32
    sents_length = length_joined (paired outstanding_at ws ts) rs 32 (paired_length outstanding_at ws ts 32 e f) g

    -- how many stand in the front
    pub front_length : (n : ℕ) → n ≤ 32 → length (sent_in ws ts rs n) ≡ n
    front_length n h = ap length (sents_take n) ∙ length-take-le n sents (omega (arith, sents_length))

  -- a read at the same index of each
  pub sents_get : (i : ℕ) (r : Record) → i < length ws → i < length ts → i < length sents
      → get_or sents i (with_record (outstanding_at 0 0) r) ≡ with_record (outstanding_at (get_or ws i 0) (get_or ts i 0)) (get_or rs i r)
  sents_get i r h g l =
      get_joined (paired outstanding_at ws ts) rs i (outstanding_at 0 0) r l
      ∙ ap (λ (o : Outstanding). with_record o (get_or rs i r)) (paired_get outstanding_at ws ts i (outstanding_at 0 0) h g)

-- a list that stands in the front of all
pub sents_front : (ws ts : List ℕ) (rs : List Record) (n : ℕ) (l : List Sent) → length ws ≡ 32 → length ts ≡ 32 → length rs ≡ 32
    → Holds 32 (sents ws ts rs) n l → SentFront ws ts rs n l
sents_front ws ts rs n l e f g h =
    record { whole = e; wholes = f; whole_records = g; fits = h.fits; list = sents_take ws ts rs n ∙ h.list }
