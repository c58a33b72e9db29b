-- What C is told of a written message follows from what was answered, and its length is at most 98.
use mathlib.Core.Path.{◌≡◌, refl, ap, subst, ◌∙◌}
use mathlib.Core.Bool.{Bool, true, false, cond}
use mathlib.Core.List.{List}
use Prim.Native.Nat.{ℕ, ◌≤◌}
use native.Mathlib.Omega.{arith}
use lib.Dec.{leb}
use lib.IntN.{ℤ}
use lib.ListN.{length}
use Rattle.tag_message.specs.Tags.{is_tag}
use Rattle.tag_message.specs.Messages as message
use Rattle.tag_message.specs.MessageLaws.{length_message, tag_lengths}
use Rattle.std.proofs.Common.{Result, Ok, Err}
use Rattle.tag_message.specs.declared.TagRefusal.{TagRefusal}
use Rattle.tag_message.specs.declared.TagRefusal.TheVariants.{OtherSize, NotATag}
use Rattle.ampferweg_tags.specs.TagCodes.{writing_code, TellsWriting}

-- a message, told by its length
pub tells_writing :
    (name value before : List ℕ) (a : Result ℕ TagRefusal) (after : List ℕ) {r : ℤ} →
    message.Writes name value before a after → r ≡ writing_code a → TellsWriting name value before r after
tells_writing name value before a after p e =
    record {
      number = e ∙ ap writing_code p.answer;
      leaves = subst (λ (x : Result ℕ TagRefusal). message.Leaves name value x before after) p.answer p.leaves;
    }

-- which is at most 98
pub written_short : (name value : List ℕ) (n k : ℕ) → Ok n ≡ message.write_into name value k → n ≤ 98
unfolding message.write_into
written_short name value n k e = go (leb 98 k) (is_tag name value) refl e
  where
    go : (x t : Bool) → is_tag name value ≡ t →
        Ok n ≡ cond x (cond t (Ok (length (message.message_of name value))) (Err NotATag))
        (Err OtherSize) → n ≤ 98
    go true true q h =
        let l : n ≡ length (message.message_of name value) = cc in
        omega (arith, l, length_message name value, tag_lengths name value q)
    go true false q h = cc
    go false t q h = cc
