-- Laws that nothing here cites, kept since they stood.
-- Assumes nothing.
use Rattle.std.specs.Prelude.{◌≡◌, refl, List, ℕ, ◌+◌, ◌-◌, ◌≤◌, length}
use Rattle.std.proofs.Common.{ap, ◌∙◌, arith}
use Rattle.std.proofs.Math.Seq.{length-sets}
use Rattle.std.proofs.lemmas.List.Edits.{sets}
use borrow.Rule.Slice.PartMut.{put_mid}
use Rattle.wire.specs.LittleEndian.{bytes_of}
use Rattle.frames.specs.Frames.{shard, frame}
use Rattle.parity_writer.specs.WriterLaws.{mid_stored, data_stored}

-- a head and a shard that is lent as a part, one behind the other
pub data_lent :
    (seq at : ℕ) (d o₀ o₁ o₂ o₃ ys : List ℕ) →
    at + 8 + length d ≤ length o₀ →
    o₁ ≡ sets o₀ at (bytes_of 4 seq) →
    o₂ ≡ sets o₁ (at + 4) (bytes_of 2 241) →
    o₃ ≡ sets o₂ (at + 6) (bytes_of 2 (length d + 2)) →
    ys ≡ d →
    put_mid (at + 8) (at + 8 + length d - (at + 8)) o₃ ys ≡ sets o₀ at (frame seq 241 (shard d))
data_lent seq at d o₀ o₁ o₂ o₃ ys h e₁ e₂ e₃ e₄ =
    let l : length o₃ ≡ length o₀ =
    ap length e₃ ∙ length-sets o₂ (at + 6) (bytes_of 2 (length d + 2))
    ∙ ap length e₂ ∙ length-sets o₁ (at + 4) (bytes_of 2 241) ∙ ap length e₁ ∙ length-sets o₀ at (bytes_of 4 seq) in
    data_stored seq at (length d) d o₀ o₁ o₂ o₃ _ refl e₁ e₂ e₃
    (mid_stored (at + 8) (at + 8 + length d - (at + 8)) o₃ ys (ap length e₄ ∙ omega arith) (omega arith) ∙ ap (sets o₃ (at + 8)) e₄)
