-- Laws of `Words`.
-- Assumes nothing.
use Rattle.std.specs.Prelude.{◌≡◌, refl, ℕ, ◌+◌, ◌*◌, ◌/◌, ◌%◌, ◌<◌}
use Rattle.std.proofs.Common.{arith}
use Rattle.lists.specs.declared.Held.{Held}
use Rattle.words.specs.Words.{unpack}

-- the parts, one behind the other, are found again
pub unpack_pack : (h : Held) → h.slot < 256 → h.fragment < 256 → unpack (h.slot + 256 * h.fragment + 65536 * h.len) ≡ h
unpack_pack h s f =
    let w : ℕ = h.slot + 256 * h.fragment + 65536 * h.len in
    let a : w % 256 ≡ h.slot = omega arith in
    let b : w / 65536 ≡ h.len = omega arith in
    let m : w / 256 ≡ h.fragment + 256 * h.len = omega arith in
    let c : w / 256 % 256 ≡ h.fragment = rw m (omega arith) in
    rw (a, b, c) refl
