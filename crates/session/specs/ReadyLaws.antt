-- Where nothing can be read, fewer than 128 segments are ready: a front fragment number is at most 126, so 127 ready segments hold
-- the message at the front. This is why a read that finds no message has one refusal, 9.
-- Assumes nothing.
use Rattle.std.specs.Prelude.{◌≡◌, false, List, [], ◌∷◌, ◌+◌, ◌≤◌, length}
use Rattle.std.proofs.Common.{zero-le, arith, leb-false}
use Rattle.protocol.specs.Protocol.{fragment_most}
use Rattle.lists.specs.declared.Held.{Held}
use Rattle.session.specs.Reading.{readable}
use Rattle.session.specs.Decides.{All}

-- of a list whose fragment numbers are at most 126: at most 126 are ready
pub unread_most : (l : List Held) → All (λ (h : Held). h.fragment ≤ fragment_most) l → readable l ≡ false → length l ≤ fragment_most
unread_most [] a e = zero-le
unread_most (h ∷ l) a e = omega (arith, a.0, leb-false (h.fragment + 1) (length (h ∷ l)) e)
