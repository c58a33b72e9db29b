-- A message's payloads: the one that begins at an index, its length, and its slot in the pool.
-- Assumes nothing.
use mathlib.Core.Path.{◌≡◌, refl, sym, ap, ◌∙◌}
use mathlib.Core.List.{List, [], ◌∷◌}
use Prim.Native.Nat.{ℕ, zero, suc, ◌+◌, ◌-◌, ◌*◌, ◌≤◌, ◌<◌, min}
use native.Mathlib.Nat.{suc-mul, mul-le-mul_right, zero-min, suc-min-suc}
use native.Mathlib.Omega.{arith}
use lib.ListN.{length, take, drop, length-take, length-drop}
use lib.Seq.{sets, take-nil, drop-nil, drop-drop}
use Rattle.pools.specs.Parts.{part}
use Rattle.session.specs.Cutting.{pieces}
use Rattle.enqueue.specs.Enqueueing.{Stored}

-- so many payloads
pub length_pieces : (m k : ℕ) (b : List ℕ) → length (pieces m k b) ≡ k
unfolding pieces
length_pieces m zero b = refl
length_pieces m (suc k) b = ap suc (length_pieces m k (drop m b))

-- no more is taken or dropped than there is
take_least : (k : ℕ) (l : List ℕ) → take (min k (length l)) l ≡ take k l
take_least zero l = rw zero-min
take_least (suc k) [] = take-nil (min (suc k) 0)
take_least (suc k) (x ∷ l) = rw suc-min-suc (ap (λ (r : List ℕ). x ∷ r) (take_least k l))

drop_least : (k : ℕ) (l : List ℕ) → drop (min k (length l)) l ≡ drop k l
drop_least zero l = rw zero-min
drop_least (suc k) [] = drop-nil (min (suc k) 0)
drop_least (suc k) (x ∷ l) = rw suc-min-suc (drop_least k l)

-- a slot's bytes are within the pool
pub slot_end : (slot m n : ℕ) → slot < 128 → 128 * m ≤ n → slot * m + m ≤ n
slot_end slot m n h g = let e : suc slot * m ≤ 128 * m = mul-le-mul_right m h in omega (arith, suc-mul slot m)

module _ {m : ℕ} {message : List ℕ} {at slot : ℕ} {before : List ℕ} {len : ℕ} {after : List ℕ} where
  -- the part that is copied is the payload
  pub part_stored : len ≡ min m (length message - at) → after ≡ sets before (slot * m) (part message at len)
      → Stored m message at slot before len after
  part_stored e f =
      let q : len ≡ min m (length (drop at message)) = rw (length-drop at message) e in
      record { size = q ∙ sym (length-take m (drop at message)); pool = f ∙ rw (q, take_least m (drop at message)) }

  -- what storing says of its length
  module _ (s : Stored m message at slot before len after) where
    size : len ≡ min m (length message - at)
    size = s.size ∙ rw (length-take, length-drop)

    pub stored_short : len ≤ m
    stored_short = omega (arith, size)

    pub stored_within : at ≤ length message → at + len ≤ length message
    stored_within h = omega (arith, size)

    -- what the message has behind it
    pub stored_rest : drop (at + len) message ≡ drop m (drop at message)
    stored_rest = sym (drop-drop len at message) ∙ rw (s.size, length-take, drop_least m (drop at message))
