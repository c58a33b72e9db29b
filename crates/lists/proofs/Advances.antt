-- The one pass of `advance`: the run is counted in the front of the waiting array, then appended and dropped.
-- Assumes nothing.
use mathlib.Core.Path.{◌≡◌, sym, ap, ◌∙◌}
use mathlib.Core.List.{List, [], ◌∷◌, ◌++◌, map}
use Prim.Native.Nat.{ℕ, zero, suc, ◌-◌, ◌≤◌, ◌<◌, ◌^◌, min}
use native.Mathlib.Nat.{zero-min, min-zero, suc-min-suc}
use lib.ListN.{length, take, drop}
use lib.Seq.{take-nil, length-take-le}
use Rattle.protocol.specs.Serial.{plus}
use Rattle.lists.specs.declared.Held.{Held}
use Rattle.lists.specs.declared.Waiting.{Waiting}
use Rattle.lists.specs.declared.Listed.{Listed}
use Rattle.lists.specs.Views.{HeldIs, WaitingIs, waiting_part}
use Rattle.lists.specs.Receiving.{advance, run_of, ReceivingIs}
use Rattle.lists.specs.ReceivingLaws.{raised, risen, advance_run}

take_min : {A : Type 0} (m n : ℕ) (l : List A) → take m (take n l) ≡ take (min m n) l
take_min zero n l = rw zero-min
take_min (suc m) zero l = rw min-zero
take_min (suc m) (suc n) [] = sym (take-nil (min (suc m) (suc n)))
take_min (suc m) (suc n) (x ∷ l) = rw suc-min-suc (ap (λ (r : List _). x ∷ r) (take_min m n l))

-- r and w are the arrays of the ready and of the waiting, i and j their counts
module _ (next i j n k next' : ℕ) (r : List Held) (w : List Waiting) (up : Listed Held 128) (left : Listed Waiting 128) where
  run_is : i ≤ length r → n ≡ min (128 - i) j → k ≡ run_of next (take n w) → risen next (take i r) (take j w) ≡ k
  run_is g e f = rw (length-take-le i r g, take_min, ← e) (sym f)

  pub advanced : next < 2 ^ 32 → i ≤ length r → n ≡ min (128 - i) j → k ≡ run_of next (take n w) → next' ≡ plus next k
      → HeldIs up (take i r ++ map waiting_part (take k (take j w))) → WaitingIs left (drop k (take j w))
      → ReceivingIs (record { next = next'; ready = up; waiting = left }) (advance next (take i r) (take j w))
  advanced b g e f q u v =
      let whole : advance next (take i r) (take j w) ≡ raised next (take i r) (take j w) k =
      advance_run next (take i r) (take j w) b ∙ ap (raised next (take i r) (take j w)) (run_is g e f) in
      rw whole (record { next = q; ready = u; waiting = v })
