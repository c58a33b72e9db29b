-- A control segment is 24 bytes; the pairs of an ack list, one more at a time.
-- Assumes nothing.
use mathlib.Core.Path.{◌≡◌, refl, sym, ap, ◌∙◌}
use mathlib.Core.Bool.{Bool, true, false}
use mathlib.Core.List.{List, [], ◌∷◌, ◌++◌, map, map-append}
use Prim.Native.Nat.{ℕ, zero, suc, ◌+◌, ◌*◌, ◌≤◌, ◌<◌}
use native.Mathlib.Numerals.{add-one}
use native.Mathlib.Omega.{arith}
use lib.ListN.{length, get_or}
use Rattle.datagram.specs.Datagrams.{Segment}
use Rattle.session.specs.State.{Ack}
use Rattle.session.specs.Flushing.{Carried, control, ack_segment, wished, bytes_of_segment}
use Rattle.control.specs.Views.{pairs}
use Rattle.packing.specs.declared.Packer.{Packer}
use Rattle.packing.specs.declared.Writer.{Writer}
use Rattle.packing.specs.Packers.{Fills, Puts, Adds}
use Rattle.packing.specs.Writers.{Same}
use Rattle.packing.specs.PackerLaws.{length_segment, puts_adds, adds_none, adds_append, adds_as}

-- what stays over two steps
pub same_on : {x y z : Writer} → Same x y → Same y z → Same x z
same_on a b = record { mtu = b.mtu ∙ a.mtu; carried = b.carried ∙ a.carried; out = b.out ∙ a.out; lengths = b.lengths ∙ a.lengths }

pairs_more : (i : ℕ) (l : List ℕ) → 2 * i + 1 < length l → pairs (suc i) l ≡ pairs i l
    ++ (record { sn = get_or l (2 * i) 0; ts = get_or l (2 * i + 1) 0 } ∷ [])
unfolding pairs
pairs_more i [] h = absurd (omega arith)
pairs_more i (a ∷ []) h = absurd (omega arith)
pairs_more zero (a ∷ b ∷ l) h = refl
pairs_more (suc i) (a ∷ b ∷ l) h =
    let e : 2 * suc i ≡ suc (suc (2 * i)) = omega arith in
    let f : suc (suc (2 * i)) + 1 ≡ suc (suc (2 * i + 1)) = omega arith in
    rw (e, f) (ap (λ (r : List Ack). record { sn = a; ts = b } ∷ r) (pairs_more i l (omega arith)))

-- a control segment that is put is added
module _ (mtu : ℕ) (c : Carried) (cmd sn ts : ℕ) (k : Packer) (out lengths : List ℕ) (k' : Packer) (out' lengths' : List ℕ)
    (small : 24 ≤ mtu) (f : Fills mtu k) (u : Puts mtu 24 (bytes_of_segment (control c cmd sn ts)) k out lengths k' out' lengths') where
  pub control_adds : Adds mtu (control c cmd sn ts ∷ []) 24 1 k out lengths k' out' lengths'
  control_adds = puts_adds mtu 24 (control c cmd sn ts) k out lengths k' out' lengths' (length_segment (control c cmd sn ts)) small f u

-- a wished segment is added, or none
pub wished_put : {mtu n m : ℕ} {g : Segment} {k : Packer} {out lengths : List ℕ} {k' : Packer} {out' lengths' : List ℕ} (b : Bool)
    → b ≡ true → Adds mtu (g ∷ []) n m k out lengths k' out' lengths' → Adds mtu (wished b g) n m k out lengths k' out' lengths'
wished_put b e a = rw e a

pub wished_none : (mtu n m : ℕ) (g : Segment) (k : Packer) (out lengths : List ℕ) (b : Bool) → b ≡ false → Fills mtu k
    → Adds mtu (wished b g) n m k out lengths k out lengths
wished_none mtu n m g k out lengths b e f = rw e (adds_as (adds_none mtu k out lengths f) refl (omega arith) (omega arith))

-- one ack more
pub acks_more : (mtu : ℕ) (c : Carried) (acks : List ℕ) (i : ℕ) (k₀ : Packer) (out₀ lengths₀ : List ℕ) (k : Packer) (out lengths : List ℕ)
    (k' : Packer) (out' lengths' : List ℕ)
    → 2 * i + 1 < length acks → 24 ≤ mtu
    → Adds mtu (map (ack_segment c) (pairs i acks)) (24 * i) i k₀ out₀ lengths₀ k out lengths
    → Puts mtu 24 (bytes_of_segment (control c 82 (get_or acks (2 * i) 0) (get_or acks (2 * i + 1) 0))) k out lengths k' out' lengths'
    → Adds mtu (map (ack_segment c) (pairs (i + 1) acks)) (24 * (i + 1)) (i + 1) k₀ out₀ lengths₀ k' out' lengths'
acks_more mtu c acks i k₀ out₀ lengths₀ k out lengths k' out' lengths' h small a u =
    let more : map (ack_segment c) (pairs (i + 1) acks) ≡ map (ack_segment c) (pairs i acks)
    ++ (control c 82 (get_or acks (2 * i) 0) (get_or acks (2 * i + 1) 0) ∷ []) = rw (add-one, pairs_more i acks h, map-append) in
    adds_as (adds_append a (control_adds mtu c _ _ _ k out lengths k' out' lengths' small a.fills u)) (sym more) (omega arith)
    (omega arith)

pub acks_none : (mtu : ℕ) (c : Carried) (acks : List ℕ) (k : Packer) (out lengths : List ℕ) → Fills mtu k
    → Adds mtu (map (ack_segment c) (pairs 0 acks)) (24 * 0) 0 k out lengths k out lengths
unfolding pairs
acks_none mtu c acks k out lengths f = adds_none mtu k out lengths f
