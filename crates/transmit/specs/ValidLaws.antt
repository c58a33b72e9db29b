-- What the conditions of refusal 13 give a flush: each outstanding segment is in its slot, and each that is numbered now.
-- Assumes nothing.
use Rattle.std.specs.Prelude.{◌≡◌, true, List, [], ◌∷◌, ◌++◌, map, ℕ, zero, suc, ltb, take}
use Rattle.std.proofs.Common.{leb-true, ltb-true}
use Rattle.protocol.specs.Protocol.{send_slots}
use Rattle.protocol.specs.Ranges.{mss}
use Rattle.protocol.specs.Serial.{plus}
use Rattle.protocol.specs.declared.Settings.{Settings}
use Rattle.lists.specs.declared.Held.{Held}
use Rattle.lists.specs.declared.Sent.{Sent}
use Rattle.session.specs.State.{Sending, send_held}
use Rattle.session.specs.Decides.{All, and_parts}
use Rattle.session.specs.Valid.{all, held_fits, sending_valid}
use Rattle.session.specs.Flushing.{numbered, with_numbered}
use Rattle.transmit.specs.Writing.{InSlot, AllInSlots}

in_slots : (m : ℕ) (l : List Held) → all (held_fits m) l ≡ true → all (λ (h : Held). ltb h.slot send_slots) l ≡ true → All (InSlot m) l
in_slots m [] p q = tt
in_slots m (h ∷ l) p q =
    let a = and_parts _ _ p in
    let b = and_parts _ _ q in
    (record { len = leb-true _ _ (and_parts _ _ a.0).0; slot = ltb-true _ _ b.0 }, in_slots m l a.1 b.1)

-- the held parts of these are those
outstanding_inside : (m : ℕ) (l : List Sent) (q : List Held) (r : List Sent) → (All (InSlot m) q → AllInSlots m r)
    → All (InSlot m) (map (λ (x : Sent). x.held) l ++ q) → AllInSlots m (l ++ r)
outstanding_inside m [] q r f a = f a
outstanding_inside m (x ∷ l) q r f a = (a.0, outstanding_inside m l q r f a.1)

numbered_inside : (m k n : ℕ) (q : List Held) → All (InSlot m) q → AllInSlots m (numbered n (take k q))
unfolding numbered
numbered_inside m zero n q a = tt
numbered_inside m (suc k) n [] a = tt
numbered_inside m (suc k) n (h ∷ q) a = (a.0, numbered_inside m k (plus n 1) q a.1)

pub valid_inside : (c : Settings) (s : Sending) (k : ℕ) → sending_valid c s ≡ true → AllInSlots (mss c) (with_numbered s k)
unfolding sending_valid with_numbered
valid_inside c s k e =
    let held = and_parts _ _ (and_parts _ _ (and_parts _ _ (and_parts _ _ e).0).0).0 in
    outstanding_inside (mss c) s.outstanding s.queued (numbered s.next (take k s.queued))
    (numbered_inside (mss c) k s.next s.queued)
    (in_slots (mss c) (send_held s) held.0 (and_parts _ _ held.1).0)
