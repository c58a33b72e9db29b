-- Whether a push is kept, and how it is held. Definitions.
-- Assumes nothing.
use Rattle.std.specs.Prelude.{Bool, not, ◌&&◌, List, ◌++◌, map, ℕ}
use Rattle.protocol.specs.Protocol.{receive_window, receive_slots}
use Rattle.protocol.specs.Serial.{plus, minus, is_before}
use Rattle.wire.specs.declared.Header.{Header}
use Rattle.lists.specs.Views.{held_of, waiting_of, waiting_part}
use Rattle.lists.specs.Orders.{waiting_offset, is_held}
use Rattle.lists.specs.declared.Held.{Held}
use Rattle.lists.specs.declared.Listed.{Listed}
use Rattle.lists.specs.declared.Receiving.{Receiving}
use Rattle.lists.specs.declared.Waiting.{Waiting}
use Rattle.session.specs.State.{slots}
use Rattle.session.specs.Slots.{lowest_free}

-- sn is before rcv_nxt + 128
abbrev pub is_in_window : ℕ → ℕ → Bool
is_in_window next sn = is_before sn (plus next receive_window)

-- sn is not before rcv_nxt and not already held
abbrev pub is_new_in : ℕ → List Waiting → ℕ → Bool
is_new_in next waiting sn = not (is_before sn next) && not (is_held (waiting_offset next) (minus sn next) waiting)

-- the push is kept
abbrev pub is_kept : Receiving → Header → Bool
is_kept l h = is_in_window l.next h.sn && is_new_in l.next (waiting_of l.waiting) h.sn

-- the slots that are held
abbrev pub used_by : Listed Held 128 → Listed Waiting 128 → List ℕ
used_by ready waiting = slots (held_of ready ++ map waiting_part (waiting_of waiting))

-- the lowest free receive slot
abbrev pub slot_for : Listed Held 128 → Listed Waiting 128 → ℕ
slot_for ready waiting = lowest_free (used_by ready waiting) receive_slots

-- the push, held in a slot
abbrev pub held_at : ℕ → Header → Held
held_at slot h = record { slot = slot; len = h.len; fragment = h.frg }

-- in the lowest free one
abbrev pub held_for : Listed Held 128 → Listed Waiting 128 → Header → Held
held_for ready waiting h = held_at (slot_for ready waiting) h

-- its entry among those that wait
abbrev pub entry_of : Header → Held → Waiting
entry_of h held = record { number = h.sn; held = held }
