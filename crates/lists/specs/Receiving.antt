-- Waiting segments become ready. Definitions.
-- Assumes nothing.
use Rattle.std.specs.Prelude.{◌≡◌, Bool, false, cond, ◌&&◌, List, [], ◌∷◌, ◌++◌, ℕ, suc, ltb, eqb, length}
use Rattle.protocol.specs.Protocol.{receive_window}
use Rattle.protocol.specs.Serial.{plus, minus}
use Rattle.lists.specs.declared.Held.{Held}
use Rattle.lists.specs.declared.Waiting.{Waiting}
use Rattle.lists.specs.declared.Receiving as struct
use Rattle.lists.specs.Views.{waiting_part, HeldIs, WaitingIs}

-- the number expected next, and the lists
pub record Received : Type 0 where
  pub next : ℕ
  pub ready : List Held
  pub waiting : List Waiting

-- is the segment numbered next?
abbrev pub is_next : ℕ → Waiting → Bool
is_next next w = eqb (minus w.number next) 0

-- the segment numbered next becomes ready, repeatedly, while fewer than 128 are ready
unfoldable pub advance : ℕ → List Held → List Waiting → Received
advance next ready [] = record { next = next; ready = ready; waiting = [] }
advance next ready (w ∷ l) =
    cond (is_next next w && ltb (length ready) receive_window)
    (advance (plus next 1) (ready ++ (waiting_part w ∷ [])) l)
    (record { next = next; ready = ready; waiting = w ∷ l })

-- does the first waiting segment have the number next?
unfoldable pub starts_at : ℕ → List Waiting → Bool
starts_at next [] = false
starts_at next (w ∷ l) = is_next next w

-- how many entries from the front on are numbered next, next + 1 and so on
unfoldable pub run_of : ℕ → List Waiting → ℕ
run_of next [] = 0
run_of next (w ∷ l) = cond (is_next next w) (suc (run_of (plus next 1) l)) 0

-- the struct has these
pub record ReceivingIs (r : struct.Receiving) (s : Received) : Type 0 where
  pub next : r.next ≡ s.next
  pub ready : HeldIs r.ready s.ready
  pub waiting : WaitingIs r.waiting s.waiting
