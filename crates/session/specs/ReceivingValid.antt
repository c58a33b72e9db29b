-- The receiving half of refusal 13, as a statement: the test `receiving_valid` passes exactly where each condition of document 01 holds.
-- Assumes nothing.
use Rattle.std.specs.Prelude.{◌≡◌, refl, Bool, true, false, not, ◌&&◌, List, [], ◌∷◌, ℕ, ◌≤◌, ◌<◌, ltb, length}
use Rattle.std.proofs.lemmas.Bool.{false≢true}
use Rattle.protocol.specs.Protocol.{fragment_most, receive_slots, receive_window, acks_most}
use Rattle.protocol.specs.Ranges.{mss}
use Rattle.protocol.specs.declared.Settings.{Settings}
use Rattle.lists.specs.declared.Held.{Held}
use Rattle.lists.specs.declared.Waiting.{Waiting}
use Rattle.lists.specs.Orders.{waiting_offset}
use Rattle.session.specs.State.{Receiving, receive_held, slots}
use Rattle.lists.specs.Receiving.{starts_at}
use Rattle.session.specs.Valid.{all, held_fits, waiting_fits, settled}
use Rattle.session.specs.Decides.{Decides, All, leb_decides, ltb_decides, eqb_decides, and_decides, all_decides}
use Rattle.session.specs.Once.{Once}
use Rattle.session.specs.Ascending.{Ascending, ascending_decides}

-- the list starts with the number n: its first offset from n is 0
abbrev pub StartsAt : ℕ → List Waiting → Type 0
StartsAt n [] = ⊥
StartsAt n (w ∷ l) = waiting_offset n w ≡ 0

pub record ReceivingIsValid (c : Settings) (r : Receiving) : Type 0 where
  -- held lengths at most mss, held fragments at most 126
  pub lengths : All (λ (h : Held). h.len ≤ mss c) (receive_held r)
  pub fragments : All (λ (h : Held). h.fragment ≤ fragment_most) (receive_held r)
  -- held slots below 256, none held twice
  pub slots_below : All (λ (h : Held). h.slot < receive_slots) (receive_held r)
  pub slots_once : Once (slots (receive_held r))
  -- at most 128 ready
  pub few_ready : length r.ready ≤ receive_window
  -- waiting numbers ascending from rcv_nxt to rcv_nxt + 127
  pub ascending : Ascending (waiting_offset r.next) receive_window r.waiting
  -- not starting at rcv_nxt while fewer than 128 are ready
  pub settles : length r.ready < receive_window → StartsAt r.next r.waiting → ⊥
  -- at most 256 acks
  pub few_acks_lem : length r.acks ≤ acks_most

-- ---- each test decides its condition

abbrev pub Short : ℕ → Held → Type 0
Short m h = h.len ≤ m

abbrev pub Fragment : Held → Type 0
Fragment h = h.fragment ≤ fragment_most

pub held_decide : (m : ℕ) (l : List Held) → Decides (all (held_fits m) l) (All (λ (h : Held). Short m h × Fragment h) l)
held_decide m = all_decides (held_fits m) (λ (h : Held). Short m h × Fragment h)
    (λ h. and_decides (leb_decides h.len m) (leb_decides h.fragment fragment_most))

starts_decides : (n : ℕ) (l : List Waiting) → Decides (starts_at n l) (StartsAt n l)
unfolding starts_at
starts_decides n [] = record { holds = λ e. absurd (false≢true e); passes = λ x. absurd x }
starts_decides n (w ∷ l) = eqb_decides (waiting_offset n w) 0

-- two tests that must not both pass
not_both_decides : (a b : Bool) {P Q : Type 0} → Decides a P → Decides b Q → Decides (not (a && b)) (Q → P → ⊥)
not_both_decides true true p q = record { holds = λ e. absurd (false≢true e); passes = λ f. absurd (f (q.holds refl) (p.holds refl)) }
not_both_decides true false p q = record { holds = λ e x y. false≢true (q.passes x); passes = λ f. refl }
not_both_decides false b p q = record { holds = λ e x y. false≢true (p.passes y); passes = λ f. refl }

pub settled_decides : (r : Receiving) → Decides (settled r) (length r.ready < receive_window → StartsAt r.next r.waiting → ⊥)
unfolding settled
settled_decides r =
    not_both_decides (starts_at r.next r.waiting) (ltb (length r.ready) receive_window)
    (starts_decides r.next r.waiting)
    (ltb_decides (length r.ready) receive_window)

pub waiting_decides : (r : Receiving) → Decides (waiting_fits r) (Ascending (waiting_offset r.next) receive_window r.waiting)
unfolding waiting_fits
waiting_decides r = ascending_decides (waiting_offset r.next) receive_window r.waiting
