-- A flush that sends no data leaves the outstanding segments as they were: one that is not sent stays, and one that is numbered is sent.
-- Assumes nothing.
use Rattle.std.specs.Prelude.{◌≡◌, Bool, false, ℕ, take}
use Rattle.std.proofs.Math.Path.{refl}
use Rattle.std.proofs.Common.{◌∙◌, true≢false}
use mathlib.Core.List.{List, [], ◌∷◌, ◌++◌, append-nil}
use Rattle.protocol.specs.declared.Settings.{Settings}
use Rattle.retransmission.specs.Transmissions.{is_sent, transmission}
use Rattle.retransmission.specs.TransmissionLaws.{transmission_not_sent}
use Rattle.lists.specs.declared.Held.{Held}
use Rattle.lists.specs.declared.Sent.{Sent}
use Rattle.session.specs.Decides.{or_parts}
use Rattle.session.specs.State.{State, Sending}
use Rattle.session.specs.Flushing.{Ruled, ruled, afterwards, some, numbered, window_of, numbered_count, with_numbered, flushing}
use Rattle.transmit.specs.Flushes.{sends_at}

module _ (c : Settings) (timeout t : ℕ) where
  abbrev sends : List Sent → Bool
  sends l = some (λ (r : Ruled). is_sent r.rule) (ruled c timeout t l)

  stay : (l : List Sent) → sends l ≡ false → afterwards (ruled c timeout t l) ≡ l
  stay [] e = refl
  stay (x ∷ l) e =
      let h = or_parts (is_sent (transmission c timeout t x.transmissions x.record)) (sends l) e in
      rw (transmission_not_sent c timeout t x.transmissions x.record h.0, stay l h.1)

  behind : (l r : List Sent) → sends (l ++ r) ≡ false → sends r ≡ false
  behind [] r e = e
  behind (x ∷ l) r e = behind l r (or_parts (is_sent (transmission c timeout t x.transmissions x.record)) (sends (l ++ r)) e).1

  none_numbered : (n : ℕ) (q : List Held) → sends (numbered n q) ≡ false → numbered n q ≡ []
  unfolding numbered transmission
  none_numbered n [] e = refl
  none_numbered n (h ∷ q) e = absurd (true≢false e)

  same : (d : Sending) (k : ℕ) → sends (with_numbered d k) ≡ false → afterwards (ruled c timeout t (with_numbered d k)) ≡ d.outstanding
  unfolding with_numbered
  same d k e =
      let more = numbered d.next (take k d.queued) in
      stay (d.outstanding ++ more) e
      ∙ rw (none_numbered d.next (take k d.queued) (behind d.outstanding more e)) (append-nil d.outstanding)

pub idle : (s : State) (t : ℕ) (pool : List ℕ) → sends_at s t ≡ false
    → (flushing s t pool).state.sending.outstanding ≡ s.sending.outstanding
unfolding flushing
idle s t pool e = same s.settings s.sending.round_trip.timeout t s.sending (numbered_count (window_of s) s.sending) e
