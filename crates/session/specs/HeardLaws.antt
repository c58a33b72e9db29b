-- A segment that the sending half hears removes exactly what it acknowledges, and leaves what is queued.
-- Assumes nothing.
use Rattle.std.specs.Prelude.{◌≡◌, Bool, cond, ◌&&◌, ◌||◌, ℕ}
use Rattle.std.proofs.Math.Path.{refl, ap}
use Rattle.std.proofs.Common.{◌∙◌}
use Rattle.std.proofs.Math.Bool.{true, false, not}
use Rattle.std.proofs.Math.Dec.{eqb}
use Rattle.protocol.specs.Protocol.{ack}
use Rattle.protocol.specs.declared.Settings.{Settings}
use Rattle.wire.specs.declared.Header.{Header}
use Rattle.lists.specs.declared.Sent.{Sent}
use Rattle.lists.specs.declared.Acknowledges.TheVariants as by
use Rattle.lists.specs.Acknowledging as rule
use Rattle.lists.specs.Acknowledging.{filter, first_number_or}
use Rattle.lists.proofs.AcknowledgingLaws.{select_same, filter_both}
use Rattle.session.specs.State.{Sending, with_window}
use Rattle.session.specs.Input.{acknowledged, acknowledges, sampled_by, heard_by_sending}

-- neither of two
neither : (a b : Bool) → (not a && not b) ≡ not (a || b)
neither true b = refl
neither false b = refl

or-false : (a : Bool) → a ≡ (a || false)
or-false true = refl
or-false false = refl

module _ (c : Settings) (current : ℕ) (s : Sending) (h : Header) where
  -- its una acknowledges n
  abbrev by_una : ℕ → Bool
  by_una n = rule.acknowledged s.next (by.Una h.una) n

  passed : Sending
  passed = acknowledged (by.Una h.una) (with_window h.wnd s)

  pub heard_outstanding : (heard_by_sending c current s h).outstanding ≡ filter (λ n. not (acknowledges s.next h n)) s.outstanding
  unfolding heard_by_sending acknowledged sampled_by passed
  heard_outstanding = go (eqb h.cmd ack)
    where
      go : (b : Bool) → (cond b (acknowledged (by.Ack h.sn) (sampled_by c current h.ts passed)) passed).outstanding
          ≡ filter (λ n. not (by_una n || b && eqb n h.sn)) s.outstanding
      go true =
          filter_both (λ n. not (by_una n)) (λ n. not (eqb n h.sn)) s.outstanding
          ∙ select_same _ _ (λ (x : Sent). neither (by_una x.record.number) (eqb x.record.number h.sn)) s.outstanding
      go false = select_same _ _ (λ (x : Sent). ap not (or-false (by_una x.record.number))) s.outstanding

  -- snd_una becomes the first outstanding number, else snd_nxt
  pub heard_una : (heard_by_sending c current s h).una ≡ first_number_or (heard_by_sending c current s h).outstanding s.next
  unfolding heard_by_sending acknowledged sampled_by passed
  heard_una = go (eqb h.cmd ack)
    where
      go : (b : Bool) → (cond b (acknowledged (by.Ack h.sn) (sampled_by c current h.ts passed)) passed).una
          ≡ first_number_or (cond b (acknowledged (by.Ack h.sn) (sampled_by c current h.ts passed)) passed).outstanding s.next
      go true = refl
      go false = refl

  pub heard_queued : (heard_by_sending c current s h).queued ≡ s.queued
  unfolding heard_by_sending acknowledged sampled_by passed
  heard_queued = go (eqb h.cmd ack)
    where
      go : (b : Bool) → (cond b (acknowledged (by.Ack h.sn) (sampled_by c current h.ts passed)) passed).queued ≡ s.queued
      go true = refl
      go false = refl
