-- The test `valid` passes exactly where refusal 13's conditions hold, of the receiving half and of a whole state.
-- Assumes nothing.
use Rattle.std.specs.Prelude.{List, length}
use Rattle.protocol.specs.Protocol.{receive_slots, receive_window, acks_most}
use Rattle.protocol.specs.Ranges.{mss}
use Rattle.protocol.specs.declared.Settings.{Settings}
use Rattle.lists.specs.declared.Held.{Held}
use Rattle.session.specs.State.{Receiving, receive_held, State}
use Rattle.session.specs.Valid.{receiving_valid, valid}
use Rattle.session.specs.Decides.{Decides, leb_decides, and_decides, via}
use Rattle.session.specs.AllLaws.{all_both, all_one, all_other}
use Rattle.session.specs.SendingValid.{slots_decide, sending_decides, probe_decides, congestion_decides}
use Rattle.session.specs.ReceivingValid.{ReceivingIsValid, Short, Fragment, held_decide, settled_decides, waiting_decides}
use Rattle.session.specs.IsValid.{settings_decide, IsValid}

pub receiving_decides : (c : Settings) (r : Receiving) → Decides (receiving_valid c r) (ReceivingIsValid c r)
unfolding receiving_valid
receiving_decides c r =
    via
    (and_decides
    (and_decides
    (and_decides
    (and_decides (and_decides (held_decide (mss c) held) (slots_decide receive_slots held)) (leb_decides (length r.ready) receive_window))
    (waiting_decides r))
    (settled_decides r))
    (leb_decides (length r.acks) acks_most))
    (λ p. record {
      lengths = all_one (Short (mss c)) Fragment held p.0.0.0.0.0;
      fragments = all_other (Short (mss c)) Fragment held p.0.0.0.0.0;
      slots_below = p.0.0.0.0.1.0;
      slots_once = p.0.0.0.0.1.1;
      few_ready = p.0.0.0.1;
      ascending = p.0.0.1;
      settles = p.0.1;
      few_acks_lem = p.1;
    })
    (λ v. (
      (
        (
          ((all_both (Short (mss c)) Fragment held v.lengths v.fragments, (v.slots_below, v.slots_once)), v.few_ready),
          v.ascending,
        ),
        v.settles,
      ),
      v.few_acks_lem,
    ))
  where
    held : List Held
    held = receive_held r

pub valid_decides : (s : State) → Decides (valid s) (IsValid s)
unfolding valid
valid_decides s =
    via
    (and_decides
    (and_decides
    (and_decides (and_decides (settings_decide s.settings) (sending_decides s.settings s.sending))
    (receiving_decides s.settings s.receiving))
    (probe_decides s.probe))
    (congestion_decides (mss s.settings) s.congestion))
    (λ x. record { settings = x.0.0.0.0; sending = x.0.0.0.1; receiving = x.0.0.1; probe = x.0.1; congestion = x.1 })
    (λ x. ((((x.settings, x.sending), x.receiving), x.probe), x.congestion))
