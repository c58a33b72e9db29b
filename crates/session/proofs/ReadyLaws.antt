-- Where nothing can be read of a state that passes 13, fewer than 128 segments are ready.
-- Assumes nothing.
use Rattle.std.specs.Prelude.{◌≡◌, false, ◌≤◌, ◌<◌, length}
use Rattle.std.proofs.Common.{arith}
use Rattle.protocol.specs.Protocol.{fragment_most, receive_window}
use Rattle.protocol.specs.declared.Settings.{Settings}
use Rattle.lists.specs.declared.Held.{Held}
use Rattle.session.specs.State.{State, Receiving}
use Rattle.session.specs.Reading.{readable}
use Rattle.session.specs.AllLaws.{all_left}
use Rattle.session.specs.ReceivingValid.{ReceivingIsValid}
use Rattle.session.specs.IsValid.{IsValid}
use Rattle.session.specs.ReadyLaws.{unread_most}

-- of a receiving half that passes 13
pub half_below_window : (c : Settings) (r : Receiving) → ReceivingIsValid c r
    → readable r.ready ≡ false → length r.ready < receive_window
half_below_window c r v e =
    omega (arith, unread_most r.ready (all_left (λ (h : Held). h.fragment ≤ fragment_most) r.ready _ v.fragments) e)

-- of a state that passes 13
pub ready_below_window : (s : State) → IsValid s → readable s.receiving.ready ≡ false → length s.receiving.ready < receive_window
ready_below_window s v e = half_below_window s.settings s.receiving v.receiving e
