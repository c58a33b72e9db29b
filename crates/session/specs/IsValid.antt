-- Refusal 13's conditions on a whole state as a plain statement, and that the test passes exactly where they hold.
-- Assumes nothing.
use Rattle.std.specs.Prelude.{◌≤◌}
use Rattle.protocol.specs.Protocol.{mtu_least, mtu_most, mode_most, interval_least, interval_most, threshold_most, stream_most, congestion_most}
use Rattle.protocol.specs.Ranges.{in_range, mss}
use Rattle.protocol.specs.declared.Settings.{Settings}
use Rattle.congestion.specs.Congestions.{InRange}
use Rattle.timing.specs.TimeRanges.{WaitInRange}
use Rattle.session.specs.State.{State}
use Rattle.session.specs.Decides.{Decides, leb_decides, and_decides, via}
use Rattle.session.specs.SendingValid.{SendingIsValid}
use Rattle.session.specs.ReceivingValid.{ReceivingIsValid}

-- settings in range
pub record SettingsInRange (c : Settings) : Type 0 where
  pub mtu_least_lem : mtu_least ≤ c.mtu
  pub mtu_most_lem : c.mtu ≤ mtu_most
  pub mode : c.mode ≤ mode_most
  pub interval_least_lem : interval_least ≤ c.interval
  pub interval_most_lem : c.interval ≤ interval_most
  pub threshold : c.threshold ≤ threshold_most
  pub stream : c.stream ≤ stream_most
  pub congestion : c.congestion ≤ congestion_most

pub settings_decide : (c : Settings) → Decides (in_range c) (SettingsInRange c)
settings_decide c =
    via
    (and_decides
    (and_decides
    (and_decides
    (and_decides
    (and_decides
    (and_decides (and_decides (leb_decides mtu_least c.mtu) (leb_decides c.mtu mtu_most)) (leb_decides c.mode mode_most))
    (leb_decides interval_least c.interval))
    (leb_decides c.interval interval_most))
    (leb_decides c.threshold threshold_most))
    (leb_decides c.stream stream_most))
    (leb_decides c.congestion congestion_most))
    (λ x.
    record {
      mtu_least_lem = x.0.0.0.0.0.0.0;
      mtu_most_lem = x.0.0.0.0.0.0.1;
      mode = x.0.0.0.0.0.1;
      interval_least_lem = x.0.0.0.0.1;
      interval_most_lem = x.0.0.0.1;
      threshold = x.0.0.1;
      stream = x.0.1;
      congestion = x.1;
    })
    (λ x. (((((((x.mtu_least_lem, x.mtu_most_lem), x.mode), x.interval_least_lem), x.interval_most_lem), x.threshold), x.stream), x.congestion))

-- a state that a link makes
pub record IsValid (s : State) : Type 0 where
  pub settings : SettingsInRange s.settings
  pub sending : SendingIsValid s.settings s.sending
  pub receiving : ReceivingIsValid s.settings s.receiving
  pub probe : WaitInRange s.probe.wait
  pub congestion : InRange (mss s.settings) s.congestion
