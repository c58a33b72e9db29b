-- Opening a link.
-- Assumes nothing.
use Rattle.std.specs.Prelude.{false, cond, []}
use Rattle.protocol.specs.Protocol.{receive_window, timeout_first}
use Rattle.protocol.specs.Ranges.{in_range, mss}
use Rattle.protocol.specs.declared.Settings.{Settings}
use Rattle.protocol.specs.declared.Refusal.TheVariants.{SettingOutOfRange, ShortPart}
use Rattle.congestion.specs.Congestions.{initial}
use Rattle.session.specs.State.{State, Outcome, refused, done}
use Rattle.sizes.specs.Sizes.{enough}
use Rattle.sizes.specs.declared.Lengths.{Lengths}

-- the peer's window starts at 128, the link timeout at 200, the congestion threshold at 2, all else at 0, empty or unset
unfoldable pub opened : Settings → State
opened c =
    record {
      settings = c;
      sending = record {
        una = 0;
        next = 0;
        queued = [];
        outstanding = [];
        window = receive_window;
        round_trip = record { smoothed = 0; variation = 0; timeout = timeout_first };
      };
      receiving = record { next = 0; ready = []; waiting = []; acks = []; tell = false };
      probe = record { wait = 0; due = 0 };
      current = 0;
      schedule = record { next = 0; made = false };
      congestion = initial;
      ask = false;
      dead = false;
    }

-- opening checks 12, then 7
unfoldable pub opening : Settings → Lengths → Outcome State
opening c n = cond (in_range c) (cond (enough (mss c) n) (done (opened c)) (refused ShortPart)) (refused SettingOutOfRange)
