-- The settings of a link: their ranges, and the largest payload.
-- Assumes nothing.
use Rattle.std.specs.Prelude.{ℕ, ◌-◌, Bool, ◌&&◌, ◌==◌, nat_le}
use Rattle.protocol.specs.declared.Settings.{Settings}
use Rattle.protocol.specs.Protocol.{
  header_size,
  mtu_least,
  mtu_most,
  mode_most,
  interval_least,
  interval_most,
  threshold_most,
  stream_most,
  congestion_most,
}

-- mtu 50 to 1,400; mode 0, 1 or 2; interval 10 to 5,000; threshold 0 to 100; stream and congestion 0 or 1; any conversation
abbrev pub in_range : Settings → Bool
in_range s =
    nat_le mtu_least s.mtu
    && nat_le s.mtu mtu_most
    && nat_le s.mode mode_most
    && nat_le interval_least s.interval
    && nat_le s.interval interval_most
    && nat_le s.threshold threshold_most
    && nat_le s.stream stream_most
    && nat_le s.congestion congestion_most

-- stream mode (request 2026-05) is chosen at opening
abbrev pub is_stream : Settings → Bool
is_stream s = s.stream == 1

-- whether flushes go by the congestion window (request 2026-08), off by default
abbrev pub controls_congestion : Settings → Bool
controls_congestion s = s.congestion == 1

-- the largest payload is mtu minus 24, and 0 for an mtu below that
abbrev pub mss : Settings → ℕ
mss s = s.mtu - header_size
