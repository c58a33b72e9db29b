-- The congestion window (request 2026-08): growth as in source document 001, loss as in 003. Definitions.
-- `m` is mss, the largest payload; divisions round down.
-- Assumes nothing.
use Rattle.std.specs.Prelude.{Bool, cond, ◌&&◌, ℕ, ◌+◌, ◌-◌, ◌*◌, ◌/◌, ◌^◌, ◌≤◌, ◌<◌, min, max, leb, ltb, eqb}
use Rattle.protocol.specs.Protocol.{send_window, congestion_window_most, congestion_threshold_least, congestion_threshold_most}
use Rattle.congestion.specs.declared.Congestion.{Congestion}
use Rattle.congestion.specs.declared.Losses.{Losses}

-- the record gains window 0, threshold 2 and byte allowance 0
abbrev pub initial : Congestion
initial = record { window = 0; threshold = congestion_threshold_least; allowance = 0 }

-- with the setting on, the flush takes the least of 32, the peer's window and this one
unfoldable pub used_window : Bool → ℕ → ℕ → ℕ
used_window on peer window = cond on (min (min send_window peer) window) (min send_window peer)

-- ---- growth, once after a datagram that moved snd_una (001)

-- below the threshold: one segment more
unfoldable pub slow_start : Congestion → ℕ → Congestion
slow_start c m = record { window = c.window + 1; threshold = c.threshold; allowance = c.allowance + m }

-- at the threshold or past it: the allowance, mss at least, grows by mss x mss / itself and by mss / 16
unfoldable pub raised : ℕ → ℕ → ℕ
raised allowance m = let base = max m allowance in base + (m * m / base + m / 16)

-- and where it then has room for one segment more, the window is the allowance in segments, rounded up (the enabled division form)
unfoldable pub widened : ℕ → ℕ → ℕ → ℕ
widened window allowance m = cond (leb ((window + 1) * m) allowance) ((allowance + m - 1) / m) window

unfoldable pub avoidance : Congestion → ℕ → Congestion
avoidance c m =
    let allowance = raised c.allowance m in
    record { window = widened c.window allowance m; threshold = c.threshold; allowance = allowance }

-- no more than the peer's window, with the allowance that goes with it
unfoldable pub limited : Congestion → ℕ → ℕ → Congestion
limited c m peer = cond (ltb peer c.window) (record { window = peer; threshold = c.threshold; allowance = peer * m }) c

-- only a window below the peer's grows
unfoldable pub grown : Congestion → ℕ → ℕ → Congestion
grown c m peer = cond (leb peer c.window) c (limited (cond (ltb c.window c.threshold) (slow_start c m) (avoidance c m)) m peer)

-- after a datagram, by snd_una before and after it and the peer's window after it
unfoldable pub after_datagram : Congestion → ℕ → ℕ → ℕ → ℕ → Congestion
after_datagram c m before after peer = cond (eqb before after) c (grown c m peer)

-- ---- loss, at the end of a flush (003)

-- half of so many segments; thresholds never go under 2
unfoldable pub halved : ℕ → ℕ
halved segments = max congestion_threshold_least (segments / 2)

-- by skips: the threshold is half of what is in flight, the window that and the skips that make a fast retransmission
unfoldable pub by_skips : Losses → ℕ → Congestion
by_skips l m = let t = halved l.inflight in record { window = t + l.skips; threshold = t; allowance = (t + l.skips) * m }

-- by timeout: the threshold is half of the window that the flush used, the window 1
unfoldable pub by_timeout : Losses → ℕ → Congestion
by_timeout l m = record { window = 1; threshold = halved l.used; allowance = m }

-- then, loss or none, a window under 1 becomes 1 with allowance mss
unfoldable pub at_least_one : Congestion → ℕ → Congestion
at_least_one c m = cond (ltb c.window 1) (record { window = 1; threshold = c.threshold; allowance = m }) c

-- by skips, then by timeout
unfoldable pub after_flush : Congestion → ℕ → Losses → Congestion
after_flush c m l =
    let skipped = cond l.fast (by_skips l m) c in
    at_least_one (cond l.late (by_timeout l m) skipped) m

-- ---- what refusal 13 asks

-- a window up to 65,535, a threshold of 2 to 16 and an allowance of at most (window + 1) x mss
unfoldable pub fits : Congestion → ℕ → Bool
fits c m =
    leb c.window congestion_window_most
    && leb congestion_threshold_least c.threshold
    && leb c.threshold congestion_threshold_most
    && leb c.allowance ((c.window + 1) * m)

-- the same as a plain statement
pub record InRange (m : ℕ) (c : Congestion) : Type 0 where
  pub window : c.window ≤ congestion_window_most
  pub threshold_least : congestion_threshold_least ≤ c.threshold
  pub threshold_most_lem : c.threshold ≤ congestion_threshold_most
  pub allowance : c.allowance ≤ (c.window + 1) * m

-- ---- what the functions ask, so that no number wraps

pub record Growable (m : ℕ) (c : Congestion) : Type 0 where
  pub least : 0 < m
  pub most : m < 2 ^ 15
  pub window : c.window < 65536
  pub allowance : c.allowance < 2 ^ 31

pub record Countable (m : ℕ) (l : Losses) : Type 0 where
  pub most : m < 2 ^ 15
  pub inflight : l.inflight ≤ send_window
