-- The congestion window in flushes (request 2026-08): with the setting off the datagrams are as without it; with the setting on the first
-- flush sends no data.
-- Assumes nothing.
use Rattle.std.specs.Prelude.{◌≡◌, ◌||◌, ℕ, min}
use Rattle.std.proofs.Math.Bool.{false}
use mathlib.Core.List.{List, []}
use Rattle.protocol.specs.Protocol.{send_window}
use Rattle.protocol.specs.Ranges.{controls_congestion}
use Rattle.protocol.specs.declared.Settings.{Settings}
use Rattle.datagram.specs.Datagrams.{Segment}
use Rattle.timing.specs.Probes.{next_clock}
use Rattle.congestion.specs.Congestions.{initial, used_window}
use Rattle.congestion.specs.CongestionLaws.{used_off}
use Rattle.congestion.specs.declared.Congestion.{Congestion}
use Rattle.session.specs.State.{State, with_congestion}
use Rattle.session.specs.Flushing.{window_of, written, packed, flushing}
use Rattle.session.specs.Calls.{Reply}

-- ---- with the setting off

-- a flush goes by 32 and the peer's window
pub off_window : (s : State) → controls_congestion s.settings ≡ false → window_of s ≡ min send_window s.sending.window
off_window s e = rw e (used_off s.sending.window s.congestion.window)

-- whatever the three values are, its datagrams are the same, and so is all that it leaves but these three
pub off_datagrams : (s : State) (x : Congestion) (t : ℕ) (pool : List ℕ) → controls_congestion s.settings ≡ false
    → (flushing (with_congestion s x) t pool).datagrams ≡ (flushing s t pool).datagrams
unfolding flushing used_window written
off_datagrams s x t pool e = rw e

pub off_state : (s : State) (x : Congestion) (t : ℕ) (pool : List ℕ) → controls_congestion s.settings ≡ false
    → with_congestion (flushing (with_congestion s x) t pool).state s.congestion ≡ with_congestion (flushing s t pool).state
    s.congestion
unfolding flushing used_window
off_state s x t pool e = rw e

-- ---- before the first flush

-- nothing is outstanding, snd_una is snd_nxt, and the three values and the settings are those of opening
pub record Unsent (c : Settings) (s : State) : Type 0 where
  pub settings : s.settings ≡ c
  pub none : s.sending.outstanding ≡ []
  pub equal : s.sending.una ≡ s.sending.next
  pub values : s.congestion ≡ initial

-- no flush has run
abbrev pub NoFlush : Reply → Type 0
NoFlush (Reply.wrote ds) = ⊥
NoFlush (Reply.refused r) = Unit {0}
NoFlush Reply.accepted = Unit {0}
NoFlush (Reply.message b) = Unit {0}
NoFlush Reply.waited = Unit {0}
NoFlush (Reply.named t) = Unit {0}

-- ---- the first flush, with the setting on

-- the datagrams of a flush at t that sends no data: acks, an ask and a tell alone
abbrev pub without_data : State → ℕ → List ℕ → List (List Segment)
without_data s t pool = packed s.settings.mtu (written s t pool (s.ask || (next_clock s.probe t s.sending.window).ask) [])
