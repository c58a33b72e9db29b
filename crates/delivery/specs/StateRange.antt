-- The numbers of a link's state that fit their types, as far as validity (13) does not say it. Definitions.
-- Assumes nothing.
use Rattle.std.specs.Prelude.{◌^◌, ◌<◌}
use Rattle.timing.specs.TimeRanges.{RecordFits}
use Rattle.lists.specs.declared.Sent.{Sent}
use Rattle.session.specs.State.{Sending, Receiving, Ack}
use Rattle.session.specs.Decides.{All}

-- the sending half
pub record SendingFits (s : Sending) : Type 0 where
  pub una : s.una < 2 ^ 32
  pub next : s.next < 2 ^ 32
  pub window : s.window < 2 ^ 16
  pub records : All (λ (x : Sent). RecordFits x.record) s.outstanding

-- of the receiving half, what a flush writes
pub record AckFits (a : Ack) : Type 0 where
  pub sn : a.sn < 2 ^ 32
  pub ts : a.ts < 2 ^ 32

pub record CarryFits (r : Receiving) : Type 0 where
  pub next : r.next < 2 ^ 32
  pub acks : All AckFits r.acks
