-- A block with its lent parts at a known state: all that a caller can know of a link that keeps its promises.
-- Assumes nothing.
use Rattle.std.specs.Prelude.{◌≡◌, true, List, ℕ, length}
use Rattle.protocol.specs.Ranges.{mss}
use Rattle.sizes.specs.Sizes.{enough}
use Rattle.sizes.specs.declared.Lengths.{Lengths}
use Rattle.session.specs.State.{State}
use Rattle.session.specs.Valid.{valid}
use Rattle.control.specs.declared.Link.{Link}
use Rattle.promises.specs.Parts.{Parts, Stands}

-- a state with the bytes of its pools
pub record Known : Type 0 where
  pub state : State
  pub send_pool : List ℕ
  pub receive_pool : List ℕ

-- parts with these pools, 128 records and 512 entries for acks
pub record Lends (p : Parts) (send receive : List ℕ) : Type 0 where
  pub send_pool : p.send_pool ≡ send
  pub receive_pool : p.receive_pool ≡ receive
  pub table : length p.table ≡ 128
  pub acks : length p.acks ≡ 512

-- the block and its parts stand for it
pub record At (l : Link) (p : Parts) (k : Known) : Type 0 where
  pub stands : Stands l p k.state
  pub lends : Lends p k.send_pool k.receive_pool

abbrev pub lengths_known : Known → Lengths
lengths_known k = record { send = length k.send_pool; receive = length k.receive_pool; table = 128; acks = 512 }

-- neither 7 nor 13 is given
pub record Passes (k : Known) : Type 0 where
  pub long : enough (mss k.state.settings) (lengths_known k) ≡ true
  pub made : valid k.state ≡ true
