-- A writer with its lent parts: what stays over a step, and what is put. Definitions.
-- Assumes nothing.
use Rattle.std.specs.Prelude.{◌≡◌, List, ℕ}
use Rattle.datagram.specs.Datagrams.{Segment}
use Rattle.packing.specs.declared.Writer.{Writer}
use Rattle.packing.specs.Packers.{Room, Puts, Adds}

-- mtu, what is carried, and the lent parts are the same
pub record Same (w w' : Writer) : Type 0 where
  pub mtu : w'.mtu ≡ w.mtu
  pub carried : w'.carried ≡ w.carried
  pub out : w'.out.ghost_name ≡ w.out.ghost_name
  pub lengths : w'.lengths.ghost_name ≡ w.lengths.ghost_name

-- there is room for n bytes more, in m datagrams more
abbrev pub HasRoom : ℕ → ℕ → Writer → Type 0
HasRoom n m w = Room w.mtu n m w.packer w.out.now w.lengths.now

-- these bytes are put, the first of n that are to come
abbrev pub PutsIn : ℕ → List ℕ → Writer → Writer → Type 0
PutsIn n bytes w w' = Puts w.mtu n bytes w.packer w.out.now w.lengths.now w'.packer w'.out.now w'.lengths.now

-- segments are packed behind whatever was packed: at most n bytes, in at most m datagrams more
abbrev pub AddsTo : List Segment → ℕ → ℕ → Writer → Writer → Type 0
AddsTo gs n m w w' = Adds w.mtu gs n m w.packer w.out.now w.lengths.now w'.packer w'.out.now w'.lengths.now
