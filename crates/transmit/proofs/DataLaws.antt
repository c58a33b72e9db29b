-- A data segment: its size, its place in the send pool, and what is added where it is put.
-- Assumes nothing.
use mathlib.Core.Path.{◌≡◌, ◌∙◌}
use mathlib.Core.List.{List, [], ◌∷◌}
use Prim.Native.Nat.{ℕ, ◌+◌, ◌-◌, ◌*◌, ◌≤◌, ◌<◌}
use native.Mathlib.Nat.{mul-le-mul_right}
use native.Mathlib.Omega.{arith}
use lib.ListN.{length, length-take, length-drop}
use Rattle.protocol.specs.Ranges.{mss}
use Rattle.retransmission.specs.declared.Transmission.{Transmission}
use Rattle.lists.specs.declared.Held.{Held}
use Rattle.lists.specs.declared.Sent.{Sent}
use Rattle.session.specs.Flushing.{bytes_of_segment}
use Rattle.packing.specs.declared.Packer.{Packer}
use Rattle.packing.specs.Packers.{Fills, Puts, Adds}
use Rattle.packing.specs.PackerLaws.{length_segment, puts_adds, adds_as}
use Rattle.words.specs.Words.{unpack}
use Rattle.transmit.specs.declared.Flush.{Flush}
use Rattle.transmit.specs.Writing.{data_of, InSlot, sent_as}

-- a slot's payload ends within the pool
in_pool : (m slot len size : ℕ) → len ≤ m → slot < 128 → 128 * m ≤ size → slot * m + len ≤ size
in_pool m slot len size h g e = omega (arith, mul-le-mul_right m g)

-- the segment of a word, with its part read from there
module _ (f : Flush) (word : ℕ) (x : Transmission) (held : Held) (pool : List ℕ) (e : held ≡ unpack word)
    (wide : 24 ≤ f.settings.mtu) (p : InSlot (mss f.settings) (unpack word)) (long : 128 * mss f.settings ≤ length pool) where
  abbrev read : Sent
  read = record { held = held; transmissions = x.transmissions; «record» = x.updated }

  inside : InSlot (mss f.settings) held
  inside = rw e p

  payload_end : held.slot * (f.settings.mtu - 24) + held.len ≤ length pool
  payload_end = in_pool (f.settings.mtu - 24) held.slot held.len (length pool) inside.len inside.slot long

  small : 24 + held.len ≤ f.settings.mtu
  small = omega (arith, inside.len)

  data_size : length (bytes_of_segment (data_of f pool read)) ≡ 24 + held.len
  data_size = length_segment (data_of f pool read) ∙ simp (length-take, length-drop) (omega (arith, payload_end))

  -- what is put is added
  pub data_adds : (k : Packer) (out lengths : List ℕ) (k' : Packer) (out' lengths' : List ℕ) → Fills f.settings.mtu k
      → Puts f.settings.mtu (24 + held.len) (bytes_of_segment (data_of f pool read)) k out lengths k' out' lengths'
      → Adds f.settings.mtu (data_of f pool (sent_as word x) ∷ []) f.settings.mtu 1 k out lengths k' out' lengths'
  data_adds k out lengths k' out' lengths' q u =
      adds_as (puts_adds f.settings.mtu (24 + held.len) (data_of f pool read) k out lengths k' out' lengths' data_size small q u) (rw e)
      small (omega arith)
