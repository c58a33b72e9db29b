-- The whole write: what its parts add is what is packed.
-- Assumes nothing.
use mathlib.Core.Path.{◌≡◌}
use mathlib.Core.Bool.{Bool}
use mathlib.Core.List.{List, [], ◌++◌, map, foldl, append_assoc}
use Prim.Native.Nat.{ℕ}
use Rattle.protocol.specs.Protocol.{window_ask, window_tell}
use Rattle.timing.specs.declared.Record.{Record}
use Rattle.lists.specs.declared.Sent.{Sent}
use Rattle.datagram.specs.Datagrams.{Segment}
use Rattle.session.specs.State.{Ack}
use Rattle.session.specs.Flushing.{control, ack_segment, wished, pack_one, packed}
use Rattle.packing.specs.declared.Packer.{Packer}
use Rattle.packing.specs.Packers.{carried_of, Output, bytes_of_datagrams, none, Adds, Finishes}
use Rattle.packing.specs.declared.Writer.{Writer}
use Rattle.packing.specs.Writers.{Same, AddsTo}
use Rattle.packing.specs.PackerLaws.{adds_append, packs_none, finishes_output}
use Rattle.transmit.specs.declared.Flush.{Flush}
use Rattle.transmit.specs.declared.Told.{Told}
use Rattle.transmit.specs.Writing.{WritesFor, Walks, Writes}

output_of : (mtu n m : ℕ) (gs : List Segment) (k₀ : Packer) (out lengths : List ℕ) (k : Packer) (out' lengths' : List ℕ) (count : ℕ)
    (lengths'' : List ℕ)
    → k₀ ≡ none → Adds mtu gs n m k₀ out lengths k out' lengths' → Finishes k lengths' count lengths''
    → Output (bytes_of_datagrams (packed mtu gs)) out lengths count out' lengths''
unfolding packed
output_of mtu n m gs k₀ out lengths k out' lengths' count lengths'' e a c =
    finishes_output out lengths k out' lengths' count lengths'' c (foldl (pack_one mtu) (record { closed = []; filling = [] }) gs)
    ((rw e at a).packs out lengths (record { closed = []; filling = [] }) (packs_none out lengths))

pub writes_all : (f : Flush) (acks : List Ack) (ask tell : Bool) (l : List Sent) (words : List ℕ) (count : ℕ) (pool : List ℕ) (n m : ℕ)
    (o v v' : Writer) (r : Told) (transmissions' : List ℕ) (records' : List Record) (number : ℕ) (v'' : Writer)
    → o.packer ≡ none → WritesFor f o → Same o v
    → AddsTo (map (ack_segment (carried_of f.carried)) acks ++ wished ask (control (carried_of f.carried) window_ask 0 0)
    ++ wished tell (control (carried_of f.carried) window_tell 0 0)) n m o v
    → Walks f l words count pool v r transmissions' records' v'
    → v''.out.now ≡ v'.out.now → Finishes v'.packer v'.lengths.now number v''.lengths.now
    → (out lengths out' lengths' : List ℕ) → o.out.now ≡ out → o.lengths.now ≡ lengths → out' ≡ v''.out.now → lengths' ≡ v''.lengths.now
    → Writes f acks ask tell l words count pool out lengths (record { told = r; count = number }) transmissions' records' out' lengths'
writes_all f acks ask tell l words count pool n m o v v' r ts' rs' number v'' e u same a w stays c out lengths out' lengths' p q p' q' =
    record {
      output = rw (append_assoc, append_assoc, u.mtu, p, q, ← stays, ← p', ← q') at
          (output_of _ _ _ _ o.packer o.out.now o.lengths.now v'.packer v'.out.now v'.lengths.now number v''.lengths.now e
          (adds_append a (rw same.mtu at w.adds)) c);
      sent = w.sent;
      dead = w.dead;
      late = w.late;
      fast = w.fast;
      sends = w.sends;
    }
