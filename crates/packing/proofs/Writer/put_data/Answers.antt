-- `put_data` meets its contract: the payload is copied behind its header.
use mathlib.Core.Path.{◌≡◌, ap, ◌∙◌}
use mathlib.Core.List.{List, ◌++◌}
use Prim.Native.Nat.{ℕ, ◌+◌, ◌≤◌}
use native.Mathlib.Omega.{arith}
use lib.ListN.{length, length-append, length-take, length-drop}
use lib.Seq.{sets, length-sets}
use Rattle.wire.specs.Headers.{encode}
use Rattle.wire.specs.HeaderLaws.{length_encode}
use Rattle.wire.specs.Stores.{sets_append}
use Rattle.wire.specs.declared.Header.{Header}
use Rattle.pools.specs.Parts.{part}
use Rattle.packing.specs.declared.Packer.{Packer}
use Rattle.packing.specs.Packers.{Room, Puts}
use Rattle.packing.proofs.Writer.put_data.Goals as goal

module _ (h : Header) {mtu n : ℕ} {k q : Packer} {out lengths headed lengths' : List ℕ}
    (p : Puts mtu n (encode h) k out lengths q headed lengths') where
  header_end : q.at ≡ k.at + 24
  header_end = p.at ∙ rw (length_encode h)

  payload_room : (len m : ℕ) → Room mtu (24 + len) m k out lengths → q.at + len ≤ length headed
  payload_room len m r = rw (p.output, length-sets) (omega (arith, header_end, r.bytes))

  payload_puts : (out' pool : List ℕ) (from len : ℕ) → out' ≡ sets headed q.at (part pool from len) → from + len ≤ length pool
      → Puts mtu n (encode h ++ part pool from len) k out lengths (record { at = q.at + len; start = q.start; count = q.count }) out' lengths'
  payload_puts out' pool from len e enough =
      let size : length (part pool from len) ≡ len = simp (length-take, length-drop) (omega arith) in
      record {
        output = e ∙ rw (header_end, sets_append, length_encode, p.output);
        at = rw (length-append, length_encode, size) (omega (arith, header_end));
        start = p.start;
        count = p.count;
        sizes = p.sizes;
      }

pub copy_part-requires : goal.copy_part-requires
copy_part-requires c = (c.requires.2, payload_room _ c.put_header.ensures.puts _ _ c.requires.0)

pub overflow_add-self : goal.overflow_add-self
overflow_add-self c =
    omega (arith, header_end _ c.put_header.ensures.puts, c.requires.0.bytes, c.well_formed)

pub returns-clause-puts : goal.returns-clause-puts
returns-clause-puts c = payload_puts _ c.put_header.ensures.puts _ _ _ _ c.copy_part.ensures c.requires.2
