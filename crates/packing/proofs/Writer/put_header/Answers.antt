-- `put_header` meets its contract: room is made, and the header is written where the packer stood.
use mathlib.Core.Path.{◌≡◌, refl, ap, ◌∙◌}
use mathlib.Core.Bool.{Bool, true, false, cond}
use mathlib.Core.List.{List}
use Prim.Native.Nat.{ℕ, ◌+◌, ◌≤◌}
use borrow.Author.Rules.{rules}
use borrow.Author.Tests.{le-leb}
use lib.ListN.{length}
use Rattle.wire.specs.Headers.{encode, Wrote}
use Rattle.wire.specs.HeaderLaws.{length_encode}
use Rattle.wire.specs.declared.Header.{Header}
use Rattle.packing.specs.declared.Packer.{Packer}
use Rattle.packing.specs.Packers.{fits, closed, MakesRoom, Puts}
use Rattle.packing.proofs.Writer.put_header.Goals as goal

of_chosen : (f : Packer → ℕ) (b : Bool) (x y : Packer) → f (cond b x y) ≡ cond b (f x) (f y)
of_chosen f true x y = refl
of_chosen f false x y = refl

header_puts : (mtu n : ℕ) (h : Header) (k room : Packer) (out lengths out' lengths' : List ℕ) (ok : Bool)
    → MakesRoom mtu n k lengths room lengths' → Wrote out k.at h ok out' → k.at + 24 ≤ length out
    → Puts mtu n (encode h) k out lengths (record { at = k.at + 24; start = room.start; count = room.count }) out' lengths'
header_puts mtu n h k room out lengths out' lengths' ok m w enough =
    let written : ok ≡ true = w.room ∙ le-leb _ _ enough in
    record {
      output = rw written at w.bytes;
      at = rw (length_encode h);
      start = ap (λ (x : Packer). x.start) m.packer ∙ of_chosen (λ x. x.start) (fits mtu n k) k (closed k);
      count = ap (λ (x : Packer). x.count) m.packer ∙ of_chosen (λ x. x.count) (fits mtu n k) k (closed k);
      sizes = m.sizes;
    }

pub returns-clause-puts : goal.returns-clause-puts
returns-clause-puts c =
    header_puts _ _ _ _ _ _ _ _ _ _ c.make_room.ensures.room (rw c.make_room.ensures.same.1 at c.write_header.ensures) (search rules)
