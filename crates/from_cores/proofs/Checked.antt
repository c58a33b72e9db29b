-- What the checks have established where a call is done: the table has a record for each send slot, the block's state is valid,
-- and the outcome is the call's own.
-- Assumes nothing.
use mathlib.Core.Path.{◌≡◌, refl}
use mathlib.Core.Bool.{Bool, true, false, ◌&&◌}
use Prim.Native.Nat.{ℕ, ◌*◌, ◌≤◌}
use native.Mathlib.Omega.{arith}
use borrow.Author.Tests.{leb-true}
use lib.Dec.{leb}
use lib.ListN.{length}
use Rattle.protocol.specs.Protocol.{send_slots, receive_slots, acks_most, output_least, lengths_least}
use Rattle.sizes.specs.Sizes.{enough, enough_to_flush}
use Rattle.session.specs.State.{Outcome, done}
use Rattle.session.specs.Valid.{valid}
use Rattle.session.specs.Decides.{and_parts}
use Rattle.control.specs.Views.{counts_fit, block_valid}
use Rattle.control.specs.declared.Link.{Link}
use Rattle.promises.specs.Parts.{Parts, state_in, is_made, lengths_of}
use Rattle.promises.specs.Outcomes.{checked}

pub record Passed {A : Type 0} (long made : Bool) (own : Outcome A) (x : A) : Type 0 where
  pub sizes : long ≡ true
  pub block : made ≡ true
  pub result : own ≡ done x

pub passed : {A : Type 0} (long made : Bool) (own : Outcome A) (x : A) → checked long made own ≡ done x → Passed long made own x
passed true true own x e = record { sizes = refl; block = refl; result = e }
passed true false own x e = absurd (let z : ◌≡◌ {A = ℕ} 0 1 = cc in omega arith)
passed false made own x e = absurd (let z : ◌≡◌ {A = ℕ} 0 1 = cc in omega arith)

pub made_valid : (l : Link) (p : Parts) → is_made l p ≡ true → valid (state_in l p) ≡ true
unfolding block_valid
made_valid l p e = (and_parts (counts_fit l) (valid (state_in l p)) e).1

pub table_long : (m : ℕ) (p : Parts) → enough m (lengths_of p) ≡ true → send_slots ≤ length p.table
unfolding enough
table_long m p e =
    let pools = leb (send_slots * m) (length p.send_pool) && leb (receive_slots * m) (length p.receive_pool) in
    leb-true send_slots (length p.table) (and_parts pools (leb send_slots (length p.table))
    (and_parts (pools && leb send_slots (length p.table)) (leb (2 * acks_most) (length p.acks)) e).0).1

pub flush_enough : (m : ℕ) (p : Parts) (output lengths : ℕ) → enough_to_flush m (lengths_of p) output lengths ≡ true
    → enough m (lengths_of p) ≡ true
unfolding enough_to_flush
flush_enough m p output lengths e =
    (and_parts (enough m (lengths_of p)) (leb output_least output)
    (and_parts (enough m (lengths_of p) && leb output_least output) (leb lengths_least lengths) e).0).0
