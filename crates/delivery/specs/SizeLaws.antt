-- What settings in range and lent parts that are long enough say.
-- Assumes nothing.
use Rattle.std.specs.Prelude.{◌≡◌, true, ℕ, ◌*◌, ◌≤◌}
use Rattle.std.proofs.Common.{leb-true}
use Rattle.protocol.specs.Protocol.{send_slots, mtu_least, mtu_most}
use Rattle.protocol.specs.Ranges.{in_range}
use Rattle.protocol.specs.declared.Settings.{Settings}
use Rattle.sizes.specs.Sizes.{enough, enough_to_flush}
use Rattle.sizes.specs.declared.Lengths.{Lengths}
use Rattle.session.specs.Decides.{and_parts}
use Rattle.session.specs.IsValid.{settings_decide}

-- settings in range have an mtu of 50 to 1,400
pub record MtuInRange (c : Settings) : Type 0 where
  pub least : mtu_least ≤ c.mtu
  pub most : c.mtu ≤ mtu_most

pub mtu_in_range : (c : Settings) → in_range c ≡ true → MtuInRange c
mtu_in_range c e =
    let r = (settings_decide c).holds e in
    record { least = r.mtu_least_lem; most = r.mtu_most_lem }

-- a flush's lent parts: a send pool of 128 x mss bytes
pub enough_pool : (m : ℕ) (n : Lengths) (output lengths : ℕ) → enough_to_flush m n output lengths ≡ true → send_slots * m ≤ n.send
unfolding enough_to_flush enough
enough_pool m n output lengths e =
    leb-true (send_slots * m) n.send (and_parts _ _ (and_parts _ _ (and_parts _ _ (and_parts _ _ (and_parts _ _ e).0).0).0).0).0
