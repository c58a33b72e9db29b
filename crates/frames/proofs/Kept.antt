-- Laws that nothing here cites, kept since they stood.
-- Assumes nothing.
use Rattle.std.specs.Prelude.{◌≡◌, true, false, List, ℕ, ◌+◌, ◌≤◌, ◌<◌, length, get_or, drop}
use Rattle.std.proofs.Common.{add-one, drop_of_length-le, drop-cons}
use Rattle.frames.specs.Outcomes.{length_ok, lengths_ok}

pub lengths_step : (mtu : ℕ) (ns : List ℕ) (i : ℕ) → i < length ns → length_ok mtu (get_or ns i 0) ≡ true
    → lengths_ok mtu (drop i ns) ≡ lengths_ok mtu (drop (i + 1) ns)
unfolding lengths_ok
lengths_step mtu ns i h e = rw (add-one, drop-cons ns i 0, e)

pub lengths_bad : (mtu : ℕ) (ns : List ℕ) (i : ℕ) → i < length ns → length_ok mtu (get_or ns i 0) ≡ false
    → lengths_ok mtu (drop i ns) ≡ false
unfolding lengths_ok
lengths_bad mtu ns i h e = rw (drop-cons ns i 0, e)

pub lengths_end : (mtu : ℕ) (ns : List ℕ) (i : ℕ) → length ns ≤ i → lengths_ok mtu (drop i ns) ≡ true
unfolding lengths_ok
lengths_end mtu ns i h = rw (drop_of_length-le ns h)
