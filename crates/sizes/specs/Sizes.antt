-- How long the lent parts must be (refusal 7).
-- Assumes nothing.
use Rattle.std.specs.Prelude.{Bool, ◌&&◌, ℕ, ◌*◌, leb}
use Rattle.protocol.specs.Protocol.{send_slots, receive_slots, acks_most, output_least, lengths_least}
use Rattle.sizes.specs.declared.Lengths.{Lengths}

-- a send pool of at least 128 x mss bytes, a receive pool of at least 256 x mss bytes, a record for each of 128 send slots,
-- and an ack list for 256 pairs, so 512 entries
unfoldable pub enough : ℕ → Lengths → Bool
enough mss n =
    leb (send_slots * mss) n.send
    && leb (receive_slots * mss) n.receive
    && leb send_slots n.table
    && leb (2 * acks_most) n.acks

-- a flush is lent besides at least 50,992 bytes for output and at least 290 lengths
unfoldable pub enough_to_flush : ℕ → Lengths → ℕ → ℕ → Bool
enough_to_flush mss n output lengths = enough mss n && leb output_least output && leb lengths_least lengths
