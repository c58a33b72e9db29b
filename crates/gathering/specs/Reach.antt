-- Where the record of a word is read. Definitions.
-- Assumes nothing.
use Rattle.std.specs.Prelude.{cond, ℕ, ◌%◌, ltb}
use Rattle.protocol.specs.Protocol.{send_slots}

-- its slot, or past every table for a slot that no link has
abbrev pub reach : ℕ → ℕ
reach word = cond (ltb (word % 256) send_slots) (word % 256) 18446744073709551615
