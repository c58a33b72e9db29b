-- The records of a block's outstanding segments in the lent table. Definitions.
-- Assumes nothing.
use Rattle.std.specs.Prelude.{List, take}
use Rattle.protocol.specs.Protocol.{send_slots}
use Rattle.timing.specs.declared.Record.{Record}
use Rattle.records.specs.Tables.{slots_in, gathered, padded}
use Rattle.control.specs.declared.Link.{Link}

-- 32 of them, the last ones blank
abbrev pub lent_records : Link → List Record → List Record
lent_records l table = padded (gathered (take send_slots table) (slots_in l.outstanding l.flight.outstanding))
