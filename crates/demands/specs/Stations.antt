-- The station that an endpoint stands for: its state, its pools, and how long its other lent parts are. Output and lengths are as long as a
-- flush asks.
-- Assumes nothing.
use Rattle.std.specs.Prelude.{length}
use Rattle.protocol.specs.Protocol.{output_least, lengths_least}
use Rattle.session.specs.Calls.{Station}
use Rattle.promises.specs.Parts.{state_in}
use Rattle.demands.specs.Steps.{Endpoint}

abbrev pub station_of : Endpoint → Station
station_of e =
    record {
      state = state_in e.link e.parts;
      send_pool = e.parts.send_pool;
      receive_pool = e.parts.receive_pool;
      lent = record {
        table = length e.parts.table;
        ack_list = length e.parts.acks;
        output = output_least;
        lengths = lengths_least;
      };
    }
