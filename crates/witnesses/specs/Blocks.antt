-- A control block for any state that it has room for, and what an accepted call leaves. Definitions.
-- Assumes nothing.
use Rattle.std.specs.Prelude.{Bool, cond, map, ℕ, ◌+◌, ◌*◌, length}
use Rattle.lists.specs.declared.Held.{Held}
use Rattle.lists.specs.declared.Sent.{Sent}
use Rattle.lists.specs.declared.Waiting.{Waiting}
use Rattle.session.specs.State.{State, Outcome, refused, done}
use Rattle.session.specs.Sending.{Sends}
use Rattle.session.specs.Input.{Took}
use Rattle.session.specs.Flushing.{Flushed}
use Rattle.session.specs.Reading.{Reads}
use Rattle.control.specs.declared.Link.{Link}
use Rattle.promises.specs.Promises.{table_of}
use Rattle.demands.specs.Steps.{Endpoint}
use Rattle.demands.specs.Relations.{acks_after}

abbrev flag : Bool → ℕ
flag b = cond b 1 0

-- a held segment as one word
abbrev word : Held → ℕ
word h = h.slot + 256 * h.fragment + 65536 * h.len

-- a block that stands for a state
abbrev pub link_of : State → Link
link_of s =
    let sending = s.sending in
    let receiving = s.receiving in
    record {
      settings = s.settings;
      flight = record {
        una = sending.una;
        next = sending.next;
        rtt = sending.round_trip;
        window = sending.window;
        congestion = s.congestion;
        queued = length sending.queued;
        outstanding = length sending.outstanding;
      };
      arrival = record {
        expected = receiving.next;
        tell = flag receiving.tell;
        ready = length receiving.ready;
        waiting = length receiving.waiting;
        acks = length receiving.acks;
      };
      clock = record {
        probe = s.probe;
        current = s.current;
        next_flush = s.schedule.next;
        ask = flag s.ask;
        dead = flag s.dead;
        updated = flag s.schedule.made;
      };
      queued = map word sending.queued;
      outstanding = map (λ (x : Sent). word x.held) sending.outstanding;
      transmissions = map (λ (x : Sent). x.transmissions) sending.outstanding;
      ready = map word receiving.ready;
      waiting = map (λ (w : Waiting). word w.held) receiving.waiting;
      waiting_numbers = map (λ (w : Waiting). w.number) receiving.waiting;
    }

-- ---- what each call leaves

abbrev pub after_send : Endpoint → Outcome Sends → Endpoint
after_send e (refused r) = e
after_send e (done x) =
    record {
      link = link_of x.state;
      parts = record { send_pool = x.pool; receive_pool = e.parts.receive_pool; table = e.parts.table; acks = e.parts.acks };
    }

abbrev pub after_input : Endpoint → Outcome Took → Endpoint
after_input e (refused r) = e
after_input e (done x) =
    record {
      link = link_of x.state;
      parts = record {
        send_pool = e.parts.send_pool;
        receive_pool = x.pool;
        table = table_of e.parts.table x.state;
        acks = acks_after (done x) e.parts.acks;
      };
    }

abbrev pub after_flush : Endpoint → Outcome Flushed → Endpoint
after_flush e (refused r) = e
after_flush e (done x) =
    record {
      link = link_of x.state;
      parts = record {
        send_pool = e.parts.send_pool;
        receive_pool = e.parts.receive_pool;
        table = table_of e.parts.table x.state;
        acks = e.parts.acks;
      };
    }

abbrev pub after_reading : Endpoint → Outcome Reads → Endpoint
after_reading e (refused r) = e
after_reading e (done x) = record { link = link_of x.state; parts = e.parts }
