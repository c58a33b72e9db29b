-- What a receiver reads and takes into a table, under the conditions of specs/TagDelivery.
-- Assumes nothing.
use Rattle.std.specs.Prelude.{◌≡◌, ℕ}
use mathlib.Core.List.{List, Memᴰ}
use Rattle.protocol.specs.declared.Settings.{Settings}
use Rattle.session.specs.Calls.{Call, Event, datagrams_by, read_answers, messages_read}
use Rattle.delivery.specs.Accepted.{accepted_for}
use Rattle.delivery.specs.Hearing.{FewPushes, FedWith}
use Rattle.demands.specs.Steps.{Endpoint, SinceOpening}
use Rattle.tag_message.specs.Messages.{name_in}
use Rattle.tag_survey.specs.Tables.{entries_in, entry_at}
use Rattle.tag_table.specs.Changes.{Changed, TakesTag}
use Rattle.tag_table.specs.OtherNames.{Other, take_preserves}
use Rattle.tag_delivery.specs.TagDelivery.{Takes, all_preserve, Genuine, read_given}

module _
    (c : Settings) (calls heard : List Call) (events answers : List Event) (sender receiver : Endpoint)
    (sends : SinceOpening c calls events sender) (hears : SinceOpening c heard answers receiver)
    (few : FewPushes c (datagrams_by events)) (fed : FedWith (datagrams_by events) heard)
  where
    -- one message that it has read, taken into a table
    pub taken_from_link :
        (m before : List ℕ) (a : Changed) (after : List ℕ) → Memᴰ m (messages_read (read_answers answers)) → TakesTag m before a after →
        Genuine (accepted_for c events) m before after
    taken_from_link m before a after k p = record {
      given = read_given c calls heard events answers sender receiver sends hears few fed m k;
      preserves = take_preserves m before a after p;
    }

    -- all messages that it has read, taken one after the other: an entry whose name the sender was never given in a message is as it was
    pub all_taken :
        (before after : List ℕ) → Takes (messages_read (read_answers answers)) before after → (i : ℕ) →
        ((m : List ℕ) → Memᴰ m (accepted_for c events) → Other (name_in m) (entry_at (entries_in before) i)) →
        entry_at (entries_in after) i ≡ entry_at (entries_in before) i
    all_taken before after t i o =
        all_preserve t i (λ m k. o m (read_given c calls heard events answers sender receiver sends hears few fed m k))
