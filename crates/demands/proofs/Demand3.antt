-- DEMAND 3: hearing more never loses a message. It is stated of what callers hold and see, from the promises of the public calls alone.
--
-- One sender and two receivers open once, with equal settings `c`, whatever their blocks and lent bytes were (`Opens`). Each is always
-- lent the same parts of its own; its own calls alone change these and its control block (`Runs`: each call gets block and parts as the
-- last one left them, and is what its promise says; telling the size and showing change neither, and may stand anywhere). What follows
-- holds after every list of calls of each (send, take in, flush, read, and update and check), refused ones included, whatever the clocks
-- show (`SinceOpening`: bytes are bytes, times and the conversation have 32 bits). The sender takes in anything, and its pushes carry
-- numbers below 2^30 (`FewPushes`). The first receiver is fed some of the sender's datagrams
-- (`datagrams_by`: the bytes of its output, cut by its lengths), late, repeated or shuffled (`FedWith`). The second has the first one's
-- feeds and reads, in that order and with read buffers as long, and further datagrams of that sender put in anywhere; both send,
-- flush, update and check at any point (`HearsMore`).
-- Then (`Delivered`) the first one's messages begin the second one's list, and both begin the list accepted for sending; each read answered
-- as the plain receiver's; a receiver's read finds nothing exactly when no next message was accepted, or a segment of it has never been fed
-- while below the next expected number plus 128 (`Missing`, `FedBelow`); and rcv_nxt is the plain receiver's next expected number.
-- In stream mode each segment as finally numbered is taken for a message, and these in order are the accepted list (`accepted_for`).
-- Assumes nothing.
use Rattle.std.specs.Prelude.{◌≡◌, List, ℕ}
use Rattle.std.proofs.Common.{ap, ◌∙◌, subst}
use Rattle.protocol.specs.declared.Settings.{Settings}
use Rattle.session.specs.Calls.{Station, Stepped, Call, Event, step, history, datagrams_by}
use Rattle.delivery.specs.Accepted.{accepted_for}
use Rattle.delivery.specs.Hearing.{FewPushes, FedWith, HearsMore}
use Rattle.delivery.specs.Claims.{Receives, Delivered}
use Rattle.delivery.specs.Stations as stations
use Rattle.delivery.proofs.Demand3 as delivery
use Rattle.demands.specs.Steps.{Endpoint, SinceOpening}
use Rattle.demands.specs.Stations.{station_of}
use Rattle.demands.specs.Claims.{observed}
use Rattle.demands.proofs.Simulation.{step_call}
use Rattle.demands.proofs.RunLaws.{opens_station, taken, since_opening}

-- what holds of a receiver's station holds of the receiver
receives : {c : Settings} {calls : List Call} {events : List Event} {e : Endpoint} (accepted : List (List ℕ))
    (h : SinceOpening c calls events e)
    → Receives c accepted (stations.observed (station_of h.first) calls) → Receives c accepted (observed calls events e)
receives {c} {calls} {events} {e} accepted h r =
    let f = since_opening h in
    record {
      answers = rw f.events_are r.answers;
      begins = rw f.events_are r.begins;
      nothing = λ room a next.
          r.nothing room a
          (subst (λ (s : Station). (step s (Call.read room)).answer ≡ a) f.now
          (ap (λ (y : Stepped). y.answer) (step_call c (taken h).range h.conv e f.preserved (Call.read room) a next.0 tt
          next.1)));
      next_expected_lem = ap (λ (s : Station). s.state.receiving.next) f.now ∙ r.next_expected_lem;
    }

pub demand_3 : (c : Settings)
    → (calls firsts seconds : List Call) (events heard₁ heard₂ : List Event) (sender first second : Endpoint)
    → SinceOpening c calls events sender → SinceOpening c firsts heard₁ first → SinceOpening c seconds heard₂ second
    → FewPushes c (datagrams_by events)
    → FedWith (datagrams_by events) firsts
    → FedWith (datagrams_by events) seconds
    → HearsMore firsts seconds
    → Delivered c (accepted_for c events) (observed firsts heard₁ first) (observed seconds heard₂ second)
demand_3 c calls firsts seconds events heard₁ heard₂ sender first second h h₁ h₂ few fed₁ fed₂ more =
    let f = since_opening h in
    let d = delivery.station_demand_3 c (taken h) (station_of h.first) (station_of h₁.first) (station_of h₂.first)
    (opens_station c h.first h.opens) (opens_station c h₁.first h₁.opens) (opens_station c h₂.first h₂.opens)
    calls firsts seconds h.fits h₁.fits h₂.fits
    (subst (λ (l : List Event). FewPushes c (datagrams_by l)) f.events_are few)
    (subst (λ (l : List Event). FedWith (datagrams_by l) firsts) f.events_are fed₁)
    (subst (λ (l : List Event). FedWith (datagrams_by l) seconds) f.events_are fed₂)
    more in
    rw f.events_are
    (record {
      first_receives = receives (accepted_for c (history (station_of h.first) calls)) h₁ d.first_receives;
      second_receives = receives (accepted_for c (history (station_of h.first) calls)) h₂ d.second_receives;
      none_lost = rw ((since_opening h₁).events_are, (since_opening h₂).events_are) d.none_lost;
    })
