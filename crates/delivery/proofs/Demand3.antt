-- DEMAND 3: hearing more never loses a message.
--
-- One sender and two receivers open once, with equal settings `c`. Each is lent its own parts, as long as document 01 states and
-- holding any bytes (`Opened`); its own calls alone change these and its state (`history`, `after`). The claim holds after every list
-- of calls of each, refused ones included, whatever the clocks show (`CallFits`: bytes are bytes and times have 32 bits). The sender
-- takes in anything, and its pushes carry numbers below 2^30 (`FewPushes`). The first receiver is fed some of the sender's datagrams,
-- late, repeated or shuffled (`FedWith`); the second has the first one's feeds and reads, in that order and with read buffers as long,
-- and further datagrams of that sender put in anywhere; both send, flush, update and check at any
-- point (`HearsMore`).
-- Then (`Delivered`) each read of each answers as the plain receiver's; the first one's messages begin the second one's list, and both
-- begin the list accepted for sending; and a read finds nothing exactly when no next message was accepted, or a segment of it has never
-- been fed while below the next expected number plus 128.
-- In stream mode each segment as finally numbered is taken for a message, and these in order are the accepted list (`accepted_for`).
-- Assumes nothing.
use Rattle.std.specs.Prelude.{List}
use Rattle.protocol.specs.declared.Settings.{Settings}
use Rattle.session.specs.Calls.{Station, Call, history, datagrams_by}
use Rattle.session.specs.Decides.{All}
use Rattle.delivery.specs.Accepted.{accepted_for}
use Rattle.delivery.specs.Hearing.{Taken, CallFits, FewPushes, FedWith, HearsMore}
use Rattle.delivery.specs.Claims.{Delivered}
use Rattle.delivery.specs.Stations.{Opened, observed}
use Rattle.delivery.specs.QueuedBytes.{accepted_genuine}
use Rattle.delivery.specs.AlwaysValid.{station_always_valid}
use Rattle.delivery.specs.Receiving.{fed_genuine}
use Rattle.delivery.proofs.Receiving.{delivered_by_receivers}

pub station_demand_3 : (c : Settings) → Taken c
    → (sender first second : Station) → Opened c sender → Opened c first → Opened c second
    → (calls firsts seconds : List Call) → All CallFits calls → All CallFits firsts → All CallFits seconds
    → FewPushes c (datagrams_by (history sender calls))
    → FedWith (datagrams_by (history sender calls)) firsts
    → FedWith (datagrams_by (history sender calls)) seconds
    → HearsMore firsts seconds
    → Delivered c (accepted_for c (history sender calls)) (observed first firsts) (observed second seconds)
station_demand_3 c taken sender first second o o₁ o₂ calls firsts seconds fits fits₁ fits₂ few fed₁ fed₂ more =
    let a = station_always_valid c taken sender o calls fits in
    let a₁ = station_always_valid c taken first o₁ firsts fits₁ in
    let a₂ = station_always_valid c taken second o₂ seconds fits₂ in
    let genuine = accepted_genuine c taken sender o calls fits a.0 few in
    delivered_by_receivers c taken (accepted_for c (history sender calls)) first second firsts seconds
    (record { opens = o₁; fits = fits₁; passes = a₁.0; fed = fed_genuine c _ _ genuine firsts fed₁ })
    (record { opens = o₂; fits = fits₂; passes = a₂.0; fed = fed_genuine c _ _ genuine seconds fed₂ })
    a₁.1
    a₂.1
    more
