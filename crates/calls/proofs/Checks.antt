-- What a call promises where the checks of 7 and 13 refuse it, and where they pass what its core leaves.
-- Assumes nothing.
use Rattle.std.proofs.Common.{◌≡◌, refl, ap, List, ℕ, Bool, length, sym, ◌∙◌, ◌*◌, ◌≤◌, ◌&&◌, true, Ok, Err}
use Rattle.protocol.specs.Ranges.{mss}
use Rattle.protocol.specs.declared.Refusal.{Refusal}
use Rattle.timing.specs.declared.Record.{Record}
use Rattle.sizes.specs.Sizes.{enough}
use Rattle.sizes.specs.declared.Lengths.{Lengths}
use Rattle.session.specs.Decides.{and_parts}
use Rattle.protocol.specs.Protocol.{send_slots, receive_slots}
use Rattle.send_core.specs.Sending.{Sendable}
use borrow.Author.Tests.{leb-true}
use lib.Dec.{leb}
use Rattle.session.specs.State.{Outcome, refused}
use Rattle.session.specs.Sending.{sending}
use Rattle.session.specs.Reading.{reading, telling, showing}
use Rattle.control.specs.Views.{state_of, block_valid}
use Rattle.control.specs.declared.Link.{Link}
use Rattle.checking.specs.Verdicts.{Admitted}
use Rattle.checking.specs.VerdictLaws.{Passes}
use Rattle.promises.specs.Answers.{count_outcome}
use Rattle.promises.specs.Cores.{SendCore, ReadCore}
use Rattle.promises.specs.Outcomes.{own_checked, sends_with, reads_with, tells_with, shows_with, shows}
use Rattle.promises.specs.Parts.{Parts, lengths_of, parts_of}
use Rattle.promises.specs.Promises.{SendPromise, ReadPromise, SizePromise, place_of}
use Rattle.block_check.specs.Lent.{lent_records}
use Rattle.block_check.proofs.Whole.{padded_whole}
use Rattle.from_cores.proofs.Gathered.{Gathers, gathers}
use Rattle.from_cores.proofs.Sending.{send_promised}
use Rattle.from_cores.proofs.Reading.{read_promised}
use Rattle.from_cores.proofs.Asking.{size_promised, shows_promised}
use Rattle.read_core.proofs.Blocks as blocks
use Rattle.read_core.proofs.Readings.{not_read}
use Rattle.read_core.proofs.Places.{unplaced}
use Rattle.read_core.specs.Messages.{Readable}
use Rattle.read_core.specs.Places.{PlaceIs}
use Rattle.read_core.specs.declared.Place.{Place}
use Rattle.answers.specs.Answers.{Answer, Count}

-- whether they are long enough, by their lengths
pub long_of : (l : Link) (p : Parts) (long : Bool) (n : Lengths) → long ≡ enough (mss l.settings) n → n ≡ lengths_of p
    → long ≡ enough (mss l.settings) (lengths_of p)
long_of l p long n e f = e ∙ ap (enough (mss l.settings)) f

-- the send pool has all its slots
send_whole : (m : ℕ) (n : Lengths) → enough m n ≡ true → send_slots * m ≤ n.send
unfolding enough
send_whole m n e =
    let send = leb (send_slots * m) n.send in
    let receive = leb (receive_slots * m) n.receive in
    let table = leb send_slots n.table in
    leb-true (send_slots * m) n.send (and_parts send receive
    (and_parts (send && receive) table (and_parts (send && receive && table) _ e).0).0).0

module _ (l : Link) (p : Parts) (long : Bool) (e : long ≡ enough (mss l.settings) (lengths_of p)) (send receive : List ℕ) (v : Answer)
    (a : Admitted long l (lent_records l p.table) send receive v) where
  abbrev records : List Record
  records = lent_records l p.table

  whole_records : length records ≡ 32
  whole_records = padded_whole _ l.outstanding l.flight.outstanding

  gathered : Gathers l p records (length p.table)
  gathered = gathers l p l.flight.outstanding records (length p.table) refl refl refl

  -- ---- a refusal of the checks is the call's

  refuses : {A : Type 0} (own : Outcome A) (r : Refusal) → v ≡ Err r → own_checked l records p.acks (lengths_of p) own ≡ refused r
  refuses own r t = blocks.refuses l records p.acks (lengths_of p) long e v a.verdict own r t

  pub not_sent : (message : List ℕ) (r : Refusal) → v ≡ Err r → SendPromise message l p (Err r) l p
  unfolding sends_with
  not_sent message r t =
      send_promised l p records (length p.table) gathered (Err r) l p.send_pool message (rw (refuses _ r t) (refl, refl, refl))

  pub unread : (buffer : List ℕ) (r : Refusal) → v ≡ Err r → ReadPromise l p buffer (Err r) l p buffer
  unfolding reads_with
  unread buffer r t =
      read_promised l p records (length p.table) gathered buffer (Err r) l buffer
      (not_read _ r (refuses (reading (state_of l records p.acks) p.receive_pool (length buffer)) r t) l records p.acks buffer)

  pub untold : (r : Refusal) → v ≡ Err r → SizePromise l p (Err r)
  unfolding tells_with
  untold r t = size_promised l p records (length p.table) gathered (Err r) (sym (refuses (telling (state_of l records p.acks)) r t))

  pub unshown : (r : Refusal) → v ≡ Err r → PlaceIs (place_of (shows l p)) (length p.receive_pool) (record { start = 0; count = 0 })
  unfolding shows_with
  unshown r t =
      shows_promised l p records (length p.table) gathered (λ o. PlaceIs (place_of o) (length p.receive_pool) (record { start = 0; count = 0 }))
      (unplaced _ r (refuses (showing (state_of l records p.acks)) r t) (length p.receive_pool))

  -- ---- where they pass

  module _ (t : v ≡ Ok tt) where
    passes : Passes (enough (mss l.settings) (lengths_of p)) (block_valid l records p.acks)
    passes = blocks.passes l records p.acks (lengths_of p) long e v a.verdict t

    pub readable : Readable l p.receive_pool
    readable = blocks.passes_readable l records p.acks (lengths_of p) long e v a.verdict t p.receive_pool refl

    pub sendable : Sendable l records send p.send_pool
    sendable = record {
      checked = (receive, a.checked t);
      whole = whole_records;
      slots = send_whole (mss l.settings) (lengths_of p) passes.long_enough_lem;
    }

    pub sent : (message : List ℕ) (b : Answer) (l' : Link) (pool' : List ℕ)
        → SendCore (sending (state_of l records p.acks) p.send_pool message) l records p.acks p.send_pool b l' pool'
        → SendPromise message l p b l' (parts_of pool' p.receive_pool p.table p.acks)
    unfolding sends_with
    sent message b l' pool' h =
        send_promised l p records (length p.table) gathered b l' pool' message (rw (passes.long_enough_lem, passes.valid_block) h)

    pub was_read : (buffer : List ℕ) (b : Count) (l' : Link) (buffer' : List ℕ)
        → ReadCore (reading (state_of l records p.acks) p.receive_pool (length buffer)) l records p.acks buffer b l' buffer'
        → ReadPromise l p buffer b l' p buffer'
    unfolding reads_with
    was_read buffer b l' buffer' h =
        read_promised l p records (length p.table) gathered buffer b l' buffer' (rw (passes.long_enough_lem, passes.valid_block) h)

    pub told : (b : Count) → count_outcome b ≡ telling (state_of l records p.acks) → SizePromise l p b
    unfolding tells_with
    told b h = size_promised l p records (length p.table) gathered b (rw (passes.long_enough_lem, passes.valid_block) h)

    pub placed : (r : Place) → PlaceIs (place_of (showing (state_of l records p.acks))) (length p.receive_pool) r
        → PlaceIs (place_of (shows l p)) (length p.receive_pool) r
    unfolding shows_with
    placed r h =
        shows_promised l p records (length p.table) gathered (λ o. PlaceIs (place_of o) (length p.receive_pool) r)
        (rw (passes.long_enough_lem, passes.valid_block) h)
