-- What each call gives: its refusal, or its result. Every call but opening checks the lent sizes (7), then the block (13), then its own.
-- Assumes nothing.
use Rattle.std.specs.Prelude.{Bool, List, ℕ, length}
use Rattle.protocol.specs.Ranges.{mss}
use Rattle.protocol.specs.declared.Settings.{Settings}
use Rattle.sizes.specs.Sizes.{enough, enough_to_flush}
use Rattle.session.specs.State.{State, Outcome, refused, done, admitted}
use Rattle.session.specs.Opening.{opening}
use Rattle.session.specs.Sending.{Sends, sending}
use Rattle.session.specs.Input.{Took, input}
use Rattle.session.specs.Flushing.{Flushed, flushing}
use Rattle.session.specs.Reading.{Reads, reading, telling, Part, showing}
use Rattle.session.specs.Updating.{Updates, updating, checking}
use Rattle.timing.specs.declared.Record.{Record}
use Rattle.sizes.specs.declared.Lengths.{Lengths}
use Rattle.control.specs.Views.{state_of, block_valid}
use Rattle.control.specs.declared.Link.{Link}
use Rattle.promises.specs.Parts.{Parts, FlushParts, lengths_of, records_of}

-- the lent sizes (7), then the block (13), then the call's own
abbrev pub checked : {A : Type 0} → Bool → Bool → Outcome A → Outcome A
checked = admitted refused

-- ---- by block, records of the outstanding segments, ack list and lent lengths

-- opening checks 12, then 7
abbrev pub opens_with : Settings → Lengths → Outcome State
opens_with c n = opening c n

module _ (l : Link) (records : List Record) (acks : List ℕ) (n : Lengths) where
  -- the sizes and the block, then the call's own
  abbrev pub own_checked : {A : Type 0} → Outcome A → Outcome A
  own_checked own = checked (enough (mss l.settings) n) (block_valid l records acks) own

  unfoldable pub sends_with : List ℕ → List ℕ → Outcome Sends
  sends_with pool message = own_checked (sending (state_of l records acks) pool message)

  unfoldable pub takes_in_with : List ℕ → List ℕ → Outcome Took
  takes_in_with pool datagram = own_checked (input (state_of l records acks) pool datagram)

  -- a flush at t, with output and lengths this long
  unfoldable pub flushes_with : List ℕ → ℕ → ℕ → ℕ → Outcome Flushed
  flushes_with pool output lengths t =
      checked (enough_to_flush (mss l.settings) n output lengths) (block_valid l records acks)
      (done (flushing (state_of l records acks) t pool))

  -- a read into a buffer that long
  unfoldable pub reads_with : List ℕ → ℕ → Outcome Reads
  reads_with pool room = own_checked (reading (state_of l records acks) pool room)

  unfoldable pub tells_with : Outcome ℕ
  tells_with = own_checked (telling (state_of l records acks))

  unfoldable pub shows_with : Outcome Part
  shows_with = own_checked (showing (state_of l records acks))

  -- an update at t: refused as a flush is, whether or not it flushes
  unfoldable pub updates_with : List ℕ → ℕ → ℕ → ℕ → Outcome Updates
  updates_with pool output lengths t =
      checked (enough_to_flush (mss l.settings) n output lengths) (block_valid l records acks)
      (done (updating (state_of l records acks) t pool))

  unfoldable pub checks_with : ℕ → Outcome ℕ
  checks_with t = own_checked (done (checking (state_of l records acks) t))

-- ---- by block and lent parts

abbrev pub opens : Settings → Parts → Outcome State
opens c p = opens_with c (lengths_of p)

abbrev pub sends : Link → Parts → List ℕ → Outcome Sends
sends l p = sends_with l (records_of l p) p.acks (lengths_of p) p.send_pool

abbrev pub takes_in : Link → Parts → List ℕ → Outcome Took
takes_in l p = takes_in_with l (records_of l p) p.acks (lengths_of p) p.receive_pool

abbrev pub flushes : Link → Parts → FlushParts → ℕ → Outcome Flushed
flushes l p f = flushes_with l (records_of l p) p.acks (lengths_of p) p.send_pool (length f.output) (length f.lengths)

abbrev pub reads : Link → Parts → ℕ → Outcome Reads
reads l p = reads_with l (records_of l p) p.acks (lengths_of p) p.receive_pool

abbrev pub tells : Link → Parts → Outcome ℕ
tells l p = tells_with l (records_of l p) p.acks (lengths_of p)

abbrev pub updates : Link → Parts → FlushParts → ℕ → Outcome Updates
updates l p f = updates_with l (records_of l p) p.acks (lengths_of p) p.send_pool (length f.output) (length f.lengths)

abbrev pub checks : Link → Parts → ℕ → Outcome ℕ
checks l p = checks_with l (records_of l p) p.acks (lengths_of p)

abbrev pub shows : Link → Parts → Outcome Part
shows l p = shows_with l (records_of l p) p.acks (lengths_of p)
