-- Reading over the parts of a block: before the checks of 7 and 13, and behind them. Definitions.
-- Assumes nothing.
use Rattle.std.specs.Prelude.{◌≡◌, true, List, ℕ, ◌<◌, ◌^◌, length, Err, Ok}
use Rattle.protocol.specs.Ranges.{mss}
use Rattle.protocol.specs.declared.Refusal.{Refusal}
use Rattle.timing.specs.declared.Record.{Record}
use Rattle.session.specs.State.{Outcome, refused, done}
use Rattle.words.specs.Words.{held_in}
use Rattle.control.specs.Views.{counts_fit}
use Rattle.control.specs.declared.Arrival.{Arrival}
use Rattle.control.specs.declared.Link.{Link}
use Rattle.promises.specs.Parts.{lent_lengths}
use Rattle.promises.specs.Outcomes.{reads_with}
use Rattle.promises.specs.Cores.{ReadCore}
use Rattle.deliver.specs.Messages.{InPool, Taken}
use Rattle.answers.specs.Answers.{Count}

-- reading, with the lent parts: l is the block before, l' the one after
abbrev pub ReadOver : Link → List Record → ℕ → List ℕ → List ℕ → List ℕ → List ℕ → Count → Link → List ℕ → Type 0
ReadOver l records table send_pool receive_pool acks buffer a l' buffer' =
    ReadCore (reads_with l records acks (lent_lengths table send_pool receive_pool acks) receive_pool (length buffer)) l records acks buffer a l'
    buffer'

-- what the checks of 7 and 13 have established
pub record Readable (l : Link) (pool : List ℕ) : Type 0 where
  pub counts : counts_fit l ≡ true
  pub mss_low : mss l.settings < 2 ^ 16
  pub inside : InPool (mss l.settings) pool (held_in l.ready l.arrival.ready)

-- a refusal: its number alone, the very half and buffer
pub record NotRead (q : Refusal) (a : Arrival) (ready waiting numbers buffer : List ℕ) (answer : Count) (r : Arrival)
    (ready' waiting' numbers' buffer' : List ℕ) : Type 0 where
  pub answered : answer ≡ Err q
  pub arrival : r ≡ a
  pub ready_same : ready' ≡ ready
  pub waiting_same : waiting' ≡ waiting
  pub numbers_same : numbers' ≡ numbers
  pub bytes_same : buffer' ≡ buffer

-- by the size of the message, where there is room for it
abbrev pub ReadMessage : Outcome ℕ → Arrival → ℕ → List ℕ → List ℕ → List ℕ → List ℕ → List ℕ → Count → Arrival → List ℕ
    → List ℕ → List ℕ
    → List ℕ → Type 0
ReadMessage (refused q) a m ready waiting numbers pool buffer answer r ready' waiting' numbers' buffer' =
    NotRead q a ready waiting numbers buffer answer r ready' waiting' numbers' buffer'
ReadMessage (done n) a m ready waiting numbers pool buffer answer r ready' waiting' numbers' buffer' =
    (answer ≡ Ok n) × Taken a m ready waiting numbers pool buffer r ready' waiting' numbers' buffer'

-- what reading does not touch, past the counts too: all but the receiving half's numbers, and its ready and waiting segments
pub record ReadKeeps (l l' : Link) : Type 0 where
  pub settings : l'.settings ≡ l.settings
  pub flight : l'.flight ≡ l.flight
  pub clock : l'.clock ≡ l.clock
  pub queued : l'.queued ≡ l.queued
  pub outstanding : l'.outstanding ≡ l.outstanding
  pub transmissions : l'.transmissions ≡ l.transmissions
