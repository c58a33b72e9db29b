-- What the checks of a call say: refusal 7, then 13, or the marks of the slots held. Definitions.
-- Assumes nothing.
use Rattle.std.specs.Prelude.{◌≡◌, Bool, true, cond, ◌&&◌, List, ℕ, length, take, Err, Ok}
use Rattle.protocol.specs.declared.Refusal.TheVariants.{ShortPart, InvalidBlock}
use Rattle.timing.specs.declared.Record.{Record}
use Rattle.session.specs.State.{send_held, receive_held, slots}
use Rattle.marks.specs.Marks.{Free}
use Rattle.control.specs.declared.Link.{Link}
use Rattle.control.specs.Views.{state_of, block_valid}
use Rattle.checking.specs.Tests.{flight_fits}
use Rattle.answers.specs.Answers.{Answer}

-- 13 is given exactly where the block is not valid; else the marks tell the free slots of both pools
pub record Checked (l : Link) (records : List Record) (send receive : List ℕ) (r : Bool) : Type 0 where
  pub send_whole : length send ≡ 128
  pub receive_whole : length receive ≡ 256
  pub fits : (acks : List ℕ) → r ≡ block_valid l records acks
  pub send_free : (acks : List ℕ) → r ≡ true → Free send (slots (send_held (state_of l records acks).sending)) 0
  pub receive_free : (acks : List ℕ) → r ≡ true → Free receive (slots (receive_held (state_of l records acks).receiving)) 0

-- `flown` tells whether these 32 records fit, of which the first are the outstanding segments'
pub record Flown (l : Link) (records : List Record) (flown : Bool) : Type 0 where
  pub whole : length records ≡ 32
  pub fits : flown ≡ flight_fits l.settings.mode l.flight.una l.flight.next (take l.flight.outstanding records)

-- so it is for whatever records `flown` tells of
abbrev pub ByFlown : Link → Bool → (List Record → Type 0) → Type 0
ByFlown l flown holds = (records : List Record) → Flown l records flown → holds records

-- there are such records
abbrev pub Flies : Link → Bool → Type 0
Flies l flown = (records : List Record) × Flown l records flown

-- the lent sizes, then the block
abbrev pub verdict_of : Bool → Bool → Answer
verdict_of long made = cond long (cond made (Ok tt) (Err InvalidBlock)) (Err ShortPart)

-- the verdict of both, and what is known of a block that passed
pub record Admitted (long : Bool) (l : Link) (records : List Record) (send receive : List ℕ) (v : Answer) : Type 0 where
  pub verdict : (acks : List ℕ) → v ≡ verdict_of long (block_valid l records acks)
  pub checked : v ≡ Ok tt → Checked l records send receive true

-- ---- a block that is sound: all but the records of its outstanding segments is as 13 asks

-- with the records that `flown` tells of it is 13, and where they pass the marks tell the free slots of both pools
abbrev pub Sound : Link → List ℕ → List ℕ → Bool → Type 0
Sound l send receive sound = (flown : Bool) → ByFlown l flown (λ records. Checked l records send receive (sound && flown))

-- the marks of one pool, or of none, are handed on
abbrev pub SendMarked : Link → List ℕ → Bool → Type 0
SendMarked l send sound = (receive : List ℕ) × Sound l send receive sound

abbrev pub ReceiveMarked : Link → List ℕ → Bool → Type 0
ReceiveMarked l receive sound = (send : List ℕ) × Sound l send receive sound

abbrev pub Sounds : Link → Bool → Type 0
Sounds l sound = (send : List ℕ) × SendMarked l send sound
