-- What one call says of another, the ack list as one list, and an update as a flush or a new current time alone. Definitions.
-- Assumes nothing.
use Rattle.std.specs.Prelude.{◌≡◌, cond, List, [], ◌∷◌, map, ℕ, leb, length, Err, None, Ok, Some}
use Rattle.std.proofs.lemmas.List.Edits.{sets}
use Rattle.protocol.specs.declared.Refusal.TheVariants.{ShortPart}
use Rattle.schedule.specs.declared.Schedule.{Schedule}
use Rattle.session.specs.State.{Ack, Outcome, refused, done, with_times, with_schedule}
use Rattle.session.specs.Input.{Took}
use Rattle.session.specs.Flushing.{bytes_of_segments, flushing}
use Rattle.control.specs.declared.Link.{Link}
use Rattle.promises.specs.Parts.{Parts, FlushParts, state_in, Stands}
use Rattle.promises.specs.Promises.{table_of, WrittenTo}
use Rattle.answers.specs.Answers.{Count, Update}

-- where telling the size answers so, a read into so many bytes answers the same; 7 where they are fewer than that size
abbrev pub read_as : Count → ℕ → Count
read_as (Err r) room = Err r
read_as (Ok n) room = cond (leb n room) (Ok n) (Err ShortPart)

-- the entries of noted acks: sn then ts
unfoldable pub entries_of : List Ack → List ℕ
entries_of [] = []
entries_of (a ∷ l) = a.sn ∷ a.ts ∷ entries_of l

-- the ack list after a datagram: the acks then noted at its start, and as it was beyond them; refused, as it was
abbrev pub acks_after : Outcome Took → List ℕ → List ℕ
acks_after (refused r) acks = acks
acks_after (done x) acks = sets acks 0 (entries_of x.state.receiving.acks)

-- ---- an update

-- a flush at t of the same block and parts, but that the next flush time, and that an update was made, are the schedule's
pub record AsFlush (t : ℕ) (l : Link) (p : Parts) (f : FlushParts) (n : ℕ) (l' : Link) (p' : Parts) (f' : FlushParts) : Type 0 where
  pub count : n ≡ length (flushing (state_in l p) t p.send_pool).datagrams
  pub schedule : Schedule
  pub stands : Stands l' p' (with_schedule (flushing (state_in l p) t p.send_pool).state schedule)
  pub send_pool : p'.send_pool ≡ p.send_pool
  pub receive_pool : p'.receive_pool ≡ p.receive_pool
  pub table : p'.table ≡ table_of p.table (flushing (state_in l p) t p.send_pool).state
  pub acks : p'.acks ≡ p.acks
  pub output : WrittenTo (map bytes_of_segments (flushing (state_in l p) t p.send_pool).datagrams) n f f'

-- the current time alone
pub record CurrentAlone (t : ℕ) (l : Link) (p : Parts) (f : FlushParts) (l' : Link) (p' : Parts) (f' : FlushParts) : Type 0 where
  pub stands : Stands l' p' (with_times (state_in l p) t (state_in l p).schedule)
  pub parts : p' ≡ p
  pub flush_parts : f' ≡ f

-- by the answer
abbrev pub Treated : ℕ → Link → Parts → FlushParts → Update → Link → Parts → FlushParts → Type 0
Treated t l p f (Ok None) l' p' f' = CurrentAlone t l p f l' p' f'
Treated t l p f (Ok (Some n)) l' p' f' = AsFlush t l p f n l' p' f'
Treated t l p f (Err r) l' p' f' = Unit {0}
