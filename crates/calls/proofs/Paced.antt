-- From what the core leaves, paced or not, to what is left before the records are put back, and to what the call promises.
-- Assumes nothing.
use mathlib.Core.Path.{◌≡◌}
use mathlib.Core.Bool.{Bool, true, false}
use mathlib.Core.List.{List}
use Prim.Native.Nat.{ℕ}
use lib.ListN.{length}
use Rattle.timing.specs.declared.Record.{Record}
use Rattle.control.specs.Views.{Whole, arrays_of}
use Rattle.control.specs.declared.Link.{Link}
use Rattle.records.specs.Tables.{slots_in, scattered}
use Rattle.promises.specs.Parts.{Parts, FlushParts, parts_of}
use Rattle.promises.specs.Cores.{PutBack}
use Rattle.from_cores.proofs.Gathered.{Gathers}
use Rattle.from_cores.proofs.Flushing.{flush_left, flush_promised}
use Rattle.from_cores.proofs.Updating.{update_left, update_promised}
use Rattle.flush_core.specs.Flushes.{Core}
use Rattle.calls.specs.Written.{Left, WrittenOut}
use Rattle.answers.specs.Answers.{Update}

-- the records of the table, gathered
pub left : (paced : Bool) (t : ℕ) (l : Link) (p : Parts) (f : FlushParts) (a : Update) (b : PutBack) (l' : Link)
    (f' : FlushParts) (records : List Record) (n : ℕ) → Gathers l p records n → Whole (arrays_of l')
    → Core paced l records n p.send_pool p.receive_pool p.acks t f.output f.lengths a l' b f'.output f'.lengths
    → Left paced t l p f a b l' f'
left false t l p f a b l' f' records n g whole h = (h.0, h.1, flush_left t l p f h.0 b l' f' records n g whole h.2)
left true t l p f a b l' f' records n g whole h = update_left t l p f a b l' f' records n g whole h

-- and those put back
pub promised : (paced : Bool) (t : ℕ) (l : Link) (p : Parts) (f : FlushParts) (a : Update) (b : PutBack) (l' : Link) (f' : FlushParts)
    (table' : List Record) → length b.records ≡ 32 → table' ≡ scattered p.table (slots_in b.words b.changed) b.records
    → Left paced t l p f a b l' f' → WrittenOut paced t l p f a l' (parts_of p.send_pool p.receive_pool table' p.acks) f'
promised false t l p f a b l' f' table' few put h = (h.0, h.1, flush_promised t l p f h.0 b l' f' table' few put h.2)
promised true t l p f a b l' f' table' few put h = update_promised t l p f a b l' f' table' few put h
