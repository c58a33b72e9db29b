-- What taking in, a flush and an update have left before the records of the outstanding segments are put back into the table: the promise's
-- own outcome, and arrays that have their lengths. Definitions.
-- Assumes nothing.
use Rattle.std.specs.Prelude.{List, ℕ}
use Rattle.control.specs.Views.{Whole, arrays_of}
use Rattle.control.specs.declared.Link.{Link}
use Rattle.promises.specs.Parts.{Parts, FlushParts, records_of}
use Rattle.promises.specs.Outcomes.{takes_in, flushes, updates}
use Rattle.promises.specs.Cores.{PutBack, InputCore, FlushCore, UpdateCore}
use Rattle.answers.specs.Answers.{Answer, Count, Update}

pub record InputLeft (datagram : List ℕ) (l : Link) (p : Parts) (a : Answer) (b : PutBack) (l' : Link) (pool' acks' : List ℕ) : Type 0 where
  pub core : InputCore (takes_in l p datagram) l p.receive_pool p.acks a l' b pool' acks'
  pub whole : Whole (arrays_of l')

pub record FlushLeft (t : ℕ) (l : Link) (p : Parts) (f : FlushParts) (a : Count) (b : PutBack) (l' : Link) (f' : FlushParts) : Type 0 where
  pub core : FlushCore (flushes l p f t) l (records_of l p) p.acks f.output f.lengths a l' b f'.output f'.lengths
  pub whole : Whole (arrays_of l')

pub record UpdateLeft (t : ℕ) (l : Link) (p : Parts) (f : FlushParts) (a : Update) (b : PutBack) (l' : Link) (f' : FlushParts) : Type 0
  where
    pub core :
        UpdateCore (updates l p f t) l (records_of l p) p.acks f.output f.lengths a l' b f'.output f'.lengths
    pub whole : Whole (arrays_of l')
