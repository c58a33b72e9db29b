-- Datagrams taken in by a link as its caller holds it, one after the other. A call is exactly what the public call promises. Definitions.
-- Assumes nothing.
use Rattle.std.specs.Prelude.{◌≡◌, List, [], ◌∷◌, map, ℕ, Err, Ok}
use Rattle.protocol.specs.Ranges.{mss}
use Rattle.protocol.specs.declared.Settings.{Settings}
use Rattle.datagram.specs.Datagrams.{Parsed, parse}
use Rattle.lists.specs.declared.Sent.{Sent}
use Rattle.lists.specs.declared.Acknowledges.{Acknowledges}
use Rattle.control.specs.declared.Link.{Link}
use Rattle.promises.specs.Parts.{Parts, FlushParts, state_in}
use Rattle.promises.specs.Promises.{SendPromise, InputPromise, FlushPromise, UpdatePromise, ReadPromise}
use Rattle.any_order.specs.Numbers.{of_all, numbers_in}
use Rattle.answers.specs.Answers.{Answer, Count, Update}

-- ---- what was heard

-- a datagram given to input, with its answer
pub record Heard : Type 0 where
  pub datagram : List ℕ
  pub answer : Answer

-- the una and ack numbers of a datagram that is accepted; a refused one has none
abbrev pub numbers_parsed : Answer → Parsed → List Acknowledges
numbers_parsed (Ok tt) (Parsed.segments gs) = numbers_in gs
numbers_parsed (Ok tt) (Parsed.refused r) = []
numbers_parsed (Err r) x = []

abbrev pub numbers_one : Settings → Heard → List Acknowledges
numbers_one c h = numbers_parsed h.answer (parse c.conv (mss c) h.datagram)

abbrev pub numbers_heard : Settings → List Heard → List Acknowledges
numbers_heard c = of_all (numbers_one c)

-- ---- what may stand between two datagrams

abbrev pub Between : Type 1
Between = Link → Parts → Link → Parts → Type 0

-- no other call
abbrev pub NoCall : Between
NoCall l p l' p' = ⊥

-- a call other than input and opening, whatever it answers. Telling the size, showing and a check give neither block nor parts back
pub data OtherCall (l : Link) (p : Parts) (l' : Link) (p' : Parts) : Type 0 where
  sends : (message : List ℕ) (a : Answer) → SendPromise message l p a l' p' → OtherCall l p l' p'
  reads : (buffer : List ℕ) (a : Count) (buffer' : List ℕ) → ReadPromise l p buffer a l' p' buffer' → OtherCall l p l' p'
  flushes : (t : ℕ) (f : FlushParts) (a : Count) (f' : FlushParts)
      → FlushPromise t l p f a l' p' f' → OtherCall l p l' p'
  updates : (t : ℕ) (f : FlushParts) (a : Update) (f' : FlushParts)
      → UpdatePromise t l p f a l' p' f' → OtherCall l p l' p'

-- such a call that leaves snd_nxt as it was
pub record NextFixed (l : Link) (p : Parts) (l' : Link) (p' : Parts) : Type 0 where
  pub call : OtherCall l p l' p'
  pub fixed : l'.flight.next ≡ l.flight.next

-- a link l with its parts p was given these datagrams, with these answers, and is then l'' with p''
pub data Hears (between : Between) : Link → Parts → List Heard → Link → Parts → Type 0 where
  start : {l : Link} {p : Parts} → Hears between l p [] l p
  hears : (l : Link) (p : Parts) (d : List ℕ) (a : Answer) (l' : Link) (p' : Parts) {hs : List Heard} {l'' : Link} {p'' : Parts}
      → InputPromise d l p a l' p' → Hears between l' p' hs l'' p'' → Hears between l p (record { datagram = d; answer = a } ∷ hs) l'' p''
  calls : (l : Link) (p : Parts) (l' : Link) (p' : Parts) {hs : List Heard} {l'' : Link} {p'' : Parts}
      → between l p l' p' → Hears between l' p' hs l'' p'' → Hears between l p hs l'' p''

-- ---- the claim

-- the outstanding segments of a block with its parts: the words of the block, with the records of the table
abbrev pub outstanding_in : Link → Parts → List Sent
outstanding_in l p = (state_in l p).sending.outstanding

-- two blocks with their parts have the same snd_una, the same snd_nxt, and the same outstanding segments by what is seen of each
pub record SameInFlight (see : Sent → Sent) (l₁ : Link) (p₁ : Parts) (l₂ : Link) (p₂ : Parts) : Type 0 where
  pub una : l₁.flight.una ≡ l₂.flight.una
  pub next : l₁.flight.next ≡ l₂.flight.next
  pub outstanding : map see (outstanding_in l₁ p₁) ≡ map see (outstanding_in l₂ p₂)

-- their numbers alone
abbrev pub outstanding_numbers : Link → Parts → List ℕ
outstanding_numbers l p = map (λ (x : Sent). x.record.number) (outstanding_in l p)
