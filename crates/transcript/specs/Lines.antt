-- The answers of a replay, line by line. Definitions.
-- Assumes nothing.
use Rattle.std.specs.Prelude.{cond, List, [], ◌∷◌, ◌++◌, ℕ, leb, eqb, length, get_or, take, drop, Err, Ok}
use Rattle.protocol.specs.Refusals.{number_of}
use Rattle.protocol.specs.declared.Refusal.{Refusal}
use Rattle.timing.specs.declared.Record.{Record}
use Rattle.lists.specs.declared.Held.{Held}
use Rattle.lists.specs.declared.Outstanding.{Outstanding}
use Rattle.lists.specs.declared.Waiting.{Waiting}
use Rattle.words.specs.Words.{held_in, outstanding_in, waiting_in}
use Rattle.control.specs.declared.Link.{Link}
use Rattle.notation.specs.Ascii.{ascii}
use Rattle.notation.specs.Decimal.{decimal}
use Rattle.notation.specs.Hex.{bytes_word}
use Rattle.answers.specs.Answers.{Answer, Count, Time}

abbrev pub newline : ℕ
newline = 10

-- ---- answers of the calls

-- a word, and a number behind it
unfoldable pub number_line : List ℕ → ℕ → List ℕ
number_line word n = word ++ decimal n ++ (newline ∷ [])

-- a word, and bytes behind it
unfoldable pub bytes_line : List ℕ → List ℕ → List ℕ
bytes_line word s = word ++ bytes_word s ++ (newline ∷ [])

unfoldable pub refusal_line : Refusal → List ℕ
refusal_line r = number_line (ascii "refused ") (number_of r)

-- of opening, sending and taking in
unfoldable pub answer_line : Answer → List ℕ
answer_line (Ok tt) = ascii "ok\n"
answer_line (Err r) = refusal_line r

-- of a flush, behind its datagrams, and of telling the size
unfoldable pub count_line : Count → List ℕ
count_line (Ok n) = number_line (ascii "ok ") n
count_line (Err r) = refusal_line r

-- of a check
unfoldable pub time_line : Time → List ℕ
time_line (Ok t) = number_line (ascii "ok ") t
time_line (Err r) = refusal_line r

-- a line for each datagram of these lengths, which stand one behind the other; none from the first that is not there whole
unfoldable pub datagram_lines : List ℕ → List ℕ → List ℕ
datagram_lines packed [] = []
datagram_lines packed (n ∷ ns) =
    cond (leb n (length packed)) (bytes_line (ascii "datagram ") (take n packed) ++ datagram_lines (drop n packed) ns) []

-- ---- the state of a link

-- a text for each element, one behind the other
abbrev pub each : {A : Type 0} → (A → List ℕ) → List A → List ℕ
each f [] = []
each f (x ∷ l) = f x ++ each f l

-- numbers, with a space in front of each
abbrev pub cell : ℕ → List ℕ
cell n = ascii " " ++ decimal n

abbrev pub row : List ℕ → List ℕ
row = each cell

-- 1 for a flag that is set
abbrev pub flag_of : ℕ → ℕ
flag_of x = cond (eqb x 0) 0 1

-- snd_una snd_nxt rcv_nxt current peer_window srtt rttvar rto probe_wait probe_due ask tell dead acks queued outstanding
-- ready waiting next_flush updated cwnd ssthresh incr
abbrev pub state_numbers : Link → List ℕ
state_numbers l =
    l.flight.una ∷ l.flight.next ∷ l.arrival.expected ∷ l.clock.current ∷ l.flight.window
    ∷ l.flight.rtt.smoothed ∷ l.flight.rtt.variation ∷ l.flight.rtt.timeout ∷ l.clock.probe.wait ∷ l.clock.probe.due
    ∷ flag_of l.clock.ask ∷ flag_of l.arrival.tell ∷ flag_of l.clock.dead ∷ l.arrival.acks
    ∷ l.flight.queued ∷ l.flight.outstanding ∷ l.arrival.ready ∷ l.arrival.waiting
    ∷ l.clock.next_flush ∷ flag_of l.clock.updated
    ∷ l.flight.congestion.window ∷ l.flight.congestion.threshold ∷ l.flight.congestion.allowance ∷ []

unfoldable pub state_line : Link → List ℕ
state_line l = ascii "state" ++ row (state_numbers l) ++ (newline ∷ [])

-- ---- the segments that it holds

-- a letter for the list, and the segment's numbers
unfoldable pub entry : ℕ → List ℕ → List ℕ
entry letter ns = ascii " " ++ (letter ∷ []) ++ row ns

abbrev pub held_entry : ℕ → Held → List ℕ
held_entry letter h = entry letter (h.slot ∷ h.len ∷ h.fragment ∷ [])

-- the record at a slot; a blank one where there is none
abbrev pub record_at : List Record → ℕ → Record
record_at table slot = get_or table slot (record { number = 0; due = 0; timeout = 0; skips = 0 })

-- an outstanding segment with its record
abbrev pub sent_entry : Outstanding → Record → List ℕ
sent_entry o r =
    entry 111 (o.held.slot ∷ o.held.len ∷ o.held.fragment ∷ o.transmissions ∷ r.number ∷ r.due ∷ r.timeout ∷ r.skips ∷ [])

abbrev pub outstanding_entry : List Record → Outstanding → List ℕ
outstanding_entry table o = sent_entry o (record_at table o.held.slot)

abbrev pub waiting_entry : Waiting → List ℕ
waiting_entry w = entry 119 (w.number ∷ w.held.slot ∷ w.held.len ∷ w.held.fragment ∷ [])

-- queued (q), outstanding (o), ready (r) and waiting (w), each list in its own order
unfoldable pub held_line : Link → List Record → List ℕ
held_line l table =
    ascii "held"
    ++ each (held_entry 113) (held_in l.queued l.flight.queued)
    ++ each (outstanding_entry table) (outstanding_in l.outstanding l.transmissions l.flight.outstanding)
    ++ each (held_entry 114) (held_in l.ready l.arrival.ready)
    ++ each waiting_entry (waiting_in l.waiting l.waiting_numbers l.arrival.waiting)
    ++ (newline ∷ [])
