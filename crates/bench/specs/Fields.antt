-- The numbers of a link and of what it is lent, by the numbers that the commands of a script have for them. Definitions.
-- Assumes nothing.
use Rattle.std.specs.Prelude.{◌≡◌, false, cond, List, [], ◌∷◌, ◌++◌, map, ℕ, ◌%◌, ◌≤◌, ◌<◌, eqb, length, get_or, set, replicate}
use Rattle.std.proofs.lemmas.List.Edits.{sets}
use Rattle.lists.specs.declared.Held.{Held}
use Rattle.lists.specs.declared.Outstanding.{Outstanding}
use Rattle.lists.specs.declared.Waiting.{Waiting}
use Rattle.protocol.specs.declared.Settings.{Settings}
use Rattle.words.specs.Words.{unpack, paired, outstanding_at, waiting_at}
use Rattle.control.specs.Views.{arrays_of}
use Rattle.control.specs.declared.Link.{Link}
use Rattle.bench.specs.declared.Lent.{Lent}
use Rattle.bench.specs.declared.Bench.{Bench}

-- ---- the bench

-- 0 send pool 1 receive pool 2 records 3 ack list 4 output 5 lengths
abbrev pub counts_of : Lent → List ℕ
counts_of l = l.send ∷ l.receive ∷ l.records ∷ l.acks ∷ l.output ∷ l.lengths ∷ []

-- not opened, every part lent whole, every record zero
pub record IsNew (b : Bench) : Type 0 where
  pub unopened : b.opened ≡ false
  pub stale : b.fresh ≡ false
  pub whole : counts_of b.lent ≡ replicate 6 4294967295
  pub zero : b.table ≡ replicate 128 (record { number = 0; due = 0; timeout = 0; skips = 0 })

-- ---- fields of the control block

-- what is stored of a value: all of it, its low 16 or 8 bits, or a flag
abbrev pub whole : ℕ → ℕ
whole v = v

abbrev pub low16 : ℕ → ℕ
low16 v = v % 65536

abbrev pub low8 : ℕ → ℕ
low8 v = v % 256

abbrev pub flag : ℕ → ℕ
flag v = cond (eqb v 0) 0 1

-- 0 conv 1 mtu 2 mode 3 interval 4 threshold
abbrev pub settings_of : Settings → List ℕ
settings_of s = s.conv ∷ s.mtu ∷ s.mode ∷ s.interval ∷ s.threshold ∷ []

-- 0 to 4 the settings 5 snd_una 6 snd_nxt 7 rcv_nxt 8 current 9 peer_window 10 srtt 11 rttvar 12 rto 13 probe_wait 14 probe_due
-- 15 ask 16 tell 17 dead 18 acks 19 stream 20 congestion 21 next_flush 22 updated 23 cwnd 24 ssthresh 25 incr
abbrev pub fields_of : Link → List ℕ
fields_of l =
    settings_of l.settings
    ++ l.flight.una ∷ l.flight.next ∷ l.arrival.expected ∷ l.clock.current ∷ l.flight.window
    ∷ l.flight.rtt.smoothed ∷ l.flight.rtt.variation ∷ l.flight.rtt.timeout
    ∷ l.clock.probe.wait ∷ l.clock.probe.due ∷ l.clock.ask ∷ l.arrival.tell ∷ l.clock.dead ∷ l.arrival.acks
    ∷ l.settings.stream ∷ l.settings.congestion ∷ l.clock.next_flush ∷ l.clock.updated
    ∷ l.flight.congestion.window ∷ l.flight.congestion.threshold ∷ l.flight.congestion.allowance ∷ []

abbrev pub IsField : ℕ → Type 0
IsField field = field ≤ 25

-- what each field stores
abbrev pub widths : List (ℕ → ℕ)
widths =
    whole ∷ low16 ∷ low8 ∷ low16 ∷ low8
    ∷ whole ∷ whole ∷ whole ∷ whole ∷ low16
    ∷ whole ∷ whole ∷ whole
    ∷ whole ∷ whole ∷ flag ∷ flag ∷ flag ∷ whole
    ∷ low8 ∷ low8 ∷ whole ∷ flag ∷ whole ∷ whole ∷ whole ∷ []

abbrev pub stored : ℕ → ℕ → ℕ
stored field value = get_or widths field whole value

-- how many each list holds: 0 queued 1 outstanding 2 ready 3 waiting
abbrev pub holds : Link → List ℕ
holds l = l.flight.queued ∷ l.flight.outstanding ∷ l.arrival.ready ∷ l.arrival.waiting ∷ []

-- a field has another value
pub record Poked (l : Link) (field value : ℕ) (r : Link) : Type 0 where
  pub fields : fields_of r ≡ set (fields_of l) field (stored field value)
  pub counts : holds r ≡ holds l
  pub lists : arrays_of r ≡ arrays_of l

-- snd_una and snd_nxt are snd, rcv_nxt is rcv
pub record Jumped (l : Link) (snd rcv : ℕ) (r : Link) : Type 0 where
  pub fields : fields_of r ≡ sets (fields_of l) 5 (snd ∷ snd ∷ rcv ∷ [])
  pub counts : holds r ≡ holds l
  pub lists : arrays_of r ≡ arrays_of l

-- ---- fields of the segments that it holds

-- 0 slot 1 len 2 frg
abbrev pub held_fields : Held → List ℕ
held_fields h = h.slot ∷ h.len ∷ h.fragment ∷ []

-- and 3 transmissions
abbrev pub outstanding_fields : Outstanding → List ℕ
outstanding_fields o = held_fields o.held ++ (o.transmissions ∷ [])

-- and 3 number
abbrev pub waiting_fields : Waiting → List ℕ
waiting_fields w = held_fields w.held ++ (w.number ∷ [])

-- the segments of each list: 0 queued 1 outstanding 2 ready 3 waiting
abbrev pub segments_of : Link → List (List (List ℕ))
segments_of l =
    map (λ w. held_fields (unpack w)) l.queued
    ∷ map outstanding_fields (paired outstanding_at l.outstanding l.transmissions)
    ∷ map (λ w. held_fields (unpack w)) l.ready
    ∷ map waiting_fields (paired waiting_at l.waiting l.waiting_numbers) ∷ []

-- what each field stores, list by list
abbrev pub three_widths : List (ℕ → ℕ)
three_widths = low8 ∷ low16 ∷ low8 ∷ []

abbrev pub held_widths : List (List (ℕ → ℕ))
held_widths = three_widths ∷ (three_widths ++ (low8 ∷ [])) ∷ three_widths ∷ (three_widths ++ (whole ∷ [])) ∷ []

abbrev pub stored_in : ℕ → ℕ → ℕ → ℕ
stored_in list field value = get_or (get_or held_widths list []) field whole value

-- segments of the list have the field
abbrev pub HasField : ℕ → ℕ → Type 0
HasField list field = field < length (get_or held_widths list [])

-- a field of the segment at an index has another value
abbrev pub changed : List (List ℕ) → ℕ → ℕ → ℕ → List (List ℕ)
changed segments index field v = set segments index (set (get_or segments index []) field v)

-- the word at an index is one whose segment has another value in a field; past the end none changes
pub record Reworded (list : List ℕ) (index field value : ℕ) (r : List ℕ) : Type 0 where
  pub word : ℕ
  pub is : r ≡ set list index word
  pub fields : index < length list → field < 3
      → held_fields (unpack word) ≡ set (held_fields (unpack (get_or list index 0))) field (stored_in 0 field value)

-- a field of the segment at an index of a list has another value
pub record HeldChanged (l : Link) (list index field value : ℕ) (r : Link) : Type 0 where
  pub segments : segments_of r ≡ set (segments_of l) list (changed (get_or (segments_of l) list []) index field (stored_in list field value))
  pub counts : holds r ≡ holds l
  pub fields : fields_of r ≡ fields_of l
