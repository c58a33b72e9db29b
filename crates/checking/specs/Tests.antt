-- What the check of a control block asks of its words, numbers and records, as the code takes it. Definitions.
-- Assumes nothing.
use Rattle.std.specs.Prelude.{◌≡◌, Bool, true, false, cond, not, ◌&&◌, ◌||◌, List, [], ◌∷◌, ◌++◌}
use Rattle.std.specs.Prelude.{ℕ, ◌+◌, ◌-◌, ◌%◌, ◌^◌, leb, ltb, eqb, length, get_or, map, Some, None}
use Rattle.std.specs.declared.option.Option.{Option}
use Rattle.protocol.specs.Protocol.{send_slots, send_window, receive_window, dead_after, skips_most}
use Rattle.protocol.specs.Ranges.{in_range, mss}
use Rattle.protocol.specs.Serial.{minus}
use Rattle.protocol.specs.declared.Settings.{Settings}
use Rattle.congestion.specs.Congestions.{fits}
use Rattle.timing.specs.declared.Record.{Record}
use Rattle.slots.specs.Slots.{slots_of, once}
use Rattle.session.specs.Valid.{all, held_fits, timeout_fits, round_trip_fits, probe_fits}
use Rattle.words.specs.Words.{unpack}
use Rattle.marks.specs.Marks.{none, none_to_send, marked_all}
use Rattle.control.specs.declared.Flight.{Flight}
use Rattle.control.specs.declared.Arrival.{Arrival}
use Rattle.control.specs.declared.Clock.{Clock}
use Rattle.control.specs.Views.{counted}

-- ---- one word, and its transmissions

abbrev pub word_fits : ℕ → ℕ → Bool
word_fits mss w = held_fits mss (unpack w)

abbrev pub send_word_fits : ℕ → ℕ → Bool
send_word_fits mss w = held_fits mss (unpack w) && ltb (w % 256) send_slots

abbrev pub sent_few : ℕ → Bool
sent_few transmissions = leb transmissions dead_after

-- ---- waiting numbers

-- b - a, modulo 2^32, whatever a is
abbrev pub ahead : ℕ → ℕ → ℕ
ahead a b = (b + (2 ^ 32 - a % 2 ^ 32)) % 2 ^ 32

-- b is 1 to 127 after a
abbrev pub follows : ℕ → ℕ → Bool
follows a b = leb 1 (ahead a b) && leb (ahead a b) 127

unfoldable pub neighbours : List ℕ → Bool
neighbours [] = true
neighbours (a ∷ []) = true
neighbours (a ∷ b ∷ l) = follows a b && neighbours (b ∷ l)

abbrev pub ends_fit : ℕ → ℕ → ℕ → ℕ → Bool
ends_fit first last expected ready =
    ltb (minus first expected) receive_window && ltb (minus last expected) receive_window
    && not (eqb (minus first expected) 0 && ltb ready receive_window)

abbrev pub ahead_fits : ℕ → ℕ → List ℕ → Bool
ahead_fits expected ready numbers =
    cond (eqb (length numbers) 0) true
    (ends_fit (get_or numbers 0 0) (get_or numbers (length numbers - 1) 0) expected ready && neighbours numbers)

-- ---- what is no list

abbrev pub numbers_fit : Settings → Flight → Arrival → Clock → Bool
numbers_fit s f a k =
    counted f a && in_range s && round_trip_fits s.mode f.rtt && probe_fits k.probe && fits f.congestion (mss s)

-- ---- records of outstanding segments

abbrev pub record_fits : ℕ → Record → Bool
record_fits mode r = leb r.skips skips_most && timeout_fits mode r.timeout

-- numbers ascend from una, the first at least `least` after it, each less than `limit`
unfoldable pub records_fit : ℕ → ℕ → ℕ → ℕ → List Record → Bool
records_fit mode una limit least [] = true
records_fit mode una limit least (r ∷ l) =
    leb least (minus r.number una) && ltb (minus r.number una) limit && record_fits mode r
    && records_fit mode una limit (minus r.number una + 1) l

unfoldable pub first_of : List Record → ℕ → ℕ
first_of [] other = other
first_of (r ∷ l) other = r.number

abbrev pub flight_fits : ℕ → ℕ → ℕ → List Record → Bool
flight_fits mode una next l = leb (minus next una) send_window && eqb (first_of l next) una && records_fit mode una (minus next una) 0 l

-- the same in one pass, which carries the least offset from una that the next number may have: 0 at first, where the number is una
abbrev pub fits_after : ℕ → ℕ → ℕ → ℕ → Record → Bool
fits_after mode una next least r =
    (ltb 0 least || eqb r.number una) && leb least (minus r.number una) && ltb (minus r.number una) (minus next una) && record_fits mode r

-- none behind a record that does not fit
abbrev pub least_after : ℕ → ℕ → ℕ → ℕ → Record → Option ℕ
least_after mode una next least r = cond (fits_after mode una next least r) (Some (minus r.number una + 1)) None

unfoldable pub least_after_all : ℕ → ℕ → ℕ → ℕ → List Record → Option ℕ
least_after_all mode una next least [] = Some least
least_after_all mode una next least (r ∷ l) =
    cond (fits_after mode una next least r) (least_after_all mode una next (minus r.number una + 1) l) None

-- past one record more: none, from one that does not fit on
abbrev pub carried_after : ℕ → ℕ → ℕ → Option ℕ → Record → Option ℕ
carried_after mode una next None r = None
carried_after mode una next (Some least) r = least_after mode una next least r

-- what is carried in the end tells whether all fit
abbrev pub flown_by : ℕ → ℕ → Option ℕ → Bool
flown_by una next None = false
flown_by una next (Some least) = leb (minus next una) send_window && (ltb 0 least || eqb next una)

-- ---- the segments of a half, and the marks left

abbrev pub send_slots_in : List ℕ → List ℕ → List ℕ
send_slots_in queued outstanding = slots_of (map unpack outstanding) ++ slots_of (map unpack queued)

abbrev pub sending_fits : ℕ → List ℕ → List ℕ → List ℕ → Bool
sending_fits mss queued outstanding transmissions =
    all (send_word_fits mss) queued && all (send_word_fits mss) outstanding && all sent_few transmissions
    && once (send_slots_in queued outstanding)

pub record SendingFits (mss : ℕ) (queued outstanding transmissions : List ℕ) (marks : List ℕ) (r : Bool) : Type 0 where
  pub whole : length marks ≡ 128
  pub fits : r ≡ sending_fits mss queued outstanding transmissions
  pub marked : r ≡ true → marks ≡ marked_all none_to_send (send_slots_in queued outstanding)

abbrev pub receive_slots_in : List ℕ → List ℕ → List ℕ
receive_slots_in ready waiting = slots_of (map unpack ready) ++ slots_of (map unpack waiting)

-- the slots of words are `from` and those after it, in order
unfoldable pub in_line : ℕ → List ℕ → Bool
in_line from [] = true
in_line from (w ∷ l) = eqb (w % 256) from && in_line (from + 1) l

-- the slots of both lists are marked; r tells whether none is held twice
pub record HeldOnce (ready waiting : List ℕ) (marks : List ℕ) (r : Bool) : Type 0 where
  pub whole : length marks ≡ 256
  pub marked : marks ≡ marked_all none (receive_slots_in ready waiting)
  pub held : r ≡ once (receive_slots_in ready waiting)

abbrev pub receiving_fits : ℕ → ℕ → List ℕ → List ℕ → List ℕ → Bool
receiving_fits mss expected ready waiting numbers =
    once (receive_slots_in ready waiting)
    && (all (word_fits mss) ready && all (word_fits mss) waiting && ahead_fits expected (length ready) numbers)

pub record ReceivingFits (mss expected : ℕ) (ready waiting numbers : List ℕ) (marks : List ℕ) (r : Bool) : Type 0 where
  pub whole : length marks ≡ 256
  pub fits : r ≡ receiving_fits mss expected ready waiting numbers
  pub marked : r ≡ true → marks ≡ marked_all none (receive_slots_in ready waiting)
