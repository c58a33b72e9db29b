-- What a core left, put back into the table: the block stands for the core's state in the new table, which is the one that the
-- call promises.
-- Assumes nothing.
use mathlib.Core.Path.{◌≡◌, refl, sym, ap, ◌∙◌}
use mathlib.Core.Bool.{true}
use mathlib.Core.List.{List, [], ◌∷◌, map}
use Prim.Native.Nat.{ℕ, zero, suc, ◌≤◌, ◌%◌, min}
use native.Mathlib.Omega.{arith}
use lib.ListN.{length, take, drop, get_or, length-map, length-take, take-append-drop}
use lib.Seq.{get_or-take, set-get_or}
use Rattle.protocol.specs.Protocol.{send_slots}
use Rattle.timing.specs.declared.Record.{Record}
use Rattle.lists.specs.Joining.{joined}
use Rattle.lists.specs.JoiningLaws.{joined_records}
use Rattle.lists.specs.declared.Sent.{Sent}
use Rattle.lists.specs.declared.Outstanding.{Outstanding}
use Rattle.session.specs.State.{State}
use Rattle.session.specs.Decides.{All}
use Rattle.words.specs.Words.{paired, outstanding_at, outstanding_in}
use Rattle.control.specs.Views.{Whole, arrays_of, state_of, counts_fit}
use Rattle.control.specs.ViewLaws.{counts}
use Rattle.control.specs.declared.Link.{Link}
use Rattle.records.specs.Tables.{blank, slots_in, gathered, scattered}
use Rattle.records.specs.TableLaws.{NoneTwice, AllBelow, gathered_scattered, scattered_append}
use Rattle.promises.specs.Parts.{Parts, outstanding_slots, parts_of, state_in, Stands}
use Rattle.promises.specs.Promises.{table_of}
use Rattle.promises.specs.Cores.{PutBack, PutsNothing, PutsAll}
use Rattle.from_cores.proofs.Gathered.{state_joined}

-- the slots of a state's outstanding segments
abbrev pub slots_of : State → List ℕ
slots_of s = map (λ (x : Sent). x.held.slot) s.sending.outstanding

-- each is below 128, and none stands twice
pub record SlotsFit (l : List ℕ) : Type 0 where
  pub once : NoneTwice l
  pub below : AllBelow send_slots l

-- ---- segments joined to records

abbrev held_slots : List Outstanding → List ℕ
held_slots = map (λ (o : Outstanding). o.held.slot)

joined_slots : (l : List Outstanding) (rs : List Record) → length l ≤ length rs
    → map (λ (x : Sent). x.held.slot) (joined l rs) ≡ held_slots l
unfolding joined
joined_slots [] rs h = refl
joined_slots (o ∷ l) [] h = absurd (omega arith)
joined_slots (o ∷ l) (r ∷ rs) h = rw (joined_slots l rs (omega arith))

joined_take : (l : List Outstanding) (rs : List Record) → joined l (take (length l) rs) ≡ joined l rs
unfolding joined
joined_take [] rs = refl
joined_take (o ∷ l) [] = refl
joined_take (o ∷ l) (r ∷ rs) = rw (joined_take l rs)

scattered_take : (table : List Record) (slots : List ℕ) (rs : List Record) → length slots ≤ length rs
    → scattered table slots (take (length slots) rs) ≡ scattered table slots rs
scattered_take table slots rs h =
    sym (scattered_append table slots (take (length slots) rs) (drop (length slots) rs) (simp length-take (omega arith)))
    ∙ ap (scattered table slots) (take-append-drop (length slots) rs)

paired_slots : (ws ts : List ℕ) → length ws ≤ length ts → held_slots (paired outstanding_at ws ts) ≡ map (λ (w : ℕ). w % 256) ws
unfolding paired
paired_slots [] ts h = refl
paired_slots (w ∷ ws) [] h = absurd (omega arith)
paired_slots (w ∷ ws) (t ∷ ts) h = rw (paired_slots ws ts (omega arith))

-- slots below 128 are read among the first 128 records
gathered_first : (table : List Record) (slots : List ℕ) → AllBelow send_slots slots
    → gathered (take send_slots table) slots ≡ gathered table slots
gathered_first table [] below = refl
gathered_first table (s ∷ slots) below =
    rw (get_or-take send_slots table s blank (below zero (omega arith)), gathered_first table slots (λ i h. below (suc i) (omega arith)))

-- ---- what scattering left

-- by the words, the count and the records that were passed
pub put_back : (table table' : List Record) (b : PutBack) (words : List ℕ) (n : ℕ) (records : List Record) → words ≡ b.words
    → n ≡ b.changed → records ≡ b.records
    → table' ≡ scattered table (slots_in words n) records → table' ≡ scattered table (slots_in b.words b.changed) b.records
put_back table table' b words n records e-words e_n e-records e = rw (← e-words, ← e_n, ← e-records) e

pub puts_nothing : (table table' : List Record) (b : PutBack) → PutsNothing b
    → table' ≡ scattered table (slots_in b.words b.changed) b.records → table' ≡ table
unfolding scattered
puts_nothing table table' b none e = rw none at e

pub puts_all : (l : Link) (table table' : List Record) (b : PutBack) → PutsAll l b
    → table' ≡ scattered table (slots_in b.words b.changed) b.records → table' ≡ scattered table (outstanding_slots l) b.records
puts_all l table table' b all e = rw (all.words, all.changed) at e

-- ---- segments with the table's own records, put back

-- each has the record at its slot
abbrev Own : List Record → List Sent → Type 0
Own table = All (λ (x : Sent). x.record ≡ get_or table x.held.slot blank)

scattered_own : (table : List Record) (l : List Sent) → Own table l
    → scattered table (map (λ (x : Sent). x.held.slot) l) (map (λ (x : Sent). x.record) l) ≡ table
unfolding scattered
scattered_own table [] h = refl
scattered_own table (x ∷ l) h = rw (h.0, set-get_or table x.held.slot blank) (scattered_own table l h.1)

joined_own : (table : List Record) (n k : ℕ) (ws ts : List ℕ)
    → Own table (joined (outstanding_in ws ts n) (gathered table (map (λ (w : ℕ). w % 256) (take k ws))))
unfolding joined paired
joined_own table zero k ws ts = tt
joined_own table (suc n) k [] ts = tt
joined_own table (suc n) k (w ∷ ws) [] = tt
joined_own table (suc n) zero (w ∷ ws) (t ∷ ts) = tt
joined_own table (suc n) (suc k) (w ∷ ws) (t ∷ ts) = (refl, joined_own table n k ws ts)

own_first : (table : List Record) (l : List Sent) → AllBelow send_slots (map (λ (x : Sent). x.held.slot) l)
    → Own (take send_slots table) l → Own table l
own_first table [] below h = tt
own_first table (x ∷ l) below h = (
  h.0 ∙ get_or-take send_slots table x.held.slot blank (below zero (omega arith)),
  own_first table l (λ i k. below (suc i) (omega arith)) h.1,
)

-- a state with the outstanding segments of a block before the call: the table is as it was
pub table_unchanged : (l : Link) (p : Parts) (x : State) → x.sending.outstanding ≡ (state_in l p).sending.outstanding → SlotsFit (slots_of x)
    → table_of p.table x ≡ p.table
unfolding state_of
table_unchanged l p x e s =
    let first = joined_own (take send_slots p.table) l.flight.outstanding (min l.flight.outstanding 32) l.outstanding
    l.transmissions in
    scattered_own p.table x.sending.outstanding (own_first p.table x.sending.outstanding s.below (rw (← e) at first))

-- ---- a block after a call, with its records put back

module _ (l : Link) (records : List Record) (acks : List ℕ) (fits : counts_fit l ≡ true) (whole : Whole (arrays_of l))
    (few : length records ≡ 32) where
  abbrev segments : List Outstanding
  segments = outstanding_in l.outstanding l.transmissions l.flight.outstanding

  abbrev slots : List ℕ
  slots = outstanding_slots l

  within : l.flight.outstanding ≤ 32
  unfolding counts_fit
  within = (counts l.flight l.arrival fits).outstanding

  segment_slots : held_slots segments ≡ slots
  segment_slots =
      let n = l.flight.outstanding in
      let all : min n 32 ≡ n = omega (arith, within) in
      rw all (paired_slots (take n l.outstanding) (take n l.transmissions)
      (omega (
        arith,
        whole.whole_outstanding,
        whole.whole_transmissions,
        length-take n l.outstanding,
        length-take n l.transmissions,
      )))

  slot_count : length slots ≡ length segments
  slot_count = ap length (sym segment_slots) ∙ length-map segments (λ (o : Outstanding). o.held.slot)

  enough_slots : length slots ≤ length records
  enough_slots =
      let n = l.flight.outstanding in
      omega (
        arith,
        few,
        within,
        length-map (take (min n 32) l.outstanding) (λ (w : ℕ). w % 256),
        length-take (min n 32) l.outstanding,
      )

  enough_records : length segments ≤ length records
  enough_records = omega (arith, enough_slots, slot_count)

  state_slots : slots_of (state_of l records acks) ≡ slots
  unfolding state_of
  state_slots = joined_slots segments records enough_records ∙ segment_slots

  state_records : map (λ (x : Sent). x.record) (state_of l records acks).sending.outstanding ≡ take (length slots) records
  unfolding state_of
  state_records = joined_records segments records enough_records ∙ ap (λ (n : ℕ). take n records) (sym slot_count)

  table_promised : (table : List Record) → scattered table slots records ≡ table_of table (state_of l records acks)
  table_promised table = sym (rw (state_slots, state_records) (scattered_take table slots records enough_slots))

  state_again : (table : List Record) → SlotsFit (slots_of (state_of l records acks)) → send_slots ≤ length table
      → state_of l (gathered (take send_slots (scattered table slots records)) slots) acks ≡ state_of l records acks
  state_again table s long =
      let once : NoneTwice slots = rw state_slots at s.once in
      let below : AllBelow send_slots slots = rw state_slots at s.below in
      let again = gathered_scattered table slots records once (λ i h. omega (arith, below i h)) enough_slots in
      state_joined l _ records acks
      (ap (joined segments) (gathered_first (scattered table slots records) slots below ∙ again ∙ ap (λ (n : ℕ). take n records)
      slot_count) ∙ joined_take segments records)

module _ (l : Link) (records : List Record) (few : length records ≡ 32) (acks : List ℕ) (fits : counts_fit l ≡ true)
    (whole : Whole (arrays_of l)) (x : State) (e : state_of l records acks ≡ x) (table : List Record) where
  promised : scattered table (outstanding_slots l) records ≡ table_of table x
  promised = table_promised l records acks fits whole few table ∙ ap (table_of table) e

  -- a table that is as it was is the same, where its own records were to be put back
  pub put_none : table_of table x ≡ table → (table' : List Record) → table' ≡ table → table' ≡ scattered table (outstanding_slots l) records
  put_none same table' none = none ∙ sym same ∙ sym promised

  module _ (table' : List Record) (put : table' ≡ scattered table (outstanding_slots l) records) where
    -- the table that is promised
    pub table_after : table' ≡ table_of table x
    table_after = put ∙ promised

    -- the block stands for the state in the new table
    pub stands_after : (send_pool receive_pool : List ℕ) → SlotsFit (slots_of x) → send_slots ≤ length table
        → Stands l (parts_of send_pool receive_pool table' acks) x
    stands_after send_pool receive_pool s long =
        let again = state_again l records acks fits whole few table (rw (← e) at s) long in
        record {
          counts = fits;
          state = ap (λ (t : List Record). state_of l (gathered (take send_slots t) (outstanding_slots l)) acks) put ∙ again ∙ e;
        }
