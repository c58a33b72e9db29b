-- What the table gives to a core: the records of the outstanding segments, with blank ones behind them. These are no state, so a
-- core's outcome on them is the outcome on the table.
-- Assumes nothing.
use mathlib.Core.Path.{◌≡◌, refl, sym, ap, ◌∙◌}
use mathlib.Core.Bool.{Bool, true, false}
use mathlib.Core.List.{List, [], ◌∷◌, ◌++◌, append-nil}
use Prim.Native.Nat.{ℕ, ◌-◌, ◌≤◌, ◌%◌, min, zero-le}
use native.Mathlib.Omega.{arith}
use borrow.Author.Tests.{leb-true, leb-false}
use lib.Dec.{leb}
use lib.ListN.{length, take, get_or, replicate, length-map, length-take, length-append, length-replicate}
use Rattle.protocol.specs.Protocol.{send_slots}
use Rattle.protocol.specs.Ranges.{mss}
use Rattle.timing.specs.declared.Record.{Record}
use Rattle.lists.specs.Joining.{joined}
use Rattle.lists.specs.declared.Outstanding.{Outstanding}
use Rattle.sizes.specs.Sizes.{enough}
use Rattle.session.specs.State.{State, Outcome}
use Rattle.words.specs.Words.{paired, outstanding_at, outstanding_in}
use Rattle.control.specs.Views.{state_of, counts_fit, block_valid}
use Rattle.control.specs.declared.Link.{Link}
use Rattle.records.specs.Tables.{blank, slots_in, gathered, padded}
use Rattle.promises.specs.Parts.{Parts, outstanding_slots, records_of, state_in, is_made, lengths_of, lent_lengths, Stands}
use Rattle.promises.specs.Outcomes.{checked, own_checked}

-- ---- the state

joined_enough : (l : List Outstanding) (rs more : List Record) → length l ≤ length rs → joined l (rs ++ more) ≡ joined l rs
unfolding joined
joined_enough [] rs more h = refl
joined_enough (o ∷ l) [] more h = absurd (omega arith)
joined_enough (o ∷ l) (r ∷ rs) more h = rw (joined_enough l rs more (omega arith))

paired_most : (ws ns : List ℕ) → length (paired outstanding_at ws ns) ≤ length ws
unfolding paired
paired_most [] ns = zero-le
paired_most (w ∷ ws) [] = zero-le
paired_most (w ∷ ws) (n ∷ ns) = omega (arith, paired_most ws ns)

-- a segment of a block has a record among those gathered, but for segments past 32
joined_padded : (ws ts : List ℕ) (n : ℕ) (table : List Record)
    → joined (outstanding_in ws ts n) (padded (gathered table (slots_in ws n))) ≡ joined (outstanding_in ws ts n)
    (gathered table (slots_in ws n))
joined_padded ws ts n table = go (leb 32 (length records)) refl
  where
    records : List Record
    records = gathered table (slots_in ws n)

    many : length records ≡ min (min n 32) (length ws)
    many = length-map (slots_in ws n) (λ (s : ℕ). get_or table s blank) ∙ length-map (take (min n 32) ws) (λ (w : ℕ). w % 256) ∙ length-take
        (min n 32) ws

    go : (b : Bool) → leb 32 (length records) ≡ b → joined (outstanding_in ws ts n) (padded records) ≡ joined (outstanding_in ws ts n) records
    go true h =
        let none : 32 - length records ≡ 0 = omega (arith, leb-true 32 (length records) h) in
        rw (none, append-nil records)
    go false h = joined_enough (outstanding_in ws ts n) records (replicate (32 - length records) blank)
        (omega (arith, many, leb-false 32 (length records) h, paired_most (take n ws) (take n ts), length-take n ws))

-- the state has the records joined to their segments
pub state_joined : (l : Link) (r r' : List Record) (acks : List ℕ)
    → joined (outstanding_in l.outstanding l.transmissions l.flight.outstanding) r ≡ joined
    (outstanding_in l.outstanding l.transmissions l.flight.outstanding) r' → state_of l r acks ≡ state_of l r' acks
unfolding state_of
state_joined l r r' acks e = rw e

-- blank records behind those of the table are no state
pub state_padded : (l : Link) (p : Parts) → state_of l (padded (records_of l p)) p.acks ≡ state_in l p
state_padded l p =
    state_joined l (padded (records_of l p)) (records_of l p) p.acks
    (joined_padded l.outstanding l.transmissions l.flight.outstanding (take send_slots p.table))

-- a call's outcome looks at the state alone
same_checked : {B : Type 0} (long : Bool) (l : Link) (r r' : List Record) (acks : List ℕ) (own : State → Outcome B)
    → state_of l r acks ≡ state_of l r' acks
    → checked long (block_valid l r acks) (own (state_of l r acks)) ≡ checked long (block_valid l r' acks) (own (state_of l r' acks))
unfolding block_valid
same_checked long l r r' acks own e = rw e

-- ---- what the table gave

-- the records of the outstanding segments, padded to 32, and the length of the table
pub record Gathers (l : Link) (p : Parts) (records : List Record) (n : ℕ) : Type 0 where
  pub padding : records ≡ padded (records_of l p)
  pub len : n ≡ length p.table

-- by the count that was passed
pub gathers : (l : Link) (p : Parts) (count : ℕ) (records : List Record) (n : ℕ) → count ≡ l.flight.outstanding
    → records ≡ padded (gathered (take send_slots p.table) (slots_in l.outstanding count)) → n ≡ length p.table
    → Gathers l p records n
gathers l p count records n e-count e-records e_n =
    record {
      padding = e-records ∙ ap (λ (k : ℕ). padded (gathered (take send_slots p.table) (slots_in l.outstanding k))) e-count;
      len = e_n;
    }

module _ (l : Link) (p : Parts) (records : List Record) (n : ℕ) (g : Gathers l p records n) where
  pub state_gathered : state_of l records p.acks ≡ state_in l p
  state_gathered = ap (λ (r : List Record). state_of l r p.acks) g.padding ∙ state_padded l p

  -- the outcome, where the sizes are checked in a way of the call's own
  pub checked_in : {B : Type 0} (long : Bool) (own : State → Outcome B)
      → checked long (block_valid l records p.acks) (own (state_of l records p.acks)) ≡ checked long (is_made l p) (own (state_in l p))
  checked_in long own = same_checked long l records (records_of l p) p.acks own state_gathered

  pub outcome_in : {B : Type 0} (own : State → Outcome B)
      → own_checked l records p.acks (lent_lengths n p.send_pool p.receive_pool p.acks) (own (state_of l records p.acks)) ≡
      own_checked l (records_of l p) p.acks (lengths_of p) (own (state_in l p))
  outcome_in own = rw g.len (checked_in (enough (mss l.settings) (lengths_of p)) own)

  -- a block whose outstanding segments have the same slots stands for its state in the same table
  pub stands_in : (l' : Link) (x : State) → outstanding_slots l' ≡ outstanding_slots l → counts_fit l' ≡ true
      → state_of l' records p.acks ≡ x → Stands l' p x
  stands_in l' x f c e =
      let same : padded (records_of l' p) ≡ records =
      ap (λ (slots : List ℕ). padded (gathered (take send_slots p.table) slots)) f ∙ sym g.padding in
      record { counts = c; state = sym (state_padded l' p) ∙ ap (λ (r : List Record). state_of l' r p.acks) same ∙ e }
