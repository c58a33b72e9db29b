-- Taking in a datagram: what the core leaves, with its records put back into the table, is what the call promises.
-- Assumes nothing.
use mathlib.Core.Path.{◌≡◌, refl, subst}
use mathlib.Core.Bool.{true}
use mathlib.Core.List.{List}
use Prim.Native.Nat.{ℕ}
use native.Mathlib.Omega.{arith}
use lib.ListN.{length}
use Rattle.protocol.specs.Ranges.{mss}
use Rattle.timing.specs.declared.Record.{Record}
use Rattle.datagram.specs.Datagrams.{Parsed, parse}
use Rattle.sizes.specs.Sizes.{enough}
use Rattle.session.specs.State.{State, Outcome, refused, done}
use Rattle.session.specs.Input.{Took, applied, taking, input}
use Rattle.session.specs.Valid.{valid}
use Rattle.control.specs.Views.{Whole, arrays_of}
use Rattle.control.specs.declared.Link.{Link}
use Rattle.records.specs.Tables.{slots_in, scattered}
use Rattle.promises.specs.Parts.{Parts, lengths_of, lent_lengths, parts_of, state_in, is_made}
use Rattle.promises.specs.Outcomes.{takes_in_with, takes_in}
use Rattle.promises.specs.Answers.{Accepts}
use Rattle.promises.specs.AnswerLaws.{accepts_number}
use Rattle.promises.specs.Promises.{InputPromise, InputLeaves}
use Rattle.promises.specs.Cores.{PutBack, InputCore}
use Rattle.from_cores.specs.Left.{InputLeft}
use Rattle.from_cores.proofs.Gathered.{Gathers, outcome_in}
use Rattle.from_cores.proofs.Scattered.{SlotsFit, slots_of, puts_nothing, puts_all, table_after, stands_after}
use Rattle.from_cores.proofs.SlotsAfter.{input_slots}
use Rattle.from_cores.proofs.Checked.{passed, made_valid, table_long}
use Rattle.answers.specs.Answers.{Answer}

-- a datagram that is taken in has its segments applied
taken_slots : (s : State) (pool datagram : List ℕ) (x : Took) → valid s ≡ true → input s pool datagram ≡ done x
    → SlotsFit (slots_of x.state)
unfolding input
taken_slots s pool datagram x v e = go (parse s.settings.conv (mss s.settings) datagram) e
  where
    go : (b : Parsed) → taking s pool b ≡ done x → SlotsFit (slots_of x.state)
    go (Parsed.refused r) e = absurd (let z : ◌≡◌ {A = ℕ} 0 1 = cc in omega arith)
    go (Parsed.segments gs) e = let same : applied s pool gs ≡ x = cc in rw (← same) (input_slots s pool gs v)

module _ (datagram : List ℕ) (l : Link) (p : Parts) (a : Answer) (b : PutBack) (l' : Link) (pool' acks' : List ℕ) where
  abbrev Left : Outcome Took → Type 0
  Left o = InputCore o l p.receive_pool p.acks a l' b pool' acks'

  -- the records of the table, by value
  pub input_left : (records : List Record) (n : ℕ) → Gathers l p records n → Whole (arrays_of l')
      → Left (takes_in_with l records p.acks (lent_lengths n p.send_pool p.receive_pool p.acks) p.receive_pool datagram)
      → InputLeft datagram l p a b l' pool' acks'
  unfolding takes_in_with
  input_left records n g whole h =
      record { core = subst Left (outcome_in l p records n g (λ s. input s p.receive_pool datagram)) h; whole = whole }

  module _ (table' : List Record) (few : length b.records ≡ 32)
      (put : table' ≡ scattered p.table (slots_in b.words b.changed) b.records) (whole : Whole (arrays_of l')) where
    answers : (o : Outcome Took) → Left o → Accepts a o
    answers (refused q) h = h.answer
    answers (done x) h = h.answer

    leaves : (o : Outcome Took) → takes_in l p datagram ≡ o → Left o → InputLeaves o l l' p (parts_of p.send_pool pool' table' acks')
    unfolding takes_in_with
    leaves (refused q) e h = record {
      link = h.link;
      parts = rw (h.pool_same, h.acks_same, puts_nothing p.table table' b h.puts put);
    }
    leaves (done x) e h =
        let c = passed (enough (mss l.settings) (lengths_of p)) (is_made l p) (input (state_in l p) p.receive_pool datagram) x e in
        let slots = taken_slots (state_in l p) p.receive_pool datagram x (made_valid l p c.block) c.result in
        let long = table_long (mss l.settings) p c.sizes in
        let all = puts_all l' p.table table' b h.puts put in
        record {
          stands = stands_after l' b.records few acks' h.counts whole x.state h.state p.table table' all p.send_pool pool'
              slots long;
          send_pool = refl;
          receive_pool = h.pool;
          table = table_after l' b.records few acks' h.counts whole x.state h.state p.table table' all;
          ack_length = h.ack_length_lem;
          ack_rest = h.ack_rest_lem;
        }

  pub input_promised : (table' : List Record) → length b.records ≡ 32
      → table' ≡ scattered p.table (slots_in b.words b.changed) b.records
      → InputLeft datagram l p a b l' pool' acks' → InputPromise datagram l p a l' (parts_of p.send_pool pool' table' acks')
  input_promised table' few put h =
      let answer = answers table' few put h.whole (takes_in l p datagram) h.core in
      record {
        answer = answer;
        number = accepts_number a (takes_in l p datagram) answer;
        leaves = leaves table' few put h.whole (takes_in l p datagram) refl h.core;
      }
