-- What the checks of 7 and 13 establish for a flush and an update, and what these leave by them: what they do where both pass, the refusal
-- where one fails.
-- Assumes nothing.
use mathlib.Core.Path.{◌≡◌, refl, ◌∙◌, sym}
use mathlib.Core.Bool.{Bool, true, false}
use mathlib.Core.List.{List}
use Prim.Native.Nat.{ℕ, ◌*◌}
use borrow.Author.Tests.{leb-true}
use lib.ListN.{length}
use Rattle.protocol.specs.Protocol.{send_slots, output_least, lengths_least}
use Rattle.protocol.specs.Ranges.{in_range, mss}
use Rattle.protocol.specs.declared.Refusal.{Refusal}
use Rattle.timing.specs.declared.Record.{Record}
use Rattle.sizes.specs.Sizes.{enough, enough_to_flush}
use Rattle.session.specs.Decides.{and_parts}
use Rattle.session.specs.Valid.{valid}
use Rattle.control.specs.declared.Link.{Link}
use Rattle.control.specs.Views.{state_of, counts_fit, block_valid}
use Rattle.checking.specs.Verdicts.{verdict_of}
use Rattle.checking.specs.VerdictLaws.{refused_by_lem, Passes, passed_by}
use Rattle.promises.specs.Parts.{lent_lengths}
use Rattle.promises.specs.Outcomes.{flushes_with, updates_with}
use Rattle.promises.specs.Cores.{NoFlush}
use Rattle.flush_core.specs.declared.Flushed.{Flushed}
use Rattle.flush_core.specs.Flushes.{Flushable, put_back, Runs, Core}
use Rattle.answers.specs.Answers.{Answer}
use Rattle.std.specs.Prelude.{Err, Ok}

module _ (l : Link) (records : List Record) (table : ℕ) (send_pool receive_pool acks out lengths : List ℕ) (long : Bool) (v : Answer)
    (e : long ≡ enough_to_flush (mss l.settings) (lent_lengths table send_pool receive_pool acks) (length out) (length lengths))
    (d : v ≡ verdict_of long (block_valid l records acks)) where
  module _ (p : v ≡ Ok tt) where
    passes : Passes long (block_valid l records acks)
    passes = passed_by long (block_valid l records acks) v d p

    pub flushable : Flushable l records send_pool acks out lengths
    unfolding block_valid counts_fit valid state_of enough_to_flush enough
    flushable =
        let made = and_parts (counts_fit l) _ passes.valid_block in
        let whole = and_parts _ _ (and_parts _ _ (and_parts _ _ made.1).0).0 in
        let halves = and_parts (in_range l.settings) _ whole.0 in
        let sizes = and_parts _ _ (sym e ∙ passes.long_enough_lem) in
        let bytes = and_parts (enough (mss l.settings) (lent_lengths table send_pool receive_pool acks)) _ sizes.0 in
        let lent = and_parts _ _ bytes.0 in
        record {
          counts = made.0;
          range = halves.0;
          sends = halves.1;
          slots = leb-true (send_slots * mss l.settings) (length send_pool) (and_parts _ _ (and_parts _ _ lent.0).0).0;
          pairs = leb-true _ (length acks) lent.1;
          bytes = leb-true output_least (length out) bytes.1;
          sizes = leb-true lengths_least (length lengths) sizes.1;
        }

    -- both checks passed
    pub ran : (paced : Bool) (t : ℕ) (r : Flushed) (l' : Link) (records' : List Record) (out' lengths' : List ℕ)
        → Runs paced l records send_pool acks t out lengths r l' records' out' lengths'
        → Core paced l records table send_pool receive_pool acks t out lengths (Ok r.written) l'
        (put_back l'.outstanding r.changed records') out' lengths'
    unfolding flushes_with updates_with
    ran false t r l' records' out' lengths' h = (h.0, h.1, rw (← e, passes.long_enough_lem, passes.valid_block) h.2)
    ran true t r l' records' out' lengths' h = rw (← e, passes.long_enough_lem, passes.valid_block) h

  -- one failed: nothing is put back
  module _ (q : Refusal) (p : v ≡ Err q) (t : ℕ) (words : List ℕ) (records' : List Record) where
    nothing : NoFlush q l out lengths (Err q) l (put_back words 0 records') out lengths
    nothing = record { answer = refl; link = refl; puts = refl; output = refl; sizes = refl }

    pub unflushed : (paced : Bool)
        → Core paced l records table send_pool receive_pool acks t out lengths (Err q) l (put_back words 0 records') out lengths
    unfolding flushes_with updates_with
    unflushed false = (Err q, refl, rw (← e, refused_by_lem _ long (block_valid l records acks) v q d p) nothing)
    unflushed true = rw (← e, refused_by_lem _ long (block_valid l records acks) v q d p) (refl, nothing)
