-- What the checks of 7 and 13 say to reading, telling and showing.
-- Assumes nothing.
use mathlib.Core.Path.{◌≡◌, sym, ◌∙◌}
use mathlib.Core.Bool.{Bool, true, ◌&&◌}
use mathlib.Core.List.{List, map}
use Prim.Native.Nat.{ℕ, ◌*◌, ◌≤◌, ◌<◌}
use native.Mathlib.Omega.{arith}
use borrow.Author.Tests.{leb-true}
use lib.Dec.{leb}
use lib.ListN.{length}
use Rattle.protocol.specs.Protocol.{send_slots, receive_slots}
use Rattle.protocol.specs.Ranges.{mss}
use Rattle.protocol.specs.declared.Refusal.{Refusal}
use Rattle.timing.specs.declared.Record.{Record}
use Rattle.lists.specs.declared.Held.{Held}
use Rattle.lists.specs.Views.{waiting_part}
use Rattle.sizes.specs.Sizes.{enough}
use Rattle.sizes.specs.declared.Lengths.{Lengths}
use Rattle.session.specs.State.{Outcome, refused}
use Rattle.session.specs.Decides.{and_parts}
use Rattle.session.specs.AllLaws.{all_left}
use Rattle.session.proofs.ValidDecides.{valid_decides}
use Rattle.words.specs.Words.{held_in, waiting_in}
use Rattle.control.specs.Views.{state_of, counts_fit, block_valid}
use Rattle.control.specs.ViewLaws.{Counts, counts}
use Rattle.control.specs.declared.Link.{Link}
use Rattle.checking.specs.Verdicts.{verdict_of}
use Rattle.checking.specs.VerdictLaws.{Passes, passed_by, refused_by_lem}
use Rattle.promises.specs.Outcomes.{checked}
use Rattle.read_core.specs.Messages.{Readable}
use Rattle.answers.specs.Answers.{Answer}
use Rattle.std.specs.Prelude.{Err, Ok}

-- the receive pool has all its slots
pool_whole : (m : ℕ) (n : Lengths) → enough m n ≡ true → receive_slots * m ≤ n.receive
unfolding enough
pool_whole m n e =
    let send = leb (send_slots * m) n.send in
    let receive = leb (receive_slots * m) n.receive in
    let table = leb send_slots n.table in
    leb-true (receive_slots * m) n.receive (and_parts send receive
    (and_parts (send && receive) table (and_parts (send && receive && table) _ e).0).0).1

readable_block : (l : Link) (records : List Record) (acks : List ℕ) (n : Lengths) (pool : List ℕ) → enough (mss l.settings) n ≡ true
    → block_valid l records acks ≡ true → n.receive ≡ length pool → Readable l pool
unfolding block_valid state_of
readable_block l records acks n pool g b long =
    let v = and_parts (counts_fit l) _ b in
    let valid = (valid_decides (state_of l records acks)).holds v.1 in
    let r = valid.receiving in
    let ready = held_in l.ready l.arrival.ready in
    let waiting = map waiting_part (waiting_in l.waiting l.waiting_numbers l.arrival.waiting) in
    record {
      counts = v.0;
      mss_low = omega (arith, valid.settings.mtu_most_lem);
      inside = record {
        each = record {
          lengths = all_left (λ (h : Held). h.len ≤ mss l.settings) ready waiting r.lengths;
          slots = all_left (λ (h : Held). h.slot < receive_slots) ready waiting r.slots_below;
        };
        whole = rw (← long) (pool_whole (mss l.settings) n g);
      };
    }

-- the counts are within the arrays
pub block_counts : (l : Link) → counts_fit l ≡ true → Counts l.flight l.arrival
unfolding counts_fit
block_counts l e = counts l.flight l.arrival e

-- the verdict v of both checks
module _ (l : Link) (records : List Record) (acks : List ℕ) (n : Lengths) (long : Bool) (e : long ≡ enough (mss l.settings) n)
    (v : Answer) (verdict : (acks : List ℕ) → v ≡ verdict_of long (block_valid l records acks)) where
  pub passes : v ≡ Ok tt → Passes (enough (mss l.settings) n) (block_valid l records acks)
  passes t = let p = passed_by long (block_valid l records acks) v (verdict acks) t in
      record { long_enough_lem = sym e ∙ p.long_enough_lem; valid_block = p.valid_block }

  pub passes_readable : v ≡ Ok tt → (pool : List ℕ) → n.receive ≡ length pool → Readable l pool
  passes_readable t pool q = let p = passes t in readable_block l records acks n pool p.long_enough_lem p.valid_block q

  pub refuses : {A : Type 0} (own : Outcome A) (r : Refusal) → v ≡ Err r
      → checked (enough (mss l.settings) n) (block_valid l records acks) own ≡ refused r
  refuses own r t = rw (← e) (refused_by_lem own long (block_valid l records acks) v r (verdict acks) t)
