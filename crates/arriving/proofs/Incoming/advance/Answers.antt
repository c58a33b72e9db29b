-- `advance` counts the run, appends it to the ready words and drops it from the waiting words and numbers.
use mathlib.Core.Path.{refl, sym, ◌∙◌}
use borrow.Author.Rules.{rules}
use Rattle.arriving.proofs.Moves.{none_up, moved_up}
use Rattle.arriving.proofs.Incoming.advance.Goals as goal

pub returns-then-k-eq0-clause-advances : goal.returns-then-k-eq0-clause-advances
returns-then-k-eq0-clause-advances c =
    let a = c.args.self.now in
    let p = c.requires in
    record {
      whole = p.0;
      is =
          none_up a.ready.now a.waiting.now a.numbers.now a.arrival.ready a.arrival.waiting _ a.arrival.expected
          p.0 (search rules) p.1.few_ready p.1.few_waiting
          c.min-most.ensures
          (sym c.if-k-eq0.true ∙ c.run-k.ensures.1 a.waiting.now p.0.whole_waiting);
      same_acks = refl;
      same_tell = refl;
    }

pub returns-clause-advances : goal.returns-clause-advances
returns-clause-advances c =
    let a = c.args.self.now in
    let p = c.requires in
    let up = c.append_first.ensures in
    let left = c.drop_first.ensures in
    let numbers = c.drop_first-2.ensures in
    record {
      whole = record { whole_ready = up.whole; whole_waiting = left.whole; whole_numbers = numbers.whole };
      is =
          moved_up a.ready.now a.waiting.now a.numbers.now _ _ _ a.arrival.ready a.arrival.waiting _ p.0
          p.1.few_waiting (search rules) up left numbers
          a.arrival.expected _ _ (search rules) p.1.few_ready c.min-most.ensures
          (c.run-k.ensures.1 a.waiting.now p.0.whole_waiting) c.sum.ensures;
      same_acks = refl;
      same_tell = refl;
    }
