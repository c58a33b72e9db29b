-- `schedule::Schedule::check` meets its contract.
use Rattle.std.proofs.Common.{◌≡◌, sym, ◌∙◌, take}
use borrow.Author.Tests.{not-true, not-false}
use Rattle.schedule.specs.Schedules.{earliest, dues_of}
use Rattle.schedule.specs.ScheduleLaws.{named_first, named_made}
use Rattle.schedule.proofs.Distances.{take_held, earliest_fold}
use Rattle.schedule.proofs.Schedule.check.Goals as goal

pub returns-then-not-self : goal.returns-then-not-self
returns-then-not-self c = sym (named_first _ _ _ _ (not-true _ c.if-not-self.true))

pub returns : goal.returns
returns c =
    let a = c.args in
    let first : c.earliest.result ≡ earliest a.t c.min-most.result (dues_of (take a.n a.records.now)) =
    c.earliest.ensures ∙ rw (c.min.ensures, take_held a.records.now a.n 32 c.told-records)
    (earliest_fold a.t c.min-most.result (take a.n a.records.now)) in
    rw (c.sum.ensures, first, c.min-most.ensures, c.from.ensures, c.ahead.ensures, c.corrected-next.ensures)
    (sym (named_made _ _ _ _ (not-false _ c.if-not-self.false)))
