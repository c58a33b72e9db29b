-- What the schedule names, as what a check names.
use Rattle.std.proofs.Common.{rules}
use Rattle.check_core.proofs.Dues.{names}
use Rattle.check_core.proofs.next_update.Goals as goal

pub returns : goal.returns
returns c acks =
    names c.args.link.now c.args.records.now acks c.args.t (search rules) c.requires _ c.schedule_of-schedule.ensures _ c.check.ensures
