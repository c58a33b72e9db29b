-- `flush_now`: what its parts give, put together.
use Rattle.std.proofs.Common.{rules, refl}
use Rattle.flush_core.proofs.Ready.{few_ready, numberable, countable, writable}
use Rattle.flush_core.proofs.Results.{runs}
use Rattle.flush_core.proofs.flush_now.Goals as goal

pub new-plan-requires : goal.new-plan-requires
new-plan-requires c = few_ready c.args.link.now (search rules) _ (search rules) _ _ _ _ c.requires

pub number-flown-requires : goal.number-flown-requires
number-flown-requires c =
    numberable c.args.link.now (search rules) _ (search rules) _ _ _ _ c.requires _ c.window_of-window.ensures

pub write-written-requires : goal.write-written-requires
write-written-requires c =
    writable c.args.link.now (search rules) _ (search rules) _ _ _ _ c.requires _ _ _ _ _ _ _ _ c.new-plan.ensures c.number-flown.ensures

pub after_losses-link-requires : goal.after_losses-link-requires
after_losses-link-requires c =
    countable c.args.link.now (search rules) _ (search rules) _ _ _ _ c.requires _ _ _ _ _ _ c.window_of-window.ensures (search rules)
    c.number-flown.ensures _ _

pub returns-clause-writes : goal.returns-clause-writes
returns-clause-writes c =
    let h = c.args.link.now in
    runs h.settings h.flight h.arrival h.clock h.queued h.outstanding h.transmissions h.ready h.waiting h.waiting_numbers
    c.args.records.now c.args.acks.now c.args.t c.args.pool.now _ _ _ c.window_of-window.ensures _ _ _ _ _ _ _ _ _ _ _ c.new-plan.ensures
    c.number-flown.ensures c.write-written.ensures (search rules) c.requires.counts _ _ _ c.after_losses-link.ensures refl
    c.moved-link.ensures _ c.changed.ensures
