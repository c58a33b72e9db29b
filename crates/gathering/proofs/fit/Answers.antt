-- Each turn passes over one record more.
use Rattle.std.proofs.Common.{refl, ◌<◌, ◌^◌, length, take, sym, ap, ◌∙◌, arith}
use Rattle.protocol.specs.Protocol.{send_slots}
use Rattle.records.specs.Tables.{slots_in, gathered, blank}
use Rattle.checking.specs.Tests.{carried_after, flight_fits, flown_by}
use Rattle.checking.specs.FlownLaws.{flown_fits}
use Rattle.checking.proofs.Turns.{carried_all, carried_next, carried_end}
use Rattle.gathering.proofs.Listed.{reached}
use Rattle.gathering.proofs.Passes.{found_count, found_at, first_padded}
use Rattle.gathering.proofs.fit.Goals as goal

pub loop-word-init : goal.loop-word-init
unfolding carried_all
loop-word-init c = refl

pub loop-word-preserved : goal.loop-word-preserved
loop-word-preserved c =
    let f = c.args.flight in
    let mode = c.args.settings.mode in
    let ys = c.args.table.now in
    let i = c.loop-word.word-index in
    let room : length ys < 2 ^ 64 = omega arith in
    let counted = found_count (take send_slots ys) c.args.words.now f.outstanding c.min.result c.min.ensures in
    let at = found_at (take send_slots ys) c.args.words.now f.outstanding c.min.result c.min.ensures i c.read-found.result
    c.loop-word-test.true
    (reached ys _ c.reach.result _ room c.reach.ensures c.read-found.ensures) in
    carried_next mode f.una f.next (gathered (take send_slots ys) (slots_in c.args.words.now f.outstanding)) i _ blank (omega arith)
    c.loop-word.carried _ c.loop-word.invariant (c.carry-carried.ensures ∙ ap (carried_after mode f.una f.next c.loop-word.carried) at)

pub returns : goal.returns
returns c =
    let f = c.args.flight in
    let mode = c.args.settings.mode in
    let ws = c.args.words.now in
    let ys = take send_slots c.args.table.now in
    let found = gathered ys (slots_in ws f.outstanding) in
    let counted = found_count ys ws f.outstanding c.min.result c.min.ensures in
    let all = carried_end mode f.una f.next found c.loop-word.word-index _ (omega arith) c.loop-word.carried c.loop-word.invariant in
    c.flown.ensures ∙ ap (flown_by f.una f.next) (sym all) ∙ flown_fits mode f.una f.next found
    ∙ ap (flight_fits mode f.una f.next) (sym (first_padded ys ws f.outstanding c.told-words))
