-- `front_size`: the length of the message where all its segments are ready, else 9.
use mathlib.Core.Path.{ap, ◌∙◌}
use mathlib.Core.List.{map}
use Rattle.session.specs.Reading.{length_of}
use Rattle.words.specs.Words.{unpack}
use Rattle.deliver.proofs.Fronts.{front_words, length_sum}
use Rattle.deliver.proofs.Sizes.{front_readable, front_none}
use Rattle.deliver.proofs.front_size.Goals as goal

pub returns-then-not-readable : goal.returns-then-not-readable
returns-then-not-readable c = front_none (map unpack c.args.ready.now) _ c.readable.ensures c.if-not-readable.true

pub returns : goal.returns
returns c =
    let w = c.args.ready.now in
    front_readable (map unpack w) _ c.readable.ensures _ c.if-not-readable.false
    (c.total.ensures ∙ length_sum _ ∙ ap length_of (front_words w _ c.front_count-k.ensures))
