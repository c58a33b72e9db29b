-- `parity_reader::verify::all_held` meets its contract: the frames that are left decide.
use Rattle.std.proofs.Common.{◌≡◌, ◌+◌, ◌*◌, take, drop}
use Rattle.frames.specs.Lists.{add_up, parts, every}
use Rattle.frames.specs.Reading.{holds}
use Rattle.parity_found.specs.Ready.{found_in}
use Rattle.parity_reader.proofs.verify.all_held.Given as goal

abbrev pub invariant-loop-n : goal.invariant-loop-n
invariant-loop-n l =
    (l.at ≡ add_up (take l.n-index l.g.frames.lengths.now))
    × (every (holds l.g.shape.k (l.group * (l.g.shape.k + 2)) (found_in l.g)) (parts l.g.frames.bytes.now l.g.frames.lengths.now)
    ≡ every (holds l.g.shape.k (l.group * (l.g.shape.k + 2)) (found_in l.g)) (drop l.n-index (parts l.g.frames.bytes.now l.g.frames.lengths.now)))
