-- `transcript::datagrams` meets its contract: what is put, and the lines of the datagrams that are left, are all the lines.
use Rattle.std.proofs.Common.{drop, take}
use Rattle.notation.specs.PutLaws.{Partly}
use Rattle.transcript.specs.Lines.{datagram_lines}
use Rattle.transcript.proofs.datagrams.Given as goal

abbrev pub invariant-loop-len : goal.invariant-loop-len
invariant-loop-len l =
    Partly l.initial.out l.at (datagram_lines l.packed (take l.n l.lengths)) l.here l.out (datagram_lines l.rest (drop l.len-index l.first))
