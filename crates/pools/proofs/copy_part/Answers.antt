-- `pools::copy_part` meets its contract: the first i bytes stand in `out`.
use Rattle.std.specs.Prelude.{◌≡◌, List, ℕ, ◌+◌, ◌≤◌, ◌<◌, length, drop, get_or, set}
use Rattle.std.proofs.Common.{refl, arith, append_assoc, length-take, length-drop}
use Rattle.std.proofs.lemmas.List.{get_or-drop}
use Rattle.std.proofs.lemmas.List.Edits.{sets, sets-eq, paste_none, paste_more}
use lib.Seq.{paste}
use Rattle.pools.specs.Parts.{part}
use Rattle.pools.proofs.copy_part.Goals as goal

module _ (src out : List ℕ) (from at len : ℕ) (h : from + len ≤ length src) (g : at + len ≤ length out) where
  next : (l : List ℕ) (i : ℕ) → l ≡ paste out at (drop from src) i → i < len
      → set l (at + i) (get_or src (from + i) 0) ≡ paste out at (drop from src) (i + 1)
  next l i e k =
      let long : i < length (drop from src) = rw (length-drop from src) (omega arith) in
      rw (e, ← get_or-drop from src i 0) (paste_more out at (drop from src) i 0 (omega arith) long)

  all : paste out at (drop from src) len ≡ sets out at (part src from len)
  all =
      let long : length (part src from len) ≡ len = rw (length-take, length-drop) (omega arith) in
      rw (sets-eq (part src from len) out at (omega (arith, long)), long, append_assoc) refl

pub loop-i-init : goal.loop-i-init
loop-i-init c = paste_none c.args.out.now c.args.at (drop c.args.from c.args.src.now)

pub loop-i-preserved : goal.loop-i-preserved
loop-i-preserved c =
    let a = c.args in
    next a.src.now a.out.now a.from a.at a.len (omega arith) (omega arith) c.loop-i.out c.loop-i.i c.loop-i.invariant (omega arith)

pub returns : goal.returns
returns c =
    let a = c.args in
    let end : c.loop-i.i ≡ a.len = omega arith in
    rw (c.loop-i.invariant, end) (all a.src.now a.out.now a.from a.at a.len (omega arith) (omega arith))
