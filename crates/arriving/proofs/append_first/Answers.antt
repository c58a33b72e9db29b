-- `append_first` writes the first k words of the other array behind its n.
use Rattle.std.proofs.Common.{◌≡◌, ◌∙◌, List, ◌++◌, ℕ, ◌+◌, ◌≤◌, length, take, arith}
use Rattle.std.proofs.lemmas.List.Edits.{paste_none, paste_more, length-paste, take-paste}
use lib.Seq.{paste}
use Rattle.words.specs.Words.{Front}
use Rattle.arriving.proofs.append_first.Goals as goal

appended : (l other : List ℕ) (n k : ℕ) → length l ≡ 128 → length other ≡ 128 → n + k ≤ 128
    → Front 128 (paste l n other k) (n + k) (take n l ++ take k other)
appended l other n k e f h = record {
  whole = length-paste l n other k (omega arith) (omega arith) ∙ e;
  fits = h;
  list = take-paste l n other k (omega arith) (omega arith);
}

pub loop-i-init : goal.loop-i-init
loop-i-init c = paste_none c.args.list.now c.args.n c.args.other.now

pub loop-i-preserved : goal.loop-i-preserved
loop-i-preserved c = rw c.loop-i.invariant (paste_more c.args.list.now c.args.n c.args.other.now c.loop-i.i 0 (omega arith) (omega arith))

pub returns : goal.returns
returns c =
    let end : c.loop-i.i ≡ c.args.k = omega arith in
    rw (c.loop-i.invariant, end) (appended c.args.list.now c.args.other.now c.args.n c.args.k c.told-list c.told-other (omega arith))
