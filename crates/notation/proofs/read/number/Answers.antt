-- `notation::read::number` meets its contract: after i bytes, all of them digits, the number so far and the bytes left have
-- the value of the word.
use Rattle.std.proofs.Common.{◌≡◌, sym, ◌∙◌, ◌+◌, ◌*◌, ◌-◌, get_or, arith, rules}
use Rattle.notation.specs.Words.{is_digit}
use Rattle.notation.specs.WordLaws.{is_empty, has_zero, no_digits, is_number, every_more, every_stop, every_end, value_more, value_end, too_many}
use Rattle.notation.proofs.read.number.Goals as goal
use Rattle.notation.proofs.read.number.Goals.{then-is_empty-via-then-is_empty, then-is_empty-via-else-is_empty+then-leading_zero}

pub returns-then-is_empty : goal.returns-then-is_empty
returns-then-is_empty c =
    elim c.then-is_empty.branch [
      | then-is_empty-via-then-is_empty w ↦ sym (is_empty _ (search rules))
      | then-is_empty-via-else-is_empty+then-leading_zero w ↦ sym (has_zero _ (sym w.leading_zero.ensures ∙ w.if-leading_zero.true))
    ]

pub returns-in_err-digit : goal.returns-in_err-digit
returns-in_err-digit c =
    let l = c.loop-c in
    c.from_residual.ensures
    ∙ sym (no_digits _ (l.invariant.digits ∙ every_stop is_digit _ l.c-index (search rules) (c.in_err-digit.ensures)))

pub returns-in_err-checked_mul : goal.returns-in_err-checked_mul
returns-in_err-checked_mul c =
    let l = c.loop-c in
    c.from_residual-in_err-checked_mul.ensures
    ∙ sym (too_many _ l.c-index l.n (search rules) l.invariant.whole (omega (arith, c.in_err-checked_mul.ensures)))

pub returns-in_err-n : goal.returns-in_err-n
returns-in_err-n c =
    let l = c.loop-c in
    c.from_residual-in_err-n.ensures
    ∙ sym (too_many _ l.c-index l.n (search rules) l.invariant.whole
    (omega (arith, c.in_err-n.ensures, c.in_ok-checked_mul.ensures, c.in_ok-digit.ensures)))

pub loop-c-preserved : goal.loop-c-preserved
loop-c-preserved c =
    let l = c.loop-c in
    let next : c.in_ok-n.n ≡ 10 * l.n + (get_or c.args.s.now l.c-index 0 - 48) =
    omega (arith, c.in_ok-n.ensures, c.in_ok-checked_mul.ensures, c.in_ok-digit.ensures) in
    record {
      small = search rules;
      digits = l.invariant.digits ∙ every_more is_digit _ l.c-index (search rules) (c.in_ok-digit.ensures).0;
      whole = rw next (l.invariant.whole ∙ value_more _ l.c-index l.n (search rules));
    }

pub returns : goal.returns
returns c =
    let l = c.loop-c in
    let s = c.args.s.now in
    let all : _ ≡ l.n = l.invariant.whole ∙ value_end s l.c-index l.n (omega arith) in
    let digits = l.invariant.digits ∙ every_end is_digit s l.c-index (omega arith) in
    let no_zero = sym c.leading_zero.ensures ∙ c.if-leading_zero.false in
    sym (rw all at (is_number s (search rules) no_zero digits (omega (arith, all))))
