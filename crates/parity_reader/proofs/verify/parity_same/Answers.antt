-- `parity_reader::verify::parity_same` meets its contract: the parity shard made, and compared.
use Rattle.std.proofs.Common.{◌≤◌, ◌+◌, ℕ, length, length-take-le, sym, ap, ◌∙◌, arith}
use Rattle.parity_reader.specs.VerifyLaws.{same_part, made_parity, row_fits, row_prefix, row_is, most_small}
use Rattle.parity_reader.proofs.verify.parity_same.Goals as goal

pub overflow_add-size : goal.overflow_add-size
overflow_add-size c =
    let m = most_small c.args.g.now c.requires.1 in
    record { fits = omega (arith, m, c.requires.4, c.args.g.now.shape.small) }

pub slice_bounds-row-end : goal.slice_bounds-row-end
slice_bounds-row-end c =
    let m = most_small c.args.g.now c.requires.1 in
    omega (arith, m, c.blank-row.ensures, c.requires.4, c.args.g.now.shape.small)

pub slice_bounds-parity_row-end : goal.slice_bounds-parity_row-end
slice_bounds-parity_row-end c =
    let m = most_small c.args.g.now c.requires.1 in
    let l : c.args.most + 2 ≤ length c.blank-row.result = omega (arith, m, c.blank-row.ensures, c.requires.4, c.args.g.now.shape.small) in
    sym (length-take-le (c.args.most + 2) c.blank-row.result l)

pub parity_row-requires : goal.parity_row-requires
parity_row-requires c =
    let m = most_small c.args.g.now c.requires.1 in
    let l : c.args.most + 2 ≤ length c.blank-row.result = omega (arith, m, c.blank-row.ensures, c.requires.4, c.args.g.now.shape.small) in
    (c.requires.0, c.requires.1, length-take-le (c.args.most + 2) c.blank-row.result l ∙ ap (λ (q : ℕ). q + 2) c.requires.4)

pub slice_bounds-row-end-2 : goal.slice_bounds-row-end-2
slice_bounds-row-end-2 c = row_fits _ _ _ _ _ c.parity_row.ensures (ap (λ (q : ℕ). q + 2) c.requires.4)

pub slice_bounds-eq-end-2 : goal.slice_bounds-eq-end-2
slice_bounds-eq-end-2 c = row_prefix _ _ _ _ _ c.parity_row.ensures (ap (λ (q : ℕ). q + 2) c.requires.4)

pub returns : goal.returns
returns c = c.eq.ensures ∙ same_part _ c.args.at c.args.n _ _ (row_is _ _ _ _ _ c.parity_row.ensures (ap (λ (q : ℕ). q + 2) c.requires.4)
    ∙ made_parity _ _ _ c.requires.3)
