use Rattle.std.proofs.Common.{eqb, take, sym, ◌∙◌, arith}
use Rattle.std.proofs.lemmas.Bool.{eq-eqb, ne_eqb, cond-true, cond-false}
use Rattle.std.proofs.lemmas.List.Sums.{prefix_len-le-length}
use Rattle.std.proofs.lemmas.Simd.{length-chunk}
use Rattle.value_reading.specs.Addresses.{is_hexadecimal}
use Rattle.plain_cells.proofs.LaneLemmas.{first_other}
use Rattle.plain_cells.proofs.groups.leading_hexadecimal.Goals as goal

pub returns-then-others-eq0-clause-value : goal.returns-then-others-eq0-clause-value
returns-then-others-eq0-clause-value c =
    let v = take 16 c.args.text.now in
    let long = length-chunk 0 16 c.args.text.now c.requires in
    let m = c.other_marks-others.result in
    sym (cond-true (eqb m 0) 16 _ (eq-eqb m 0 c.if-others-eq0.true)) ∙ first_other is_hexadecimal v 16 m long (omega arith) c.other_marks-others.ensures

pub returns-else-others-eq0-clause-value : goal.returns-else-others-eq0-clause-value
returns-else-others-eq0-clause-value c =
    let v = take 16 c.args.text.now in
    let long = length-chunk 0 16 c.args.text.now c.requires in
    let m = c.other_marks-others.result in
    sym (cond-false (eqb m 0) 16 _ (ne_eqb m 0 c.if-others-eq0.false)) ∙ first_other is_hexadecimal v 16 m long (omega arith) c.other_marks-others.ensures

pub returns-else-others-eq0-clause-within : goal.returns-else-others-eq0-clause-within
returns-else-others-eq0-clause-within c =
    let v = take 16 c.args.text.now in
    let long = length-chunk 0 16 c.args.text.now c.requires in
    omega (arith, long, returns-else-others-eq0-clause-value c, prefix_len-le-length is_hexadecimal v)
