use Rattle.std.proofs.Common.{eqb, take, sym, ◌∙◌, arith}
use Rattle.std.proofs.lemmas.Bool.{eq-eqb, ne_eqb, cond-true, cond-false}
use Rattle.std.proofs.lemmas.List.Sums.{prefix_len-le-length}
use Rattle.std.proofs.lemmas.Simd.{length-chunk}
use Rattle.plain_cells.specs.Own.{stands_bare}
use Rattle.plain_cells.proofs.LaneLemmas.{first_other}
use Rattle.plain_cells.proofs.texts.leading_bare.Goals as goal

pub returns-then-escaped-eq0-clause-value : goal.returns-then-escaped-eq0-clause-value
returns-then-escaped-eq0-clause-value c =
    let v = take 16 c.args.text.now in
    let long = length-chunk 0 16 c.args.text.now c.requires in
    let m = c.escaped_marks-escaped.result in
    sym (cond-true (eqb m 0) 16 _ (eq-eqb m 0 c.if-escaped-eq0.true)) ∙ first_other stands_bare v 16 m long (omega arith) c.escaped_marks-escaped.ensures

pub returns-else-escaped-eq0-clause-value : goal.returns-else-escaped-eq0-clause-value
returns-else-escaped-eq0-clause-value c =
    let v = take 16 c.args.text.now in
    let long = length-chunk 0 16 c.args.text.now c.requires in
    let m = c.escaped_marks-escaped.result in
    sym (cond-false (eqb m 0) 16 _ (ne_eqb m 0 c.if-escaped-eq0.false)) ∙ first_other stands_bare v 16 m long (omega arith) c.escaped_marks-escaped.ensures

pub returns-else-escaped-eq0-clause-within : goal.returns-else-escaped-eq0-clause-within
returns-else-escaped-eq0-clause-within c =
    let v = take 16 c.args.text.now in
    let long = length-chunk 0 16 c.args.text.now c.requires in
    omega (arith, long, returns-else-escaped-eq0-clause-value c, prefix_len-le-length stands_bare v)
