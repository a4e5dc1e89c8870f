use Rattle.std.proofs.Common.{◌≡◌, ◌+◌, suc, get_or, take, ap, sym, ◌∙◌, subst, arith}
use Rattle.digit_index.specs.Digits.{AreBases, width}
use Rattle.digit_index.proofs.DigitLemmas.{width-more, columns-most}
use Rattle.digit_index.proofs.coding.width.Goals as goal

pub loop-j-preserved : goal.loop-j-preserved
loop-j-preserved c =
    let bases = c.as_slice-bases.result.now in
    let j = c.loop-j.j in
    let one : suc j ≡ j + 1 = omega arith in
    let are = subst AreBases (sym c.as_slice-bases.ensures.value) c.as_slice-bases.ensures.are in
    let more = width-more c.args.coding bases j c.loop-j-test.true in
    let most = are.most j c.loop-j-test.true in
    let columns = columns-most c.args.coding (get_or bases j 0) in
    record {
      columns = ap (λ n. n + c.columns_of-columns.result) c.loop-j.invariant.columns ∙ ap (λ n. width c.args.coding (take j bases) + n) c.columns_of-columns.ensures ∙ sym more ∙ ap (λ i. width c.args.coding (take i bases)) one;
      few = omega (arith, c.loop-j.invariant.few, c.columns_of-columns.ensures, most, columns);
    }
