use Rattle.std.proofs.Common.{◌≡◌, ◌≤◌, ◌^◌, length, ap, ◌∙◌, arith}
use Rattle.value_reading.specs.Escapes.{unescaped}
use Rattle.value_reading.proofs.EscapeLemmas.{length-unescaped}
use Rattle.value_reading.proofs.reading.undone_read.Goals as goal

pub returns-clause-bounded : goal.returns-clause-bounded
returns-clause-bounded c = λ few.
    let undone : c.in_ok-text.text ≡ unescaped c.args.raw.now = c.in_ok-text.ensures in
    let long : length c.as_slice.result.now ≡ length (unescaped c.args.raw.now) = ap length (c.as_slice.ensures ∙ undone) in
    let short : length c.as_slice.result.now ≤ 2 ^ 24 = omega (arith, length-unescaped c.args.raw.now) in
    c.one_of.ensures.bounded short
