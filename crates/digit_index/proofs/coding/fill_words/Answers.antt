use Rattle.std.proofs.Common.{◌-◌, ◌^◌, ◌||◌, length, get_or, ap, ◌∙◌, refl, arith}
use Rattle.std.proofs.lemmas.List.{length-set}
use Rattle.bits_law.specs.Numbers.{has_bit}
use Rattle.digit_index.proofs.DigitLemmas.{none_filled, one_filled, filled_to}
use Rattle.digit_index.proofs.coding.fill_words.Goals as goal

pub loop-part-init : goal.loop-part-init
loop-part-init c = record {
  long = refl;
  least = omega arith;
  most = omega arith;
  bits = λ k i l u. none_filled (has_bit (get_or c.args.words.now k 0) i) c.args.from k;
}

pub loop-part-preserved : goal.loop-part-preserved
loop-part-preserved c =
    let i = c.loop-part.invariant in
    record {
      long = length-set c.loop-part.words c.loop-part.part (2 ^ 64 - 1) ∙ i.long;
      least = omega (arith, i.least);
      most = omega (arith, i.least, c.loop-part-test.true);
      bits = λ k j l u. one_filled c.loop-part.words c.args.from c.loop-part.part k j (has_bit (get_or c.args.words.now k 0) j) (omega (arith, l, i.long)) u i.least (i.bits k j l u);
    }

pub returns-clause-bits : goal.returns-clause-bits
returns-clause-bits c = λ k i l u.
    c.loop-part.invariant.bits k i l u
    ∙ ap (λ b. has_bit (get_or c.args.words.now k 0) i || b) (filled_to c.args.from c.args.to c.loop-part.part (length c.args.words.now) k c.min-part-end.result l c.min-part-end.ensures c.loop-part-test.false c.loop-part.invariant.most)
